-- The three lists are the lost data, the kept data and the sources; what is put is rebuilt, by rebuilt-is.
use mathlib.Core.Path.{sym, ◌∙◌}
use mathlib.Core.Bool.{not}
use Prim.Native.Nat.{◌≤◌}
use native.Mathlib.Omega.{arith}
use lib.ListN.{length, replicate}
use Rattle.erasure.specs.Group.{named, lost_data, kept_data}
use Rattle.parity.specs.Rebuilt.{sources}
use Rattle.parity.proofs.CallLaws.{front-is, front_length, lost-most, chosen-most, sources-front, within-sources, within-kept, data-part, solvable, rebuilt-is}
use Rattle.parity.proofs.rebuild_group.Goals as goal

pub slice_bounds-sources-end : goal.slice_bounds-sources-end
slice_bounds-sources-end c =
    omega (arith, c.choose-m.ensures.0, lost-most c.args.lost.now c.args.k c.args.p c.requires.lost_len_bound, c.requires.le_size, c.choose.auto.out)

pub slice_bounds-unknowns-end : goal.slice_bounds-unknowns-end
slice_bounds-unknowns-end c =
    omega (arith, c.choose-m.ensures.0, lost-most c.args.lost.now c.args.k c.args.p c.requires.lost_len_bound, c.requires.le_size, c.choose-m.auto.out)

pub slice_bounds-kept-end : goal.slice_bounds-kept-end
slice_bounds-kept-end c =
    omega (arith, c.choose-n.ensures.0, chosen-most (λ n. not (named c.args.lost.now n)) 0 c.args.k, c.requires.le_size, c.choose-n.auto.out)

pub slice_bounds-cs-end : goal.slice_bounds-cs-end
slice_bounds-cs-end c =
    omega (arith, c.choose-m.ensures.0, lost-most c.args.lost.now c.args.k c.args.p c.requires.lost_len_bound, c.requires.le_size)

pub slice_bounds-ws-end : goal.slice_bounds-ws-end
slice_bounds-ws-end c =
    omega (arith, c.choose-n.ensures.0, chosen-most (λ n. not (named c.args.lost.now n)) 0 c.args.k, c.requires.le_size)

pub rebuild_from-requires : goal.rebuild_from-requires
rebuild_from-requires c =
    let a = c.choose-m in
    let b = c.choose-n in
    let d = c.choose in
    let eu = front-is a.result d.new.out (sources c.args.lost.now c.args.k c.args.p) (sources-front c.args.lost.now c.args.k c.args.p a.result d.result d.new.out c.requires.lost_len_bound a.ensures.0 d.ensures.0 d.ensures.1) in
    let ev = front-is a.result a.new.out (lost_data c.args.lost.now c.args.k) a.ensures.1 in
    let eq = front-is b.result b.new.out (kept_data c.args.lost.now c.args.k) b.ensures.1 in
    let mu : a.result ≤ 16 = omega (arith, a.ensures.0, lost-most c.args.lost.now c.args.k c.args.p c.requires.lost_len_bound, c.requires.le_size) in
    let nq : b.result ≤ 48 = omega (arith, b.ensures.0, chosen-most (λ n. not (named c.args.lost.now n)) 0 c.args.k, c.requires.le_size) in record {
      solvable = solvable c.args.lost.now _ _ c.args.k c.args.p (omega (arith, c.requires.le_size)) c.requires.lost_len_bound eu ev;
      lost_named = ev;
      us_within = within-sources c.args.size c.args.k c.args.p (length c.args.blocks.now) c.args.lost.now c.requires.blocks_len _ eu;
      qs_within = within-kept c.args.size c.args.k c.args.p (length c.args.blocks.now) c.args.lost.now c.requires.blocks_len _ eq;
      whole = data-part c.args.size c.args.k c.args.p (length c.args.blocks.now) c.requires.blocks_len;
      cs_len = front_length a.result (replicate 16 0) mu ∙ sym (front_length a.result d.new.out (omega (arith, d.auto.out)));
      ws_len = front_length b.result (replicate 48 0) nq ∙ sym (front_length b.result b.new.out (omega (arith, b.auto.out)));
      group_len = c.requires.group_len;
    }

pub returns : goal.returns
returns c =
    let a = c.choose-m in
    let b = c.choose-n in
    let d = c.choose in
    let eu = front-is a.result d.new.out (sources c.args.lost.now c.args.k c.args.p) (sources-front c.args.lost.now c.args.k c.args.p a.result d.result d.new.out c.requires.lost_len_bound a.ensures.0 d.ensures.0 d.ensures.1) in
    let ev = front-is a.result a.new.out (lost_data c.args.lost.now c.args.k) a.ensures.1 in
    let eq = front-is b.result b.new.out (kept_data c.args.lost.now c.args.k) b.ensures.1 in
    rebuilt-is c.args.size c.args.k c.args.p c.args.lost.now _ _ _ c.args.blocks.now eu ev eq c.rebuild_from.ensures
