-- After i turns the working variables are those of 8 * i rounds, by eight, and then the first i words are sums, by sums.
use Rattle.std.proofs.Common.{◌≡◌, ◌*◌, ap, ◌∙◌, arith, rules, length-set, length, ◌<◌, ◌≢◌, get_or-set_other, get_or-set_same, below_more}
use Rattle.sha256.specs.Sha256.{◌⊞◌, compressed, added, rounds}
use Rattle.sha256.proofs.RoundLaws.{none, eight, sums}
use Rattle.sha256.proofs.compress.Goals as goal

pub loop-i-init : goal.loop-i-init
loop-i-init c = (search rules, none _ _)

pub loop-i-preserved : goal.loop-i-preserved
loop-i-preserved c = (search rules, eight _ _ _ _ c.loop-i.i c.loop-i.invariant.1 c.rounds8.ensures)

pub loop-i-2-preserved : goal.loop-i-2-preserved
unfolding ◌⊞◌
loop-i-2-preserved c =
    let l = c.loop-i-2 in
    let lt : l.i < length l.h = omega (arith, l.invariant.eight) in
    record {
      eight = simp length-set l.invariant.eight;
      added = below_more _ _
          (λ k h. let ne : k ≢ l.i = omega arith in rw get_or-set_other (l.invariant.added k h))
          (rw (get_or-set_same, l.invariant.left l.i (omega arith)));
      left = λ k h. let ne : k ≢ l.i = omega arith in rw get_or-set_other (l.invariant.left k (omega arith));
    }

pub returns : goal.returns
unfolding compressed
returns c =
    let l = c.loop-i-2 in
    let e : 8 * c.loop-i.i ≡ 64 = omega arith in
    sums l.h c.args.h.now c.loop-i.v l.invariant.eight (λ k h. l.invariant.added k (omega arith))
    ∙ ap (added c.args.h.now) (c.loop-i.invariant.1 ∙ ap (λ n. rounds c.schedule-w.result c.args.h.now n) e ∙ ap (λ w. rounds w c.args.h.now 64) c.schedule-w.ensures)
