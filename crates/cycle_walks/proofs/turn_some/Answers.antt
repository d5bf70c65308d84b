-- The walks are read first, and have taken their turns one after the other (passed-further).
use native.Mathlib.Omega.{arith}
use Prim.Native.Nat.{ℕ, ◌+◌, ◌<◌}
use mathlib.Core.Path.{◌≡◌, refl, ap, subst, ◌∙◌}
use lib.ListN.{get_or}
use Rattle.permutation.specs.Permutation.{eight_undone}
use Rattle.cycle_walks.specs.Along.{Passed}
use Rattle.cycle_walks.proofs.PlaceLaws.{one_at_most}
use Rattle.cycle_walks.proofs.PassLaws.{reached-below, passed-further}
use Rattle.cycle_walks.proofs.turn_some.Goals as goal

pub undone-us-requires : goal.undone-us-requires
undone-us-requires g c =
    let p = c.args.t.of in (
      omega arith,
      λ k b.
          let e = c.loop-k.invariant.1 k (omega (arith, c.loop-k-test.false, b)) in
          rw e (reached-below p.key p.d p.h p.half (c.requires.4 (c.args.at + k) (omega arith) (omega (arith, c.requires.3, b)))),
    )

pub loop-u-init : goal.loop-u-init
loop-u-init g c =
    let p = c.args.t.of in
    let z : c.args.at ≡ c.args.at + 0 = omega arith in
    (refl, omega arith, λ us under q. subst (λ (m : ℕ). Passed p.key p.d c.args.n us c.args.vs.now c.args.still m) z q)

pub kept-next-requires : goal.kept-next-requires
kept-next-requires g c =
    let l = c.loop-u in
    (omega (arith, l.invariant.0, l.invariant.1, c.loop-u-test.true, c.requires), omega (arith, l.invariant.0, c.requires.1))

pub loop-u-preserved : goal.loop-u-preserved
loop-u-preserved g c =
    let p = c.args.t.of in
    let l = c.loop-u in
    let k = l.u-index in
    let b : k < g.row.N = omega (arith, c.loop-u-test.true) in
    let v = get_or c.undone-us.result k 0 in
    let led : v ≡ eight_undone p.key p.d (get_or c.args.vs.now (c.args.at + k) 0) =
    c.undone-us.ensures k b ∙ ap (eight_undone p.key p.d) (c.loop-k.invariant.1 k (omega (arith, c.loop-k-test.false, b))) in (
      omega (arith, c.kept-next.auto, l.invariant.0),
      omega (arith, one_at_most p.d v l.next c.kept-next.result c.kept-next.ensures.1, l.invariant.1),
      λ us under q. passed-further p.key p.d under k (omega (arith, c.requires.3, b)) q led c.kept-next.ensures (l.invariant.2 us under q),
    )

pub returns : goal.returns
returns g c = λ us under q.
    let p = c.args.t.of in
    let l = c.loop-u in
    let all : l.u-index ≡ g.row.N = omega (arith, c.loop-u-test.false) in
    subst (λ (k : ℕ). Passed p.key p.d c.args.n us l.vs l.next (c.args.at + k)) all (l.invariant.2 us under q)
