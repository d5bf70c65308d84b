-- What is left to ask stays, reply by reply, by heads-next.
use Rattle.pools.proofs.GatherLaws.{heads-failed, heads-next, heads_done}
use Rattle.octets.proofs.PartLaws.{length_part}
use native.Mathlib.Omega.{arith}
use mathlib.Core.Path.{refl, sym, ◌∙◌}
use Prim.Native.Nat.{◌+◌, ◌-◌}
use Rattle.pools.proofs.gathering.heads_fit.Goals as goal

pub loop-at-init : goal.loop-at-init
loop-at-init c = (omega arith, omega (arith, c.requires), refl)

pub overflow_add-end : goal.overflow_add-end
overflow_add-end c = omega (arith, c.loop-at.invariant.1)

pub slice_bounds-head_known-end : goal.slice_bounds-head_known-end
slice_bounds-head_known-end c = omega (arith, c.loop-at.invariant.1, c.loop-at-test.true)

pub head_known-fits-requires : goal.head_known-fits-requires
head_known-fits-requires c =
    let l = c.loop-at in
    omega (arith, length_part l.at (l.at + 110 - l.at) c.args.replies.now (omega (arith, l.invariant.1, c.loop-at-test.true)))

pub returns-then-not-fits : goal.returns-then-not-fits
returns-then-not-fits c =
    let l = c.loop-at in
    sym (l.invariant.2 ∙ heads-failed c.args.replies.now l.at (omega (arith, l.invariant.1, c.loop-at-test.true)) (sym c.head_known-fits.ensures ∙ c.if-not-fits.true))

pub loop-at-smaller : goal.loop-at-smaller
loop-at-smaller c = omega (arith, c.loop-at.invariant.1, c.loop-at-test.true)

pub loop-at-preserved : goal.loop-at-preserved
loop-at-preserved c =
    let l = c.loop-at in (
      omega (arith, l.invariant.1, c.loop-at-test.true),
      omega (arith, l.invariant.1, c.loop-at-test.true),
      l.invariant.2 ∙ heads-next c.args.replies.now l.at (omega (arith, l.invariant.1, c.loop-at-test.true)) (sym c.head_known-fits.ensures ∙ c.if-not-fits.false),
    )

pub returns : goal.returns
returns c =
    let l = c.loop-at in
    sym (l.invariant.2 ∙ heads_done c.args.replies.now l.at (omega (arith, c.loop-at-test.false)))
