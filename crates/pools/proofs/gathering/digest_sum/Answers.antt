-- The sum so far and what is left of the replies, by digest-next.
use Rattle.pools.proofs.GatherLaws.{digest-long, digest-next, digest-done}
use Rattle.octets.proofs.PartLaws.{length_part}
use native.Mathlib.Omega.{arith}
use mathlib.Core.Path.{refl, sym, ◌∙◌}
use Prim.Native.Nat.{◌+◌, ◌-◌}
use Rattle.pools.proofs.gathering.digest_sum.Goals as goal

pub loop-from-init : goal.loop-from-init
loop-from-init c = (refl, omega arith, omega (arith, c.requires), refl)

pub overflow_add-a : goal.overflow_add-a
overflow_add-a c = omega (arith, c.loop-from.invariant.2, c.loop-from-test.true)

pub overflow_add-e : goal.overflow_add-e
overflow_add-e c = omega (arith, c.loop-from.invariant.2, c.loop-from-test.true)

pub slice_bounds-xor_into-end : goal.slice_bounds-xor_into-end
slice_bounds-xor_into-end c = omega (arith, c.loop-from.invariant.2, c.loop-from-test.true)

pub xor_into-requires : goal.xor_into-requires
xor_into-requires c =
    let l = c.loop-from in
    omega (arith, l.invariant.3, length_part (l.from + 15) (l.from + 15 + 32 - (l.from + 15)) c.args.replies.now (omega (arith, l.invariant.2, c.loop-from-test.true)))

pub overflow_add-from : goal.overflow_add-from
overflow_add-from c = omega (arith, c.loop-from.invariant.2, c.loop-from-test.true)

pub loop-from-smaller : goal.loop-from-smaller
loop-from-smaller c = omega (arith, c.loop-from.invariant.2, c.loop-from-test.true)

pub loop-from-preserved : goal.loop-from-preserved
loop-from-preserved c =
    let l = c.loop-from in
    let a = c.args.replies.now in
    let k = l.from + 15 + 32 - (l.from + 15) in (
      l.invariant.0 ∙ digest-next a l.from l.sum (omega (arith, l.invariant.2, c.loop-from-test.true)) k (omega arith) _ c.xor_into.ensures,
      omega (arith, l.invariant.2, c.loop-from-test.true),
      omega (arith, l.invariant.2, c.loop-from-test.true),
      digest-long a l.from l.sum (omega (arith, l.invariant.2, c.loop-from-test.true)) k (omega arith) l.invariant.3 _ c.xor_into.ensures,
    )

pub returns : goal.returns
returns c =
    let l = c.loop-from in
    sym (l.invariant.0 ∙ digest-done c.args.replies.now l.from l.sum (omega (arith, c.loop-from-test.false)))
