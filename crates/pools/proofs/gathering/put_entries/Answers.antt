-- What is written and what is left of the replies, by entry_next.
use Rattle.pools.proofs.GatherLaws.{second-room, entry_length, entry_next, entry_done}
use Rattle.octets.proofs.PartLaws.{length_part}
use lib.ListN.{length}
use native.Mathlib.Omega.{arith}
use mathlib.Core.Path.{refl, sym, ◌∙◌}
use Prim.Native.Nat.{◌+◌, ◌-◌, ◌≤◌}
use Rattle.pools.proofs.gathering.put_entries.Goals as goal

pub loop-at-init : goal.loop-at-init
loop-at-init c = (omega arith, omega (arith, c.requires.0), omega (arith, c.requires.1), refl, refl)

pub overflow_add-a : goal.overflow_add-a
overflow_add-a c = omega (arith, c.loop-at.invariant.1, c.loop-at-test.true)

pub overflow_add-b : goal.overflow_add-b
overflow_add-b c = omega (arith, c.loop-at.invariant.1, c.loop-at-test.true)

pub overflow_add-d : goal.overflow_add-d
overflow_add-d c = omega (arith, c.loop-at.invariant.1, c.loop-at-test.true)

pub overflow_add-e : goal.overflow_add-e
overflow_add-e c = omega (arith, c.loop-at.invariant.1, c.loop-at-test.true)

pub slice_bounds-copy-end : goal.slice_bounds-copy-end
slice_bounds-copy-end c = omega (arith, c.loop-at.invariant.1, c.loop-at-test.true)

pub copy-requires : goal.copy-requires
copy-requires c =
    let l = c.loop-at in
    omega (arith, l.invariant.1, l.invariant.2, c.loop-at-test.true, length_part (l.at + 3) (l.at + 3 + 12 - (l.at + 3)) c.args.replies.now (omega (arith, l.invariant.1, c.loop-at-test.true)))

pub slice_bounds-copy-end-in-loop-at : goal.slice_bounds-copy-end-in-loop-at
slice_bounds-copy-end-in-loop-at c = omega (arith, c.loop-at.invariant.1, c.loop-at-test.true)

pub copy-requires-in-loop-at : goal.copy-requires-in-loop-at
copy-requires-in-loop-at c =
    let l = c.loop-at in
    let a = c.args.replies.now in
    let j = l.at + 3 + 12 - (l.at + 3) in
    let k = l.at + 47 + 63 - (l.at + 47) in
    let here : l.at + 110 ≤ length a = omega (arith, l.invariant.1, c.loop-at-test.true) in
    let there : l.to + 75 ≤ length l.pooled = omega (arith, l.invariant.2, l.invariant.1, here) in
    second-room a l.pooled l.at l.to here there j k (omega arith) (omega arith) _ c.copy.ensures

pub overflow_add-at : goal.overflow_add-at
overflow_add-at c = omega (arith, c.loop-at.invariant.1, c.loop-at-test.true)

pub overflow_add-to : goal.overflow_add-to
overflow_add-to c = omega (arith, c.loop-at.invariant.2, c.loop-at.invariant.1, c.loop-at-test.true)

pub loop-at-smaller : goal.loop-at-smaller
loop-at-smaller c = omega (arith, c.loop-at.invariant.1, c.loop-at-test.true)

pub loop-at-preserved : goal.loop-at-preserved
loop-at-preserved c =
    let l = c.loop-at in
    let a = c.args.replies.now in
    let j = l.at + 3 + 12 - (l.at + 3) in
    let k = l.at + 47 + 63 - (l.at + 47) in
    let here : l.at + 110 ≤ length a = omega (arith, l.invariant.1, c.loop-at-test.true) in
    let there : l.to + 75 ≤ length l.pooled = omega (arith, l.invariant.2, l.invariant.1, c.loop-at-test.true) in
    let long = entry_length a l.pooled l.at l.to here there j k (omega arith) (omega arith) _ c.copy.ensures _ c.copy-in-loop-at.ensures in (
      here,
      omega (arith, l.invariant.1, here),
      omega (arith, l.invariant.2, l.invariant.1, here, long),
      long ∙ l.invariant.3,
      l.invariant.4 ∙ entry_next a l.pooled l.at l.to here there j k (omega arith) (omega arith) _ c.copy.ensures _ c.copy-in-loop-at.ensures,
    )

pub shape_of-pooled : goal.shape_of-pooled
shape_of-pooled c = c.loop-at.invariant.3

pub returns : goal.returns
returns c =
    let l = c.loop-at in
    let a = c.args in
    entry_done a.replies.now l.pooled l.at l.to (omega (arith, c.loop-at-test.false)) (omega (arith, l.invariant.2, c.loop-at-test.false)) ∙ sym l.invariant.4
