-- What is done and what is left stay the cards with their draws closed, by closed-next.
use Prim.Native.Nat.{ℕ}
use Rattle.pools.proofs.PoolLaws.{closed_is}
use Rattle.pools.proofs.PoolLaws.{closed-length, closed-behind, closed-next, closed-done}
use Rattle.pools.proofs.CutLaws.{card, here, two-more, every_here}
use Rattle.cards.proofs.FaultLaws.{readable, turned-over}
use Rattle.scheme.specs.Pools.{cut_fault, cut, every}
use Rattle.scheme.specs.Records.{card_head}
use native.Mathlib.Omega.{arith}
use mathlib.Core.List.{List}
use mathlib.Core.Path.{refl, sym, ap, ◌∙◌}
use Rattle.pools.proofs.close_all.Goals as goal

pub loop-at-init : goal.loop-at-init
loop-at-init c = (omega arith, c.requires.0, c.requires.1, refl, refl)

pub long_at-requires : goal.long_at-requires
long_at-requires c = two-more c.loop-at.cards c.loop-at.at c.loop-at-test.true c.loop-at.invariant.1

pub overflow_add-end : goal.overflow_add-end
overflow_add-end c =
    let l = c.loop-at in
    let h = here l.cards l.at c.long_at.result c.long_at.ensures.0 c.loop-at-test.true l.invariant.1 in
    omega (arith, h.room)

pub slice_bounds-read_card-end : goal.slice_bounds-read_card-end
slice_bounds-read_card-end c =
    let l = c.loop-at in
    let h = here l.cards l.at c.long_at.result c.long_at.ensures.0 c.loop-at-test.true l.invariant.1 in
    omega (arith, h.room)

pub read_card-c-requires : goal.read_card-c-requires
read_card-c-requires c =
    let l = c.loop-at in
    let h = here l.cards l.at c.long_at.result c.long_at.ensures.0 c.loop-at-test.true l.invariant.1 in
    readable (card l.cards l.at c.long_at.result) (every_here card_head l.cards l.at c.long_at.result h l.invariant.2).0

pub slice_bounds-write_card-end : goal.slice_bounds-write_card-end
slice_bounds-write_card-end c =
    let l = c.loop-at in
    let h = here l.cards l.at c.long_at.result c.long_at.ensures.0 c.loop-at-test.true l.invariant.1 in
    omega (arith, h.room)

pub write_card-requires : goal.write_card-requires
write_card-requires c =
    let l = c.loop-at in
    let n = c.long_at.result in
    let h = here l.cards l.at n c.long_at.ensures.0 c.loop-at-test.true l.invariant.1 in
    turned-over (card l.cards l.at n) c.read_card-c.result c.read_card-c.ensures (every_here card_head l.cards l.at n h l.invariant.2).0 c.turned-after.result _ _ c.turned-after.ensures

pub loop-at-smaller : goal.loop-at-smaller
loop-at-smaller c =
    let l = c.loop-at in
    let n = c.long_at.result in
    let h = here l.cards l.at n c.long_at.ensures.0 c.loop-at-test.true l.invariant.1 in
    let head = (every_here card_head l.cards l.at n h l.invariant.2).0 in
    let e = closed_is (card l.cards l.at n) _ c.read_card-c.result c.turned-after.result c.read_card-c.ensures c.turned-after.ensures c.write_card.ensures in
    omega (arith, h.room, h.least, closed-length l.cards l.at n h head _ e)

pub loop-at-preserved : goal.loop-at-preserved
loop-at-preserved c =
    let l = c.loop-at in
    let n = c.long_at.result in
    let h = here l.cards l.at n c.long_at.ensures.0 c.loop-at-test.true l.invariant.1 in
    let heads = every_here card_head l.cards l.at n h l.invariant.2 in
    let e = closed_is (card l.cards l.at n) _ c.read_card-c.result c.turned-after.result c.read_card-c.ensures c.turned-after.ensures c.write_card.ensures in
    let long = closed-length l.cards l.at n h heads.0 _ e in
    let behind = closed-behind l.cards l.at n h heads.0 _ e in (
      omega (arith, h.room, long),
      ap cut_fault behind ∙ h.later,
      ap (λ (x : List ℕ). every card_head (cut x)) behind ∙ heads.1,
      long ∙ l.invariant.3,
      l.invariant.4 ∙ closed-next l.cards l.at n h heads.0 _ e,
    )

pub shape_of-cards : goal.shape_of-cards
shape_of-cards c = c.loop-at.invariant.3

pub returns : goal.returns
returns c =
    let l = c.loop-at in
    closed-done l.cards l.at (omega (arith, c.loop-at-test.false)) ∙ sym l.invariant.4
