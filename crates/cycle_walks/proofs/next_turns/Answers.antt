-- The places of the walks that went on and go on still come first, and behind them those of the walks whose turn is not taken yet (places-next); each
-- turn brings its walk further (walking-next).
use native.Mathlib.Omega.{arith}
use Prim.Native.Nat.{ℕ, ◌+◌, ◌^◌, ◌≤◌, ◌<◌}
use mathlib.Core.Path.{◌≡◌, subst, ◌∙◌}
use lib.Dec.{lit<}
use lib.ListN.{length, get_or, length-set}
use Rattle.cycle_walks.specs.Each.{Walking}
use Rattle.cycle_walks.proofs.EachLaws.{set-kept, one_is}
use Rattle.cycle_walks.proofs.PlaceLaws.{place_in, one_at_most, places-next}
use Rattle.cycle_walks.proofs.WalkingLaws.{turn_below, walking-next}
use Rattle.cycle_walks.proofs.next_turns.Goals as goal
use Rattle.cycle_walks.proofs.next_turns.Goals.{In-loop-at}

-- the place that comes next is that of a walk that goes on
next : (c : In-loop-at)
    → (get_or c.loop-at.places c.loop-at.at 0 < length c.args.ends.now)
    × (c.args.t.of.d ≤ get_or c.loop-at.ends (get_or c.loop-at.places c.loop-at.at 0) 0)
next c =
    let l = c.loop-at in
    place_in c.args.t.of.d l.places l.ends (length c.args.ends.now) c.args.left l.still l.at c.loop-at-test.true
    (omega (arith, l.invariant.2, c.requires.0, c.requires.1)) l.invariant.3

pub offset_bounds-ends-i : goal.offset_bounds-ends-i
offset_bounds-ends-i c = omega (arith, (next (goal.at.offset_bounds-ends-i c).In-loop-at).0, c.requires.0)

pub bounds-ends-i : goal.bounds-ends-i
bounds-ends-i c = omega (arith, (next (goal.at.bounds-ends-i c).In-loop-at).0, c.loop-at.invariant.1)

pub undone-requires : goal.undone-requires
undone-requires c =
    (lit< tt, one_is (λ v. v < 4 ^ c.args.t.of.h) _ (c.loop-at.invariant.4 _ (next (goal.at.undone-requires c).In-loop-at).0))

pub offset_bounds-ends-i-in-loop-at : goal.offset_bounds-ends-i-in-loop-at
offset_bounds-ends-i-in-loop-at c = omega (arith, (next (goal.at.offset_bounds-ends-i-in-loop-at c).In-loop-at).0, c.requires.0)

pub bounds-ends-i-in-loop-at : goal.bounds-ends-i-in-loop-at
bounds-ends-i-in-loop-at c = omega (arith, (next (goal.at.bounds-ends-i-in-loop-at c).In-loop-at).0, c.loop-at.invariant.1)

pub loop-at-preserved : goal.loop-at-preserved
loop-at-preserved c =
    let p = c.args.t.of in
    let n = length c.args.ends.now in
    let l = c.loop-at in
    let v = get_or c.undone.result 0 0 in
    let led = c.undone.ensures 0 (lit< tt) in
    let i = get_or l.places l.at 0 in
    let at = next (goal.at.loop-at-preserved c).In-loop-at in
    let there : i < length l.ends = omega (arith, at.0, l.invariant.1) in
    let long : c.args.left ≤ length l.places = omega (arith, l.invariant.2, c.requires.0, c.requires.1) in (
      omega (arith, one_at_most p.d v l.still c.counted-still.result c.counted-still.ensures, l.invariant.0),
      length-set l.ends i _ ∙ l.invariant.1,
      length-set l.places l.still _ ∙ l.invariant.2,
      places-next p.d l.places l.ends n c.args.left l.still l.at v c.counted-still.result l.invariant.0 c.loop-at-test.true long there l.invariant.3 c.counted-still.ensures,
      set-kept (λ j u. u < 4 ^ p.h) l.ends i _ there (turn_below p.key p.d p.h p.half _ _ (l.invariant.4 i at.0) led) n l.invariant.4,
      λ xs t b k.
          let z : t + l.at + 1 ≡ t + (l.at + 1) = omega arith in
          subst (Walking p.key p.d n xs _) z (walking-next p.key p.d p.h p.half xs l.ends n i v (t + l.at) at.0 there b at.1 led (l.invariant.5 xs t b k)),
    )

pub returns-clause-by_index : goal.returns-clause-by_index
returns-clause-by_index c = λ xs m b k.
    let p = c.args.t.of in
    let l = c.loop-at in
    let all : l.at ≡ c.args.left = omega arith in
    subst (λ (j : ℕ). Walking p.key p.d (length c.args.ends.now) xs l.ends (m + j)) all (l.invariant.5 xs m b k)
