-- After each walk those so far have taken their first turn, by walking-first, and the places of those that go on come first, by places-first.
use borrow.Author.Rules.{rules}
use native.Mathlib.Omega.{arith}
use Prim.Native.Nat.{ℕ, ◌^◌, ◌<◌}
use mathlib.Core.Path.{◌≡◌, ap, subst, ◌∙◌}
use lib.Dec.{lit<}
use lib.ListN.{length, get_or, length-set}
use Rattle.cycle_walks.specs.Each.{Walking, going}
use Rattle.cycle_walks.proofs.EachLaws.{set_more, one_is}
use Rattle.cycle_walks.proofs.PlaceLaws.{one_at_most, places-none, places-first}
use Rattle.cycle_walks.proofs.WalkingLaws.{wide, turn_below, walking-none, walking-first}
use Rattle.cycle_walks.proofs.first_turns.Goals as goal

pub loop-i-init : goal.loop-i-init
loop-i-init c =
    let p = c.args.t.of in
    (omega arith, search rules, search rules, places-none p.d c.args.places.now c.args.ends.now, (λ j h. absurd (omega arith)), walking-none p.key p.d c.args.xs.now c.args.ends.now)

pub undone-requires : goal.undone-requires
undone-requires c =
    let p = c.args.t.of in
    (lit< tt, one_is (λ v. v < 4 ^ p.h) _ (wide p.d p.h _ p.half (c.requires.2 c.loop-i.i (omega (arith, c.requires.0, c.loop-i-test.true)))))

pub loop-i-preserved : goal.loop-i-preserved
loop-i-preserved c =
    let p = c.args.t.of in
    let l = c.loop-i in
    let v = get_or c.undone.result 0 0 in
    let led = c.undone.ensures 0 (lit< tt) in
    let there : l.i < length l.ends = omega (arith, l.invariant.1, c.loop-i-test.true, c.requires.0) in
    let room : l.left < length l.places = omega (arith, l.invariant.2, l.invariant.0, c.loop-i-test.true, c.requires.0, c.requires.1) in
    let below = c.requires.2 l.i (omega (arith, c.requires.0, c.loop-i-test.true)) in (
      omega (arith, one_at_most p.d v l.left c.counted-left.result c.counted-left.ensures, l.invariant.0),
      length-set l.ends l.i _ ∙ l.invariant.1,
      length-set l.places l.left _ ∙ l.invariant.2,
      places-first p.d l.places l.ends l.i l.left v c.counted-left.result there room l.invariant.3 c.counted-left.ensures,
      set_more (λ j u. u < 4 ^ p.h) l.ends l.i _ there (turn_below p.key p.d p.h p.half _ _ (wide p.d p.h _ p.half below) led) l.invariant.4,
      walking-first p.key p.d p.h p.half c.args.xs.now l.ends l.i v there below led l.invariant.5,
    )

pub returns : goal.returns
returns c =
    let p = c.args.t.of in
    let l = c.loop-i in
    let all : l.i ≡ length c.args.ends.now = omega (arith, c.requires.0, l.auto.i-end, c.loop-i-test.false) in record {
      upper_bound = (omega (arith, l.invariant.0, all), l.invariant.3 ∙ ap (λ (i : ℕ). going p.d l.ends i 0) all);
      below = ((λ j h. l.invariant.4 j (omega (arith, all))), subst (λ (i : ℕ). Walking p.key p.d i c.args.xs.now l.ends i) all l.invariant.5);
    }
