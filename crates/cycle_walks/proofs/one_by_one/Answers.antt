-- After each walk those so far have come home, and their turns are counted (turns_more).
use native.Mathlib.Omega.{arith}
use Prim.Native.Nat.{◌+◌, ◌<◌}
use mathlib.Core.Path.{◌≡◌, refl, sym, ◌∙◌}
use lib.ListN.{length, get_or, length-set}
use Rattle.permutation.specs.Permutation.{backward}
use Rattle.cycle_walks.proofs.EachLaws.{set_more}
use Rattle.cycle_walks.proofs.WalkingLaws.{turns-none, turns_more, turns-most}
use Rattle.cycle_walks.proofs.one_by_one.Goals as goal

pub loop-i-init : goal.loop-i-init
loop-i-init c = (refl, sym (turns-none c.args.p.key c.args.p.d c.args.xs.now), λ j h. absurd (omega arith))

pub overflow_add-turns : goal.overflow_add-turns
overflow_add-turns c =
    let p = c.args.p in
    let l = c.loop-i in
    let inside = c.loop-i-test.true in
    omega (
      arith,
      l.invariant.1,
      c.backward-walk.ensures.value_value.1,
      turns_more p.key p.d l.i c.args.xs.now,
      turns-most p.key p.d (l.i + 1) c.args.xs.now p.few (λ j h. c.requires.2 j (omega (arith, inside, c.requires.0))),
      inside,
      c.requires.0,
      c.requires.1,
    )

pub loop-i-preserved : goal.loop-i-preserved
loop-i-preserved c =
    let p = c.args.p in
    let l = c.loop-i in
    let there : l.i < length l.ends = omega (arith, l.invariant.0, c.loop-i-test.true, c.requires.0) in (
      length-set l.ends l.i _ ∙ l.invariant.0,
      omega (arith, l.invariant.1, c.backward-walk.ensures.value_value.1, turns_more p.key p.d l.i c.args.xs.now),
      set_more (λ j v. v ≡ backward p.key p.d (get_or c.args.xs.now j 0)) l.ends l.i _ there c.backward-walk.ensures.value_value.0 l.invariant.2,
    )
