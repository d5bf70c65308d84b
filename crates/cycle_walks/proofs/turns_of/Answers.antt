-- The turns taken and those that the walks at hand still take are those of all, by what turn_each ensures. The measure is how many are still to take.
use native.Mathlib.Omega.{arith}
use Prim.Native.Nat.{ℕ}
use mathlib.Core.Path.{◌≡◌, refl, ap, ◌∙◌}
use lib.ListN.{length}
use Rattle.cycle_walks.specs.Each.{turns_of}
use Rattle.cycle_walks.proofs.WalkingLaws.{turns-none, turns-most}
use Rattle.cycle_walks.proofs.PassLaws.{reached-row}
use Rattle.cycle_walks.proofs.turns_of.Goals as goal

pub loop-left-init : goal.loop-left-init
loop-left-init c =
    (omega arith, refl, (λ i z b. reached-row c.args.t.of.key c.args.t.of.d (c.requires.1 i b)), omega arith)

pub turn_each-still-requires : goal.turn_each-still-requires
turn_each-still-requires c =
    let l = c.loop-left in
    (omega (arith, l.invariant.0, l.invariant.1), omega (arith, l.invariant.1, c.requires.0), l.invariant.2)

pub overflow_add-taken : goal.overflow_add-taken
overflow_add-taken c =
    let p = c.args.t.of in
    let l = c.loop-left in
    omega (arith, l.invariant.3, c.turn_each-still.ensures.2, turns-most p.key p.d (length c.args.vs.now) c.args.vs.now p.few c.requires.1, c.requires.0)

pub loop-left-smaller : goal.loop-left-smaller
loop-left-smaller c = omega (arith, c.turn_each-still.ensures.2, c.loop-left-test.true)

pub loop-left-preserved : goal.loop-left-preserved
loop-left-preserved c =
    let l = c.loop-left in
    let t = c.turn_each-still in
    (omega (arith, t.ensures.0, l.invariant.0), omega (arith, t.auto, l.invariant.1), t.ensures.1, omega (arith, t.ensures.2, l.invariant.3))

pub returns : goal.returns
returns c =
    let p = c.args.t.of in
    let l = c.loop-left in
    let none : l.left ≡ 0 = omega (arith, c.loop-left-test.false) in
    let home : turns_of p.key p.d l.left l.vs ≡ 0 = ap (λ (k : ℕ). turns_of p.key p.d k l.vs) none ∙ turns-none p.key p.d l.vs in
    omega (arith, l.invariant.3, home)
