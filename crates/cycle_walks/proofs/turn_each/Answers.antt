-- The walks so far have taken their turn (Passed), four more or one more by what turn_some ensures.
use native.Mathlib.Omega.{arith}
use mathlib.Core.Path.{refl}
use Rattle.cycle_walks.specs.Along.{Passed}
use Rattle.cycle_walks.proofs.PassLaws.{passed_none, passed-rest, passed-all}
use Rattle.cycle_walks.proofs.turn_each.Goals as goal
use Rattle.cycle_walks.proofs.turn_each.Goals.{At-loop-at-2}

-- what the walks that are left have come to, seen from where all began
so_far : (c : At-loop-at-2) → Passed c.args.t.of.key c.args.t.of.d c.args.n c.args.vs.now c.loop-at-2.vs c.loop-at-2.still c.loop-at-2.at
so_far c = c.loop-at-2.invariant.1 _ c.requires.2 c.loop-at.invariant.1

pub loop-at-init : goal.loop-at-init
loop-at-init c = (refl, passed_none c.args.t.of.key c.args.t.of.d c.args.n c.args.vs.now c.requires.0)

pub turn_some-still-requires : goal.turn_some-still-requires
turn_some-still-requires c =
    let l = c.loop-at in
    (omega (arith, l.invariant.0, c.requires.0), omega (arith, l.invariant.0, c.requires.1), l.invariant.1.few, c.loop-at-test.true, passed-rest c.args.t.of.key c.args.t.of.d c.requires.2 l.invariant.1)

pub loop-at-smaller : goal.loop-at-smaller
loop-at-smaller c = omega (arith, c.loop-at-test.true)

pub loop-at-preserved : goal.loop-at-preserved
loop-at-preserved c =
    let l = c.loop-at in
    let t = c.turn_some-still in
    (omega (arith, t.auto, l.invariant.0), t.ensures _ c.requires.2 l.invariant.1)

pub loop-at-2-init : goal.loop-at-2-init
loop-at-2-init c = (refl, λ us under p. p)

pub turn_some-still-requires-in-loop-at-2 : goal.turn_some-still-requires-in-loop-at-2
turn_some-still-requires-in-loop-at-2 c =
    let far = so_far (goal.at.turn_some-still-requires-in-loop-at-2 c).At-loop-at-2 in
    let long = c.loop-at-2.invariant.0 in
    (omega (arith, long, c.loop-at.invariant.0, c.requires.0), omega (arith, long, c.loop-at.invariant.0, c.requires.1), far.few, omega (arith, c.loop-at-2-test.true), passed-rest c.args.t.of.key c.args.t.of.d c.requires.2 far)

pub loop-at-2-smaller : goal.loop-at-2-smaller
loop-at-2-smaller c = omega (arith, c.loop-at-2-test.true)

pub loop-at-2-preserved : goal.loop-at-2-preserved
loop-at-2-preserved c =
    let l = c.loop-at-2 in
    let t = c.turn_some-still-in-loop-at-2 in
    (omega (arith, t.auto, l.invariant.0), λ us under p. t.ensures us under (l.invariant.1 us under p))

pub returns : goal.returns
returns c =
    passed-all c.args.t.of.key c.args.t.of.d (omega (arith, c.loop-at-2-test.false)) (so_far (goal.at.returns c).At-loop-at-2)
