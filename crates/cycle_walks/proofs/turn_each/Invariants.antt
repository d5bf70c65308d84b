-- The walks so far have taken their turn (Passed), four more or one more by what turn_some ensures.
use Prim.Native.Nat.{◌-◌}
use mathlib.Core.Path.{◌≡◌}
use lib.ListN.{length}
use Rattle.cycle_walks.specs.Along.{Passed, Onward}
use Rattle.cycle_walks.proofs.turn_each.Given as goal

abbrev pub invariant-loop-at : goal.invariant-loop-at
invariant-loop-at l = (length l.vs ≡ length l.initial.vs) × Passed l.t.of.key l.t.of.d l.n l.initial.vs l.vs l.still l.at

abbrev pub decreases-loop-at : goal.decreases-loop-at
decreases-loop-at l = l.n - l.at

abbrev pub invariant-loop-at-2 : goal.invariant-loop-at-2
invariant-loop-at-2 l = (length l.vs ≡ length l.initial.vs) × Onward l.t.of.key l.t.of.d l.n l.initial.vs l.initial.still l.initial.at l.still l.at l.vs

abbrev pub decreases-loop-at-2 : goal.decreases-loop-at-2
decreases-loop-at-2 l = l.n - l.at
