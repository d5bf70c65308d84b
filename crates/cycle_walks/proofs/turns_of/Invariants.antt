-- The turns taken and those that the walks at hand still take are those of all, by what turn_each ensures. The measure is how many are still to take.
use Prim.Native.Nat.{◌+◌, ◌≤◌}
use mathlib.Core.Path.{◌≡◌}
use lib.ListN.{length}
use Rattle.cycle_walks.specs.Each.{turns_of}
use Rattle.cycle_walks.specs.Along.{Underway}
use Rattle.cycle_walks.proofs.turns_of.Given as goal

abbrev pub invariant-loop-left : goal.invariant-loop-left
invariant-loop-left l =
    let p = l.t.of in
    let n = length l.initial.vs in
    (l.left ≤ n) × (length l.vs ≡ n) × Underway p.key p.d 0 l.left l.vs × (l.taken + turns_of p.key p.d l.left l.vs ≡ turns_of p.key p.d n l.initial.vs)

abbrev pub decreases-loop-left : goal.decreases-loop-left
decreases-loop-left l = turns_of l.t.of.key l.t.of.d l.left l.vs
