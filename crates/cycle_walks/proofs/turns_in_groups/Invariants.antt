-- After each group the turns from the rows so far are counted (along-group).
use Prim.Native.Nat.{◌-◌, ◌≤◌}
use mathlib.Core.Path.{◌≡◌}
use Rattle.cycle_walks.specs.Along.{turns_along}
use Rattle.cycle_walks.proofs.turns_in_groups.Given as goal

abbrev pub invariant-loop-done : goal.invariant-loop-done
invariant-loop-done l = (l.done ≤ l.n) × (l.turns ≡ turns_along l.t.of.key l.t.of.d l.from l.done)

abbrev pub decreases-loop-done : goal.decreases-loop-done
decreases-loop-done l = l.n - l.done
