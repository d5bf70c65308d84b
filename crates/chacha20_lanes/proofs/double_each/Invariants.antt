-- `chacha20_lanes::double_each` meets its contract. The loop's invariant: both rounds are done in the lanes below k.
-- Assumes nothing.
use mathlib.Core.Path.{◌≡◌}
use Rattle.chacha20_lanes.specs.Firsts.{double_each}
use Rattle.chacha20_lanes.proofs.double_each.Given as goal

abbrev pub invariant-loop-k : goal.invariant-loop-k
invariant-loop-k l = l.v ≡ double_each l.k l.initial.v
