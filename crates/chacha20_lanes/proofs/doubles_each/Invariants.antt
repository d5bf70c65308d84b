-- `chacha20_lanes::doubles_each` meets its contract: after i turns the lanes are `doubles_each s i`.
-- Assumes nothing.
use mathlib.Core.Path.{◌≡◌}
use Rattle.chacha20_lanes.specs.Firsts.{doubles_each}
use Rattle.chacha20_lanes.proofs.doubles_each.Given as goal

abbrev pub invariant-loop-i : goal.invariant-loop-i
invariant-loop-i l = l.v ≡ doubles_each l.initial.v l._i
