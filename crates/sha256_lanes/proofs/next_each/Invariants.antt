-- After k turns the first k lanes are sixteen words on, by moved-turn.
use mathlib.Core.Path.{◌≡◌}
use Rattle.sha256_lanes.specs.Rounds as N
use Rattle.sha256_lanes.proofs.next_each.Given as goal

abbrev pub invariant-loop-k : goal.invariant-loop-k
invariant-loop-k l = l.w ≡ N.moved l.k l.initial.w
