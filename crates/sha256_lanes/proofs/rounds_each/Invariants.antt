-- After k turns the first k lanes are sixteen rounds on, by ran-turn.
use mathlib.Core.Path.{◌≡◌}
use Rattle.sha256_lanes.specs.Rounds as N
use Rattle.sha256_lanes.proofs.rounds_each.Given as goal

abbrev pub invariant-loop-k : goal.invariant-loop-k
invariant-loop-k l = l.s ≡ N.ran l.t l.w l.k l.initial.s
