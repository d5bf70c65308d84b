-- After k turns the words of the first k blocks are in their lanes, by loaded-turn.
use mathlib.Core.Path.{◌≡◌}
use Rattle.sha256_lanes.specs.Rounds as N
use Rattle.sha256_lanes.proofs.load_each.Given as goal

abbrev pub invariant-loop-k : goal.invariant-loop-k
invariant-loop-k l = l.w ≡ N.loaded l.p l.at l.a l.k l.initial.w
