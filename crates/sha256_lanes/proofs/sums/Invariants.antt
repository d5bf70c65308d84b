-- After j turns the first j words are sums, by sums-turn.
use mathlib.Core.Path.{◌≡◌}
use Rattle.sha256_lanes.specs.Rounds as N
use Rattle.sha256_lanes.proofs.sums.Given as goal

abbrev pub invariant-loop-j : goal.invariant-loop-j
invariant-loop-j l = l.s ≡ N.sums l.j l.initial.s l.h
