-- After k turns the first k lanes hold the initial hash value, by filled-turn.
use mathlib.Core.Path.{◌≡◌}
use Prim.Native.Nat.{◌-◌, ◌≤◌}
use Rattle.sha256_many.proofs.ManyLaws.{filled}
use Rattle.sha256_many.proofs.initial_each.Given as goal

abbrev pub invariant-loop-k : goal.invariant-loop-k
invariant-loop-k l = l.s ≡ filled l.h l.k l.initial.s
