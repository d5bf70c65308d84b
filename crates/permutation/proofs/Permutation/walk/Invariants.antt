-- The walk from x is at v after t turns, and was outside before (Going). The measure falls since a walk is outside for at most 4 ^ h - d turns (few).
use mathlib.Core.Path.{◌≡◌}
use Prim.Native.Nat.{ℕ, ◌+◌, ◌-◌, ◌^◌}
use Rattle.permutation.proofs.WalkLaws.{Going}
use Rattle.permutation.proofs.Permutation.walk.Given as goal

abbrev pub invariant-loop-v : goal.invariant-loop-v
invariant-loop-v g l = (s : ℕ → ℕ) → ((v u : ℕ) → goal.F-post g l.step v u → u ≡ s v) → Going s l.fn.self.d l.fn.x l.v l.t

abbrev pub decreases-loop-v : goal.decreases-loop-v
decreases-loop-v g l = 4 ^ l.fn.self.h - l.fn.self.d + 1 - l.t
