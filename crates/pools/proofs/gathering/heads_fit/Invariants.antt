-- What is left to ask stays, reply by reply, by heads-next.
use Rattle.scheme.specs.Pools.{every, singles}
use Rattle.scheme.specs.Records.{head_known}
use lib.ListN.{length, drop}
use mathlib.Core.Path.{◌≡◌}
use Prim.Native.Nat.{◌-◌, ◌%◌, ◌≤◌}
use Rattle.pools.proofs.gathering.heads_fit.Given as goal

abbrev pub invariant-loop-at : goal.invariant-loop-at
invariant-loop-at l = (l.at ≤ length l.replies) × ((length l.replies - l.at) % 110 ≡ 0) × (every (head_known 108) (singles l.replies) ≡ every (head_known 108) (singles (drop l.at l.replies)))

abbrev pub decreases-loop-at : goal.decreases-loop-at
decreases-loop-at l = length l.replies - l.at
