-- The sum so far and what is left of the replies, by digest-next.
use Rattle.scheme.specs.Pools.{digest_sum, singles}
use lib.ListN.{length, drop, replicate}
use mathlib.Core.Path.{◌≡◌}
use Prim.Native.Nat.{◌-◌, ◌%◌, ◌≤◌}
use Rattle.pools.proofs.gathering.digest_sum.Given as goal

abbrev pub invariant-loop-from : goal.invariant-loop-from
invariant-loop-from l =
    (digest_sum (replicate 32 0) (singles l.replies) ≡ digest_sum l.sum (singles (drop l.from l.replies))) × (l.from ≤ length l.replies) × ((length l.replies - l.from) % 110 ≡ 0) × (length l.sum ≡ 32)

abbrev pub decreases-loop-from : goal.decreases-loop-from
decreases-loop-from l = length l.replies - l.from
