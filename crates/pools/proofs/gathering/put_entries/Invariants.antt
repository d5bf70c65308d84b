-- What is written and what is left of the replies, by entry_next.
use Rattle.scheme.specs.Pools.{entries, singles}
use lib.ListN.{length, take, drop}
use mathlib.Core.List.{◌++◌}
use mathlib.Core.Path.{◌≡◌}
use Prim.Native.Nat.{◌+◌, ◌*◌, ◌-◌, ◌/◌, ◌%◌, ◌≤◌}
use Rattle.pools.proofs.gathering.put_entries.Given as goal

abbrev pub invariant-loop-at : goal.invariant-loop-at
invariant-loop-at l =
    (l.at ≤ length l.replies) × ((length l.replies - l.at) % 110 ≡ 0) × (l.to + 75 * ((length l.replies - l.at) / 110) ≡ length l.pooled) × (length l.pooled ≡ length l.initial.pooled)
    × (take 37 l.initial.pooled ++ entries (singles l.replies) ≡ take l.to l.pooled ++ entries (singles (drop l.at l.replies)))

abbrev pub decreases-loop-at : goal.decreases-loop-at
decreases-loop-at l = length l.replies - l.at
