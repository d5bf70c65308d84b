-- After k turns the first k counters and last words stand.
use mathlib.Core.Path.{◌≡◌}
use Prim.Native.Nat.{ℕ, ◌+◌, ◌*◌, ◌%◌, ◌/◌, ◌^◌, ◌<◌}
use lib.ListN.{length, get_or}
use Rattle.permutation.proofs.Permutation.put_entries.Given as goal

abbrev pub invariant-loop-k : goal.invariant-loop-k
invariant-loop-k l =
    (length l.counters ≡ 16) × (length l.lasts ≡ 16)
    × ((j : ℕ) → j < l.k → get_or l.counters j 0 ≡ (l.i + j) % 2 ^ l.self.h)
    × ((j : ℕ) → j < l.k → get_or l.lasts j 0 ≡ (l.i + j) / 2 ^ l.self.h * 16777216)
