-- What is copied so far is the messages' own, and the rest the first one's.
use Prim.Native.Nat.{ℕ, ◌≤◌, ◌<◌}
use mathlib.Core.Path.{◌≡◌}
use lib.ListN.{length, get_or}
use Rattle.hash_queue.specs.Waiting.{places}
use Rattle.hash_queue.proofs.places_of.Given as goal

abbrev pub invariant-loop-k : goal.invariant-loop-k
invariant-loop-k l =
    (length l.own ≡ places)
    × ((i : ℕ) → i < l.k → get_or l.own i 0 ≡ get_or l.at i 0)
    × ((i : ℕ) → l.k ≤ i → i < places → get_or l.own i 0 ≡ get_or l.at 0 0)
