-- After each change the queue stands for one more: where it is drawn by what add_item ensures, else by hashed-undrawn.
use Prim.Native.Nat.{ℕ, ◌+◌, ◌*◌, ◌≤◌}
use mathlib.Core.List.{List}
use lib.ListN.{length}
use Rattle.tokens.specs.Keyed.{token_key}
use Rattle.hash_queue.specs.Waiting.{Ready, held}
use Rattle.token_updates.specs.Runs.{Hashed, Made, Placed}
use Rattle.token_updates.proofs.add_items.Given as goal

abbrev pub invariant-loop-e : goal.invariant-loop-e
invariant-loop-e l =
    let b = l.several in
    let w = b.changes in
    Made l.z l.i.0 l.going
    × (l.going.hashes ≤ (l.from + l.e) * 2)
    × Ready l.queue b.kind.form b.bytes.now
    × ((k x : List ℕ) → Placed k w b.bytes.now l.from (length l.ends) l.ends → Hashed k (token_key l.z l.i.0) w b.bytes.now l.from x (held l.initial.queue b.kind.form b.bytes.now) l.initial.going.hashes
    → Hashed k (token_key l.z l.i.0) w b.bytes.now (l.from + l.e) x (held l.queue b.kind.form b.bytes.now) l.going.hashes)
