-- After each stretch the queue stands for the changes so far, under any key with these words, and their totals are counted, by what walk_some and add_items
-- ensure.
use Prim.Native.Nat.{ℕ, ◌*◌, ◌-◌, ◌≤◌}
use mathlib.Core.Path.{◌≡◌}
use mathlib.Core.List.{List}
use Rattle.chacha20.specs.ChaCha20.{key_words}
use Rattle.scheme.specs.Totals.{token_turns}
use Rattle.standard.specs.Standard.{standard}
use Rattle.tokens.specs.Keyed.{token_key}
use Rattle.hash_queue.specs.Waiting.{Ready, held}
use Rattle.token_updates.specs.Runs.{firsts, Hashed, Made}
use Rattle.token_updates.proofs.by_blocks.Given as goal

abbrev pub invariant-loop-left : goal.invariant-loop-left
invariant-loop-left l =
    let b = l.several in
    let w = b.changes in
    (l.left ≤ w.count)
    × Made l.z l.i.0 l.run
    × (l.run.hashes ≤ (w.count - l.left) * 2)
    × (l.turns ≤ (w.count - l.left) * 1048576)
    × Ready l.queue b.kind.form b.bytes.now
    × ((k : List ℕ) → l.words ≡ key_words k
    → Hashed k (token_key l.z l.i.0) w b.bytes.now (w.count - l.left) l.fn.x (held l.queue b.kind.form b.bytes.now) l.run.hashes
    × (l.turns ≡ token_turns standard k w.rows (firsts w b.bytes.now (w.count - l.left))))

abbrev pub decreases-loop-left : goal.decreases-loop-left
decreases-loop-left l = l.left
