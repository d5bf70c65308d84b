-- After each column the queue is what it was with the xor of that column's hash and all newer ones (`row_from`), by column-turn.
use mathlib.Core.Path.{◌≡◌}
use Prim.Native.Nat.{◌+◌, ◌≤◌}
use Rattle.octets.specs.Octets.{xors}
use Rattle.scheme.specs.Tokens.{columns_of, row_from}
use Rattle.standard.specs.Standard.{standard}
use Rattle.hash_queue.specs.Waiting.{Ready, held}
use Rattle.digests.specs.Layout.{behind, contents}
use Rattle.digests.proofs.blocks.Blocks.add_row.Given as goal

abbrev pub invariant-loop-q : goal.invariant-loop-q
invariant-loop-q l =
    (l.oldest ≤ l.q)
    × Ready l.queue l.self.kind.form l.self.bytes.now
    × (held l.queue l.self.kind.form l.self.bytes.now
    ≡ xors (held l.initial.queue l.self.kind.form l.self.bytes.now) (row_from standard l.c l.self.span.rows l.row.0 l.j.0 (behind l.self.before (contents l.self.span l.self.bytes.now l.self.marks.now)) l.q))
