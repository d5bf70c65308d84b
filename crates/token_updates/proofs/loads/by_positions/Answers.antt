-- The blocks, all live, come behind those before the first; what they make of the digest, and the totals, are those of their changes, by done-added.
use native.Mathlib.Omega.{arith}
use mathlib.Core.Path.{refl}
use Prim.Native.Nat.{ℕ, ◌-◌, ◌*◌}
use lib.ListN.{take}
use Rattle.tokens.specs.Keyed.{token_key}
use Rattle.digests.specs.declared.Span.{Span}
use Rattle.digests.proofs.ContentLaws.{contents-live}
use Rattle.block_changes.specs.declared.BlockChanges.{BlockChanges}
use Rattle.token_updates.proofs.AddedLaws.{done-added}
use Rattle.token_updates.proofs.loads.by_positions.Goals as goal

-- how the blocks lie, with k bytes of mark
abbrev span : BlockChanges → ℕ → Span
span w k = record { rows = w.rows; size = w.size; count = w.count; mark = k; step = 0 }

pub returns : goal.returns
returns c =
    let a = c.args in
    let b = a.several.now in
    let w = b.changes in
    let made = c.new-added.ensures in
    let added = b.known.added c.requires.0 in
    done-added w b.bytes.now (w.first - 1) c.requires.0 (omega (arith, added.from_one)) a.k _ _ (token_key a.z a.i.0) a.x _ _ _ _ added.fresh added.whole
    (contents-live w.version (span w c.marks_in.result) (take (w.count * w.size) b.bytes.now) refl c.marks_in.ensures.0)
    c.key_words-words.ensures
    c.token_key-c.ensures
    (rw (made.0, made.1, made.2, made.3) at c.grown-grown.ensures.digest_value)
    c.turns_back-turns.ensures
    (rw (made.0, made.1, made.2, made.3) at c.grown-grown.ensures.turns_value.1)
