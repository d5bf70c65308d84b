-- A change as the code hands it over. Assumes nothing.
--   change_of change               the scheme's change
--   load_checks c long             what is checked of a load of so many bytes
--   changes_for c change           its block changes
--   blocks_with c w                the number of blocks after them
--   table_fault key c table        the code that the unused records of a table give under K
--   Taken c change                what a change that is not turned away has
use Rattle.std.specs.Prelude.{ℕ, ◌+◌, ◌*◌, ◌-◌, ◌/◌, ◌%◌, ◌≤◌, Bool, true, false, cond, ◌&&◌, List, [], ◌∷◌, ◌≡◌, eqb, leb, ltb, length}
use Rattle.counts.specs.Codes.{file_full, bad_record, not_whole_blocks}
use Rattle.counts.specs.Limits.{most_block_bytes, most_rows, most_blocks}
use Rattle.scheme.specs.Changes.{Change, update, delete, append, load, batch, handed_fits, place_checks}
use Rattle.scheme.specs.Batches.{item_size}
use Rattle.scheme.specs.Records as S
use Rattle.scheme.specs.Table.{first_bad}
use Rattle.scheme.proofs.laws.CheckLaws.{Holds}
use Rattle.standard.specs.Standard.{standard}
use Rattle.cards.specs.Fields.{card_of}
use Rattle.cards.specs.declared.Card.{Card}
use Rattle.block_changes.specs.declared.BlockChanges.{BlockChanges}
use Rattle.changes.specs.declared.Change as D
use Rattle.changes.specs.declared.Change.TheVariants.{Update, Delete, Append, Load, Batch}

-- "Update, delete (block number, old block; update also the new one), append (new block)"; "changes hand over the old mark"; load (new blocks end to
-- end); batch (items end to end)
abbrev pub change_of : D.Change → Change
change_of (Update m old mark new) = update m old.now mark.now new.now
change_of (Delete m old mark) = delete m old.now mark.now
change_of (Append new) = append new.now
change_of (Load new) = load new.now
change_of (Batch items) = batch items.now

abbrev pub load_checks : S.Card → ℕ → List (Bool × ℕ)
load_checks c long = (ltb 0 long && eqb (long % c.B) 0, not_whole_blocks) ∷ (leb (c.n + long / c.B) most_blocks, file_full) ∷ []

abbrev pub changes_with : Card → ℕ → ℕ → Bool → Bool → BlockChanges
changes_with c first count fresh listed = record {
  version = c.version;
  rows = c.rows;
  positions = c.positions;
  size = c.block_bytes;
  first = first;
  count = count;
  fresh = fresh;
  listed = listed;
}

abbrev pub changes_for : Card → D.Change → BlockChanges
changes_for c (Update m old mark new) = changes_with c m 1 false false
changes_for c (Delete m old mark) = changes_with c m 1 false false
changes_for c (Append new) = changes_with c (c.blocks + 1) (length new.now / c.block_bytes) true false
changes_for c (Load new) = changes_with c (c.blocks + 1) (length new.now / c.block_bytes) true false
changes_for c (Batch items) = changes_with c 0 (length items.now / item_size c.version c.block_bytes) false true

abbrev pub blocks_with : Card → BlockChanges → ℕ
blocks_with c w = cond w.fresh (c.blocks + w.count) c.blocks

-- "Every unused record .. must open", and the lowest that does not has its token beside code 7
unfoldable pub table_fault : List ℕ → Card → List ℕ → ℕ
table_fault key c table =
    let bad = first_bad standard key c.version c.counter table (c.tokens + 1 - c.next) c.next in
    cond (eqb bad 0) 0 (bad_record + 256 * bad)

-- the table of limits, as far as the code asks for it
pub record Taken (c : Card) (change : Change) : Type 0 where
  pub rowed : 1 ≤ c.rows
  pub few_rows : c.rows ≤ most_rows
  pub drawn : c.positions ≤ c.rows
  pub sized : 1 ≤ c.block_bytes
  pub small : c.block_bytes ≤ most_block_bytes
  pub few : c.blocks ≤ most_blocks
  pub handed : handed_fits (card_of c) change ≡ true
  pub placed : Holds (place_checks (card_of c) change)
