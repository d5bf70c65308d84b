-- Paper 01, "Calls" and "Turned away", with paper 02's #101, #104, #105, #108 and #109: update, delete, append, load and batch, of each the number that it
-- returns and each buffer that it may write. Assumes nothing. A list of checks has one line for each step of the order of refusals: 1 for buffers of fixed size,
-- 2, 3, 1 for sizes that follow from fields, 15, 8, 18, 14, 15, 4, 12, 5, 10, 7: the test that must hold, and the code where it fails. A change that is
-- turned away leaves every buffer as it was.
--   Change, block_changes                               what a change hands over, and the blocks that it changes
--   late_checks, change_checks                    the checks of a change
--   asked_card, committed_card, dropped_card, changed_card   the card while a change is pending, and after
--   change_code, change_card, change_table, change_totals   what update, delete, append, load and batch share
--   update_code .. batch_totals                   each of the five
use Rattle.std.specs.Prelude.{ℕ, ◌+◌, ◌*◌, ◌-◌, ◌/◌, ◌%◌, List, [], ◌∷◌, ◌++◌, Bool, true, ◌&&◌, length, replicate, eqb, leb, ltb}
use Rattle.counts.specs.Codes.{wrong_length, bad_header, out_of_limits, no_such_block, file_full, bad_record, token_open, counter_at_most, not_whole_blocks, bad_batch, bad_mark, change_pending}
use Rattle.counts.specs.Sizes.{master_size, record_size, totals_size}
use Rattle.counts.specs.Limits.{most_blocks, most_counter}
use Rattle.scheme.specs.Checks.{first, if_zero, within}
use Rattle.scheme.specs.Lists.{pieces}
use Rattle.scheme.specs.Primitives.{Primitives}
use Rattle.scheme.specs.Marks.{marks_in, live, deleted, alike, marks_fit}
use Rattle.scheme.specs.Records.{Card, card_bytes, read_card, card_fits, card_sized, card_head}
use Rattle.scheme.specs.Tokens.{BlockChange, replaced, added, added_from, key_k}
use Rattle.scheme.specs.Table.{first_bad, reseal}
use Rattle.scheme.specs.Batches.{items_of, batch_fits, item_marks_fit, numbers_fit, batch_changes}
use Rattle.scheme.specs.Totals.{totals_bytes, change_turns, change_hashes}

-- "Update, delete (block number, old block; update also the new one), append (new block)"; "changes hand over the old mark, a byte", "version 1 lends
-- marks empty": it stands behind the old block; load (new blocks end to end); batch (items end to end)
pub data Change : Type 0 where
  update : ℕ → List ℕ → List ℕ → List ℕ → Change
  delete : ℕ → List ℕ → List ℕ → Change
  append : List ℕ → Change
  load : List ℕ → Change
  batch : List ℕ → Change

-- the blocks handed over have B bytes, a mark as many as its version says; of a load's length 12 speaks, of a batch's 14
abbrev pub handed_fits : Card → Change → Bool
handed_fits c (update m old mark new) = eqb (length old) c.B && eqb (length mark) (marks_in c.version) && eqb (length new) c.B
handed_fits c (delete m old mark) = eqb (length old) c.B && eqb (length mark) (marks_in c.version)
handed_fits c (append new) = eqb (length new) c.B
handed_fits c (load blocks) = true
handed_fits c (batch items) = true

-- "after the lengths that follow from fields, a mark above 1 (15)"
abbrev pub old_mark : Change → List ℕ
old_mark (update m old mark new) = mark
old_mark (delete m old mark) = mark
old_mark (append new) = []
old_mark (load blocks) = []
old_mark (batch items) = []

-- the contents of a load: "Set-up, append, load and update make blocks live"
unfoldable pub loaded : Card → List ℕ → List (List ℕ)
loaded c blocks = alike (live c.version) (pieces c.B (length blocks / c.B) blocks)

-- "4 | block number is 0 or above n", "5 | append with n at its most", of a load "code 5 covers one passing the most n"; "just before 5, a load of no
-- bytes or of a length that B doesn't divide (12)"; "just before 4, a batch of another size or kind, or with numbers that don't rise (14)"; "a mark above 1
-- (15), in a batch straight after 14"
abbrev pub place_checks : Card → Change → List (Bool × ℕ)
place_checks c (update m old mark new) = (within 1 c.n m, no_such_block) ∷ []
place_checks c (delete m old mark) = (within 1 c.n m, no_such_block) ∷ []
place_checks c (append new) = (ltb c.n most_blocks, file_full) ∷ []
place_checks c (load blocks) = (ltb 0 (length blocks) && eqb (length blocks % c.B) 0, not_whole_blocks) ∷ (leb (c.n + length blocks / c.B) most_blocks, file_full) ∷ []
place_checks c (batch items) = (batch_fits c items, bad_batch) ∷ (item_marks_fit (items_of c items), bad_mark) ∷ (numbers_fit c.n (items_of c items), no_such_block) ∷ []

-- "1 for sizes that follow from fields, then" 15, "8", 18, 14, 15, "4", 12, "5, 10": what a change checks behind 1, 2 and 3 of its card
abbrev pub late_checks : Card → List ℕ → Change → List (Bool × ℕ)
late_checks c table change =
    (eqb (length table) (c.t * record_size) && handed_fits c change, wrong_length)
    ∷ (marks_fit (old_mark change), bad_mark)
    ∷ (eqb c.open' 0, token_open)
    ∷ (eqb c.pending 0, change_pending)
    ∷ (place_checks c change ++ (ltb c.last most_counter, counter_at_most) ∷ [])

-- the blocks that are changed, and the contents that are handed over of each: "A deleted block is B zero bytes", "Load appends one or more blocks under
-- one counter step", "Set-up, append, load and update make blocks live"
abbrev pub block_changes : Card → Change → List (ℕ × BlockChange)
block_changes c (update m old mark new) = (m, replaced (mark ++ old) (live c.version ++ new)) ∷ []
block_changes c (delete m old mark) = (m, replaced (mark ++ old) (deleted c.version ++ replicate c.B 0)) ∷ []
block_changes c (append new) = (c.n + 1, added (live c.version ++ new)) ∷ []
block_changes c (load blocks) = added_from (c.n + 1) (loaded c blocks)
block_changes c (batch items) = batch_changes c.version c.B (items_of c items)

-- "append adds 1 to its n"
abbrev pub blocks_after : Card → Change → ℕ
blocks_after c (update m old mark new) = c.n
blocks_after c (delete m old mark) = c.n
blocks_after c (append new) = c.n + 1
blocks_after c (load blocks) = c.n + length blocks / c.B
blocks_after c (batch items) = c.n

-- #108: "Every ask takes the last issued plus 1, even after a drop": the card while a change to n blocks is pending
unfoldable pub asked_card : Card → ℕ → Card
asked_card c n = record {
  version = c.version;
  id = c.id;
  B = c.B;
  d = c.d;
  r = c.r;
  t = c.t;
  n = c.n;
  ctr = c.ctr;
  next = c.next;
  open' = c.open';
  last = c.last + 1;
  pending = c.last + 1;
  count = n;
}

-- a card with nothing pending: its blocks, its counter and the last issued
abbrev pub settled_card : Card → ℕ → ℕ → ℕ → Card
settled_card c n ctr last = record {
  version = c.version;
  id = c.id;
  B = c.B;
  d = c.d;
  r = c.r;
  t = c.t;
  n = n;
  ctr = ctr;
  next = c.next;
  open' = c.open';
  last = last;
  pending = 0;
  count = 0;
}

-- "A commit .. makes .. its counter and count the standing ones"
unfoldable pub committed_card : Card → Card
committed_card c = settled_card c c.count c.pending c.last

-- a drop: what stands stays, and the counter stays issued
unfoldable pub dropped_card : Card → Card
dropped_card c = settled_card c c.n c.ctr c.last

-- "A one-step change, load or batch too, is ask and commit together"
unfoldable pub changed_card : Card → ℕ → Card
changed_card c n = committed_card (asked_card c n)

module _ (P : Primitives) where
  -- "Every unused record, which is every one from next to t, must open": the lowest that does not, 0 for none
  unfoldable pub unused_bad : List ℕ → Card → List ℕ → ℕ
  unused_bad master c table = first_bad P (key_k P master c.id) c.version c.ctr table (c.t + 1 - c.next) c.next

  -- "Changes are lent master, card, table and what their brackets below name": the checks of a change before it looks at the records of the table
  abbrev pub change_checks : List ℕ → List ℕ → List ℕ → Change → List ℕ → List (Bool × ℕ)
  change_checks master card table change totals =
      let c = read_card card in
      (eqb (length master) master_size && card_sized card && eqb (length totals) totals_size, wrong_length)
      ∷ (card_head card, bad_header)
      ∷ (card_fits c, out_of_limits)
      ∷ late_checks c table change

  unfoldable pub change_code : List ℕ → List ℕ → List ℕ → Change → List ℕ → ℕ
  change_code master card table change totals =
      let bad = unused_bad master (read_card card) table in
      first 0 (change_checks master card table change totals ++ (eqb bad 0, bad_record + 256 * bad) ∷ [])

  -- "The card takes that counter, and append adds 1 to its n"
  unfoldable pub change_card : List ℕ → List ℕ → List ℕ → Change → List ℕ → List ℕ
  change_card master card table change totals =
      let c = read_card card in
      if_zero (change_code master card table change totals) (card_bytes (changed_card c (blocks_after c change))) card

  -- "then all are sealed at" the last issued plus 1, "covering the block or not .. Spent records keep their bytes. With none unused, the card alone changes"
  unfoldable pub change_table : List ℕ → List ℕ → List ℕ → Change → List ℕ → List ℕ
  change_table master card table change totals =
      let c = read_card card in
      if_zero (change_code master card table change totals)
      (reseal P master c (block_changes c change) (c.t + 1 - c.next) c.next table)
      table

  -- #109: "Set-up, changes and the host's proof write their totals of turns and of block hashes .., 8 bytes each, to a further buffer that refusals leave"
  unfoldable pub change_totals : List ℕ → List ℕ → List ℕ → Change → List ℕ → List ℕ
  change_totals master card table change totals =
      let c = read_card card in
      if_zero (change_code master card table change totals) (totals_bytes (change_turns P master c (block_changes c change)) (change_hashes P master c (block_changes c change))) totals

  abbrev pub update_code : List ℕ → List ℕ → List ℕ → ℕ → List ℕ → List ℕ → List ℕ → List ℕ → ℕ
  update_code master card table m old mark new totals = change_code master card table (update m old mark new) totals

  abbrev pub update_card : List ℕ → List ℕ → List ℕ → ℕ → List ℕ → List ℕ → List ℕ → List ℕ → List ℕ
  update_card master card table m old mark new totals = change_card master card table (update m old mark new) totals

  abbrev pub update_table : List ℕ → List ℕ → List ℕ → ℕ → List ℕ → List ℕ → List ℕ → List ℕ → List ℕ
  update_table master card table m old mark new totals = change_table master card table (update m old mark new) totals

  abbrev pub update_totals : List ℕ → List ℕ → List ℕ → ℕ → List ℕ → List ℕ → List ℕ → List ℕ → List ℕ
  update_totals master card table m old mark new totals = change_totals master card table (update m old mark new) totals

  abbrev pub delete_code : List ℕ → List ℕ → List ℕ → ℕ → List ℕ → List ℕ → List ℕ → ℕ
  delete_code master card table m old mark totals = change_code master card table (delete m old mark) totals

  abbrev pub delete_card : List ℕ → List ℕ → List ℕ → ℕ → List ℕ → List ℕ → List ℕ → List ℕ
  delete_card master card table m old mark totals = change_card master card table (delete m old mark) totals

  abbrev pub delete_table : List ℕ → List ℕ → List ℕ → ℕ → List ℕ → List ℕ → List ℕ → List ℕ
  delete_table master card table m old mark totals = change_table master card table (delete m old mark) totals

  abbrev pub delete_totals : List ℕ → List ℕ → List ℕ → ℕ → List ℕ → List ℕ → List ℕ → List ℕ
  delete_totals master card table m old mark totals = change_totals master card table (delete m old mark) totals

  abbrev pub append_code : List ℕ → List ℕ → List ℕ → List ℕ → List ℕ → ℕ
  append_code master card table new totals = change_code master card table (append new) totals

  abbrev pub append_card : List ℕ → List ℕ → List ℕ → List ℕ → List ℕ → List ℕ
  append_card master card table new totals = change_card master card table (append new) totals

  abbrev pub append_table : List ℕ → List ℕ → List ℕ → List ℕ → List ℕ → List ℕ
  append_table master card table new totals = change_table master card table (append new) totals

  abbrev pub append_totals : List ℕ → List ℕ → List ℕ → List ℕ → List ℕ → List ℕ
  append_totals master card table new totals = change_totals master card table (append new) totals

  abbrev pub load_code : List ℕ → List ℕ → List ℕ → List ℕ → List ℕ → ℕ
  load_code master card table blocks totals = change_code master card table (load blocks) totals

  abbrev pub load_card : List ℕ → List ℕ → List ℕ → List ℕ → List ℕ → List ℕ
  load_card master card table blocks totals = change_card master card table (load blocks) totals

  abbrev pub load_table : List ℕ → List ℕ → List ℕ → List ℕ → List ℕ → List ℕ
  load_table master card table blocks totals = change_table master card table (load blocks) totals

  abbrev pub load_totals : List ℕ → List ℕ → List ℕ → List ℕ → List ℕ → List ℕ
  load_totals master card table blocks totals = change_totals master card table (load blocks) totals

  abbrev pub batch_code : List ℕ → List ℕ → List ℕ → List ℕ → List ℕ → ℕ
  batch_code master card table items totals = change_code master card table (batch items) totals

  abbrev pub batch_card : List ℕ → List ℕ → List ℕ → List ℕ → List ℕ → List ℕ
  batch_card master card table items totals = change_card master card table (batch items) totals

  abbrev pub batch_table : List ℕ → List ℕ → List ℕ → List ℕ → List ℕ → List ℕ
  batch_table master card table items totals = change_table master card table (batch items) totals

  abbrev pub batch_totals : List ℕ → List ℕ → List ℕ → List ℕ → List ℕ → List ℕ
  batch_totals master card table items totals = change_totals master card table (batch items) totals
