-- #109 computed over the stand-ins: the totals that set-up, changes, asks and the proof write. Assumes nothing.
--   starts     of set-up and of the proof: every position drawn, and every block of its row
--   changes    of changes, in one step and asked: every block and every unused token, with hashes where the block is drawn
--   refusals-keep-totals       refusals leave the buffer
--   lengths    it has 16 bytes, which is looked at with the buffers of fixed size
use Prim.Native.Nat.{ℕ}
use mathlib.Core.Path.{◌≡◌, refl}
use mathlib.Core.List.{List, [], ◌∷◌, ◌++◌}
use lib.ListN.{replicate}
use Rattle.octets.specs.Octets.{le, be, of_le, of_be, same, xors}
use Rattle.schedule.specs.Calendar.{leap, month_days, time_fits, year_days, days_of_years, days_of_months, day_number, weekday}
use Rattle.schedule.specs.Hours.{start_of, end_of, all_below, plan_fits, own, over, allowed, allowed_at}
use Rattle.scheme.specs.Checks.{first}
use Rattle.scheme.specs.Lists.{joined, pieces, records_from, xor_below}
use Rattle.scheme.specs.Marks.{version_fits, marks_in, live, deleted, alike, marks_fit}
use Rattle.scheme.specs.Records.{card_bytes, read_card, shape_fits, token_fits, blocks_fit, asks_fit, card_fits, card_length, card_sized, card_head, head_fits, head_known}
use Rattle.scheme.specs.Records.{clear_bytes, nonce_bytes, record_at, message_bytes, read_message, message_fits}
use Rattle.scheme.specs.Tokens.{row_of, block_in, columns_of, block_at, index_of, key_w, key_z, key_k, draw_key, hash_key, block_hash}
use Rattle.scheme.specs.Tokens.{column_hash, drawn_row, position_of, row_digest, digest, token, added_from}
use Rattle.scheme.specs.Table.{sealed_record, body_in, token_in, first_bad}
use Rattle.scheme.specs.Totals.{sum_from, totals_bytes, digest_turns, digest_hashes, set_up_turns, set_up_hashes, token_turns, token_hashes, change_turns, change_hashes}
use Rattle.scheme.specs.Batches.{item_size, read_item, items_from, items_of, kinds_fit, rising_from, rising, batch_fits, item_marks_fit, numbers_fit, item_block, batch_changes}
use Rattle.scheme.specs.Changes.{append, load, loaded, unused_bad, change_code, change_totals, update_code, update_totals, delete_totals, append_totals, load_totals, batch_totals}
use Rattle.scheme.specs.Calls.{set_up_code, set_up_totals, draw_code, message_for, draw_message, prove_code, prove_totals}
use Rattle.scheme.specs.Asks.{ask_code, ask_totals}
use Rattle.scheme.proofs.examples.AskExamples.{three}
use Rattle.scheme.proofs.examples.ComputedExamples.{stand_in, key, id, sums, card_of, card_two, unknown, item, table_in, table_of, always, saturday, blank, drawn}

-- the stand-in walks from x in x + 1 turns, and back to d - 1 - x in as many; its position j draws row d + 1 - j: with d 2 and r 1 row 2, with d 5 and r 4 every row
-- but the first, with d 2 and r 2 both
abbrev both : List ℕ
both = draw_message stand_in key (card_of 2 3 0 1 0) blank always saturday

pub starts : (set_up_totals stand_in key id 1 1 2 1 2 2 (5 ∷ 6 ∷ []) (replicate 43 0) (replicate 126 0) sums ≡ totals_bytes 2 2)
    × (set_up_totals stand_in key id 1 1 5 4 1 7 (5 ∷ 6 ∷ 7 ∷ 8 ∷ 9 ∷ 3 ∷ 4 ∷ []) (replicate 43 0) (replicate 63 0) sums ≡ totals_bytes 10 5)
    × (set_up_totals stand_in key id 1 1 5 4 1 1 (5 ∷ []) (replicate 43 0) (replicate 63 0) sums ≡ totals_bytes 10 0)
    × (prove_totals stand_in drawn (5 ∷ 6 ∷ []) [] (table_of 0) (replicate 110 0) sums ≡ totals_bytes 1 1)
    × (prove_totals stand_in both (5 ∷ 6 ∷ 7 ∷ []) [] (table_of 0) (replicate 110 0) sums ≡ totals_bytes 3 3)
unfolding leap month_days time_fits year_days days_of_years days_of_months day_number weekday start_of end_of all_below plan_fits own over allowed allowed_at joined be le of_be of_le same xors
    first xor_below records_from card_bytes read_card shape_fits token_fits blocks_fit asks_fit card_fits card_length card_sized card_head head_fits head_known version_fits marks_in live alike marks_fit
    clear_bytes nonce_bytes record_at message_bytes read_message message_fits columns_of block_in block_at index_of key_w key_z key_k draw_key hash_key block_hash column_hash drawn_row row_digest digest
    token sealed_record sum_from totals_bytes digest_turns digest_hashes set_up_turns set_up_hashes set_up_code set_up_totals draw_code message_for draw_message prove_code prove_totals
starts = (refl, refl, refl, refl, refl)

-- an update of block 1, which is not drawn, and of block 2, which is; with one token unused, and with none; a delete; an append; a load of blocks 3 and 4; a batch; asks
pub changes : (update_totals stand_in key (card_of 1 2 0 1 0) (table_of 0) 1 (5 ∷ []) [] (9 ∷ []) sums ≡ totals_bytes 4 0)
    × (update_totals stand_in key (card_of 1 2 0 1 0) (table_of 0) 2 (6 ∷ []) [] (9 ∷ []) sums ≡ totals_bytes 2 4)
    × (update_totals stand_in key (card_of 1 2 0 2 0) (table_of 0) 2 (6 ∷ []) [] (9 ∷ []) sums ≡ totals_bytes 1 2)
    × (update_totals stand_in key (card_of 1 2 0 3 0) (table_of 0) 2 (6 ∷ []) [] (9 ∷ []) sums ≡ totals_bytes 0 0)
    × (update_totals stand_in key (card_of 1 2 0 1 0) (table_of 0) 2 (6 ∷ []) [] (6 ∷ []) sums ≡ totals_bytes 2 4)
    × (delete_totals stand_in key (card_of 1 2 0 1 0) (table_of 0) 2 (6 ∷ []) [] sums ≡ totals_bytes 2 4)
    × (append_totals stand_in key (card_of 1 2 0 1 0) (table_of 0) (8 ∷ []) sums ≡ totals_bytes 4 0)
    × (load_totals stand_in key (card_of 1 2 0 1 0) (table_of 0) (8 ∷ 9 ∷ []) sums ≡ totals_bytes 6 2)
    × (batch_totals stand_in key (card_of 1 2 0 1 0) (table_of 0) (item 1 1 5 9 ++ item 2 2 6 0) sums ≡ totals_bytes 6 4)
    × (ask_totals stand_in key (three 0 0 0 0) (table_in 3 0) (replicate 126 0) (load (8 ∷ 9 ∷ [])) sums ≡ totals_bytes 6 2)
unfolding be le of_be of_le same xors first pieces xor_below records_from card_bytes read_card shape_fits token_fits blocks_fit asks_fit card_fits card_length card_sized card_head head_fits head_known
    version_fits marks_in live deleted alike marks_fit clear_bytes nonce_bytes record_at row_of columns_of block_in block_at index_of key_w key_z key_k draw_key hash_key block_hash column_hash drawn_row
    position_of row_digest digest token added_from loaded item_size read_item items_from items_of kinds_fit rising_from rising batch_fits item_marks_fit numbers_fit item_block batch_changes sealed_record
    body_in token_in first_bad sum_from totals_bytes token_turns token_hashes change_turns change_hashes unused_bad change_code change_totals ask_code ask_totals
changes = (refl, refl, refl, refl, refl, refl, refl, refl, refl, refl)

-- "to a further buffer that refusals leave"
pub refusals-keep-totals : (set_up_totals stand_in key id 0 1 2 1 2 2 (5 ∷ 6 ∷ []) (replicate 43 0) (replicate 126 0) (replicate 16 9) ≡ replicate 16 9)
    × (load_totals stand_in key (card_of 1 2 0 1 0) (table_of 0) [] (replicate 16 9) ≡ replicate 16 9)
    × (ask_totals stand_in key (card_two 1 2 0 1 0) (table_in 2 0) (replicate 126 0) (append (8 ∷ [])) (replicate 16 9) ≡ replicate 16 9)
    × (prove_totals stand_in drawn (5 ∷ []) [] (table_of 0) (replicate 110 0) (replicate 16 9) ≡ replicate 16 9)
    × (update_totals stand_in key (card_of 1 2 0 1 0) (table_of 0) 2 (6 ∷ []) [] (9 ∷ []) (replicate 17 9) ≡ replicate 17 9)
unfolding leap month_days time_fits year_days days_of_years days_of_months day_number weekday start_of end_of all_below plan_fits own over allowed allowed_at joined be le of_be of_le same xors
    first xor_below records_from card_bytes read_card shape_fits token_fits blocks_fit asks_fit card_fits card_length card_sized card_head head_fits head_known version_fits marks_in live alike marks_fit
    clear_bytes nonce_bytes record_at message_bytes read_message message_fits columns_of block_in block_at index_of key_w key_z key_k draw_key hash_key block_hash column_hash drawn_row row_digest digest
    token sealed_record set_up_code set_up_totals change_code change_totals ask_code ask_totals draw_code message_for draw_message prove_code prove_totals
refusals-keep-totals = (refl, refl, refl, refl, refl)

-- 1 for buffers of fixed size stands before 2 and 3
pub lengths : (set_up_code stand_in key id 0 1 5 5 1 2 (8 ∷ 9 ∷ []) (replicate 43 0) (replicate 63 0) (replicate 15 0) ≡ 1)
    × (set_up_code stand_in key id 1 1 5 5 1 2 (8 ∷ 9 ∷ []) (replicate 43 0) (replicate 63 0) (replicate 17 0) ≡ 1)
    × (update_code stand_in key (unknown (card_of 1 2 0 1 0)) (table_of 0) 1 (5 ∷ []) [] (9 ∷ []) (replicate 15 0) ≡ 1)
    × (update_code stand_in key (card_of 1 2 0 1 0) (table_of 0) 1 (5 ∷ []) [] (9 ∷ []) (replicate 17 0) ≡ 1)
    × (ask_code stand_in key (card_two 1 2 0 1 0) (table_in 2 0) (replicate 126 0) (append (8 ∷ [])) (replicate 15 0) ≡ 1)
    × (ask_code stand_in key (three 0 0 0 0) (table_in 3 0) (replicate 126 0) (append (8 ∷ [])) (replicate 17 0) ≡ 1)
    × (prove_code stand_in (unknown drawn) (5 ∷ 6 ∷ []) [] (table_of 0) (replicate 110 0) (replicate 15 0) ≡ 1)
    × (prove_code stand_in drawn (5 ∷ 6 ∷ []) [] (table_of 0) (replicate 110 0) (replicate 17 0) ≡ 1)
unfolding leap month_days time_fits year_days days_of_years days_of_months day_number weekday start_of end_of all_below plan_fits own over allowed allowed_at joined be le of_be of_le same xors
    first xor_below records_from card_bytes read_card shape_fits token_fits blocks_fit asks_fit card_fits card_length card_sized card_head head_fits head_known version_fits marks_in live alike marks_fit
    clear_bytes nonce_bytes record_at message_bytes read_message message_fits columns_of block_in block_at index_of key_w key_z key_k draw_key hash_key block_hash column_hash drawn_row row_digest digest
    token sealed_record set_up_code change_code ask_code draw_code message_for draw_message prove_code
lengths = (refl, refl, refl, refl, refl, refl, refl, refl)
