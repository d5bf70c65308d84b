-- Each refusal's small input, and pairs of faults in the order of "Turned away", computed over the stand-ins. Assumes nothing.
--   small-inputs, loads, batches, marks, hours, positions        the column "Small input", the limits that moved, and calls that are accepted
--   lowest                                                       the token that code 7 names
--   in_order, loads-in-order, batches-in-order, marks-in-order   pairs of faults
use Prim.Native.Nat.{ℕ, zero, suc, ◌+◌, ◌*◌}
use mathlib.Core.Path.{◌≡◌, refl}
use mathlib.Core.List.{List, [], ◌∷◌, ◌++◌}
use lib.ListN.{set, replicate}
use Rattle.octets.specs.Octets.{le, be, of_le, of_be, same, xors}
use Rattle.schedule.specs.Calendar.{leap, month_days, time_fits, year_days, days_of_years, days_of_months, day_number, weekday}
use Rattle.schedule.specs.Hours.{start_of, end_of, all_below, plan_fits, own, over, allowed, allowed_at}
use Rattle.scheme.specs.Checks.{first}
use Rattle.scheme.specs.Lists.{joined, records_from, xor_below}
use Rattle.scheme.specs.Marks.{version_fits, marks_in, live, alike, marks_fit}
use Rattle.scheme.specs.Records.{card_bytes, read_card, shape_fits, token_fits, blocks_fit, asks_fit, card_fits, card_length, card_sized, card_head, head_fits, head_known}
use Rattle.scheme.specs.Records.{clear_bytes, nonce_bytes, record_at}
use Rattle.scheme.specs.Records.{message_bytes, read_message, message_fits}
use Rattle.scheme.specs.Tokens.{block_in, columns_of, block_at, index_of, key_w, key_z, key_k, draw_key, hash_key, block_hash}
use Rattle.scheme.specs.Tokens.{column_hash, drawn_row, row_digest, digest, token}
use Rattle.scheme.specs.Table.{sealed_record, body_in, token_in, first_bad}
use Rattle.scheme.specs.Batches.{item_size, read_item, items_from, items_of, kinds_fit, rising_from, rising, batch_fits, item_marks_fit, numbers_fit}
use Rattle.scheme.specs.Changes.{unused_bad, change_code, update_code, delete_code, append_code, load_code, batch_code}
use Rattle.scheme.specs.Calls.{set_up_code, positions_for, positions_code, draw_code, message_for, draw_message, judge_fault, judge_code, prove_code}
use Rattle.scheme.proofs.examples.ComputedExamples.{stand_in, key, id, sums, card_in, card_of, card_two, unknown, item, marked_item, table_in, table_of, flipped, both_flipped, always, friday_night, never}
use Rattle.scheme.proofs.examples.ComputedExamples.{january, saturday, blank, drawn_in, drawn}

pub small-inputs : (update_code stand_in key (replicate 42 0) (table_of 0) 1 (5 ∷ []) [] (9 ∷ []) sums ≡ 1)
    × (update_code stand_in key (unknown (card_of 1 2 0 1 0)) (table_of 0) 1 (5 ∷ []) [] (9 ∷ []) sums ≡ 2)
    × (set_up_code stand_in key id 1 1 5 6 1 5 (replicate 5 0) (replicate 43 0) (replicate 63 0) sums ≡ 3)
    × (update_code stand_in key (card_of 1 2 0 1 0) (table_of 0) 0 (5 ∷ []) [] (9 ∷ []) sums ≡ 4)
    × (update_code stand_in key (card_of 1 2 0 1 0) (table_of 0) 3 (5 ∷ []) [] (9 ∷ []) sums ≡ 4)
    × (append_code stand_in key (card_of 1 16777216 0 1 0) (table_of 0) (9 ∷ []) sums ≡ 5)
    × (draw_code stand_in key (card_of 1 2 0 3 0) blank always saturday ≡ 6)
    × (update_code stand_in key (card_of 1 2 0 1 0) (flipped 0) 1 (5 ∷ []) [] (9 ∷ []) sums ≡ 7 + 256 * 2)
    × (delete_code stand_in key (card_of 1 2 0 1 0) (both_flipped 0) 1 (5 ∷ []) [] sums ≡ 7 + 256 * 1)
    × (append_code stand_in key (card_of 1 2 0 2 1) (table_of 0) (9 ∷ []) sums ≡ 8)
    × (judge_code stand_in key (card_of 1 2 0 1 0) [] ≡ 9)
    × (update_code stand_in key (card_of 1 2 4294967295 1 0) (table_of 4294967295) 1 (5 ∷ []) [] (9 ∷ []) sums ≡ 10)
    × (update_code stand_in key (card_of 1 2 0 1 0) (table_of 0) 1 (5 ∷ []) [] (9 ∷ []) sums ≡ 0)
    × (delete_code stand_in key (card_of 1 2 0 1 0) (table_of 0) 2 (6 ∷ []) [] sums ≡ 0)
    × (append_code stand_in key (card_of 1 2 0 1 0) (table_of 0) (9 ∷ []) sums ≡ 0)
    × (update_code stand_in key (card_of 1 2 0 3 0) (both_flipped 0) 1 (5 ∷ []) [] (9 ∷ []) sums ≡ 0)
unfolding leap month_days time_fits year_days days_of_years days_of_months day_number weekday start_of end_of all_below plan_fits own over allowed allowed_at joined be le of_be of_le same xors first xor_below records_from card_bytes read_card shape_fits token_fits blocks_fit asks_fit card_fits card_length card_sized card_head head_fits head_known version_fits marks_in live alike marks_fit clear_bytes
    nonce_bytes record_at columns_of block_in block_at index_of key_w key_z key_k draw_key hash_key block_hash column_hash drawn_row row_digest digest token sealed_record
    body_in token_in first_bad unused_bad set_up_code change_code draw_code judge_fault judge_code
small-inputs = (refl, refl, refl, refl, refl, refl, refl, refl, refl, refl, refl, refl, refl, refl, refl, refl)

-- #103: "the lowest unused token whose record does not open", of two records that do not open, with none, one and both spent
pub lowest : (update_code stand_in key (card_of 1 2 0 1 0) (both_flipped 0) 1 (5 ∷ []) [] (9 ∷ []) sums ≡ 7 + 256 * 1)
    × (update_code stand_in key (card_of 1 2 0 2 0) (both_flipped 0) 1 (5 ∷ []) [] (9 ∷ []) sums ≡ 7 + 256 * 2)
    × (delete_code stand_in key (card_of 1 2 0 2 0) (both_flipped 0) 1 (5 ∷ []) [] sums ≡ 7 + 256 * 2)
    × (append_code stand_in key (card_of 1 2 0 2 0) (both_flipped 0) (9 ∷ []) sums ≡ 7 + 256 * 2)
    × (load_code stand_in key (card_of 1 2 0 2 0) (both_flipped 0) (8 ∷ 9 ∷ []) sums ≡ 7 + 256 * 2)
    × (load_code stand_in key (card_of 1 2 0 3 0) (both_flipped 0) (8 ∷ 9 ∷ []) sums ≡ 0)
    × (batch_code stand_in key (card_of 1 2 0 2 0) (both_flipped 0) (item 1 1 5 9 ++ item 2 2 6 0) sums ≡ 7 + 256 * 2)
    × (batch_code stand_in key (card_of 1 2 0 3 0) (both_flipped 0) (item 1 1 5 9 ++ item 2 2 6 0) sums ≡ 0)
unfolding be le of_be of_le same xors first xor_below records_from card_bytes read_card shape_fits token_fits blocks_fit asks_fit card_fits card_length card_sized card_head head_fits head_known version_fits marks_in live alike marks_fit clear_bytes
    nonce_bytes record_at columns_of block_in block_at index_of key_w key_z key_k draw_key hash_key block_hash column_hash drawn_row row_digest digest token sealed_record
    body_in token_in first_bad unused_bad change_code item_size read_item items_from items_of kinds_fit rising_from rising batch_fits item_marks_fit numbers_fit
lowest = (refl, refl, refl, refl, refl, refl, refl, refl)

-- "Order: 1 for buffers of fixed size, 2, 3, 1 for sizes that follow from fields, then 8 or 9, 6, 4, 5, 10, 7"
pub in_order : (update_code stand_in [] (unknown (card_of 1 2 0 1 0)) (table_of 0) 1 (5 ∷ []) [] (9 ∷ []) sums ≡ 1)
    × (update_code stand_in key (unknown (card_of 3 2 0 1 0)) (table_of 0) 1 (5 ∷ []) [] (9 ∷ []) sums ≡ 2)
    × (update_code stand_in key (card_of 3 2 0 1 0) [] 1 (5 ∷ []) [] (9 ∷ []) sums ≡ 3)
    × (update_code stand_in key (card_of 1 2 0 2 1) (table_of 0) 1 (5 ∷ []) [] [] sums ≡ 1)
    × (update_code stand_in key (card_of 1 2 0 2 1) (table_of 0) 1 [] [] (9 ∷ []) sums ≡ 1)
    × (update_code stand_in key (card_of 1 2 0 2 1) [] 1 (5 ∷ []) [] (9 ∷ []) sums ≡ 1)
    × (update_code stand_in key (card_of 1 2 0 2 1) (table_of 0) 0 (5 ∷ []) [] (9 ∷ []) sums ≡ 8)
    × (update_code stand_in key (card_of 1 2 4294967295 1 0) (table_of 4294967295) 0 (5 ∷ []) [] (9 ∷ []) sums ≡ 4)
    × (update_code stand_in key (card_of 1 2 4294967295 1 0) (flipped 4294967295) 1 (5 ∷ []) [] (9 ∷ []) sums ≡ 10)
    × (append_code stand_in key (card_of 1 16777216 0 2 1) (table_of 0) (9 ∷ []) sums ≡ 8)
    × (append_code stand_in key (card_of 1 16777216 4294967295 1 0) (table_of 4294967295) (9 ∷ []) sums ≡ 5)
    × (draw_code stand_in key (unknown (card_of 1 2 0 1 0)) [] always saturday ≡ 1)
    × (draw_code stand_in key (unknown (card_of 3 2 0 1 0)) blank always saturday ≡ 2)
    × (draw_code stand_in key (card_of 3 2 0 2 1) blank always saturday ≡ 3)
    × (draw_code stand_in key (card_of 1 2 0 3 2) blank always saturday ≡ 8)
    × (judge_code stand_in key (unknown (42 ∷ card_of 1 2 0 1 0)) [] ≡ 1)
    × (judge_code stand_in key (unknown (card_of 3 2 0 1 0)) [] ≡ 2)
    × (judge_code stand_in key (card_of 3 2 0 1 0) [] ≡ 3)
    × (set_up_code stand_in [] id 1 1 5 6 1 5 [] (replicate 43 0) [] sums ≡ 1)
    × (set_up_code stand_in key id 1 1 5 6 1 5 [] (replicate 43 0) [] sums ≡ 3)
    × (set_up_code stand_in key id 1 1 5 5 1 5 [] (replicate 43 0) (replicate 63 0) sums ≡ 1)
    × (prove_code stand_in (unknown drawn) [] [] [] [] sums ≡ 1)
    × (prove_code stand_in (set (unknown drawn) 22 3) [] [] [] (replicate 110 0) sums ≡ 2)
    × (prove_code stand_in (set drawn 22 3) [] [] [] (replicate 110 0) sums ≡ 3)
    × (prove_code stand_in drawn (5 ∷ 6 ∷ []) [] (replicate 62 0) (replicate 110 0) sums ≡ 1)
    × (prove_code stand_in drawn (5 ∷ 6 ∷ []) [] (replicate 63 0) (replicate 110 0) sums ≡ 0)
unfolding leap month_days time_fits year_days days_of_years days_of_months day_number weekday start_of end_of all_below plan_fits own over allowed allowed_at joined be le of_be of_le same xors first xor_below records_from card_bytes read_card shape_fits token_fits blocks_fit asks_fit card_fits card_length card_sized card_head head_fits head_known version_fits marks_in live alike marks_fit clear_bytes
    nonce_bytes record_at message_bytes read_message message_fits columns_of block_in block_at index_of key_w key_z key_k draw_key hash_key block_hash column_hash
    drawn_row row_digest digest token sealed_record body_in token_in first_bad unused_bad set_up_code change_code draw_code message_for draw_message judge_fault
    judge_code prove_code
in_order = (refl, refl, refl, refl, refl, refl, refl, refl, refl, refl, refl, refl, refl, refl, refl, refl, refl, refl, refl, refl, refl, refl, refl, refl, refl, refl)

-- #101: "a load of no bytes or of a length that B doesn't divide (12)"; "code 5 covers one passing the most n"; "Set-up is told n, from 1";
-- "The least n becomes 1 everywhere": set-up, card and message, each with the least number of blocks, one below it, the most and one above
pub loads : (load_code stand_in key (card_of 1 2 0 1 0) (table_of 0) [] sums ≡ 12)
    × (load_code stand_in key (card_in 2 1 2 0 1 0) (table_of 0) (8 ∷ []) sums ≡ 12)
    × (load_code stand_in key (card_in 2 1 2 0 1 0) (table_of 0) (8 ∷ 9 ∷ 8 ∷ []) sums ≡ 12)
    × (load_code stand_in key (card_in 2 1 2 0 1 0) (table_of 0) (8 ∷ 9 ∷ 8 ∷ 9 ∷ []) sums ≡ 0)
    × (load_code stand_in key (card_of 1 16777215 0 1 0) (table_of 0) (8 ∷ 9 ∷ []) sums ≡ 5)
    × (load_code stand_in key (card_of 1 16777214 0 1 0) (table_of 0) (8 ∷ 9 ∷ []) sums ≡ 0)
    × (load_code stand_in key (card_of 1 2 0 1 0) (flipped 0) (8 ∷ 9 ∷ []) sums ≡ 7 + 256 * 2)
    × (load_code stand_in key (card_of 1 1 0 1 0) (table_of 0) (8 ∷ []) sums ≡ 0)
    × (load_code stand_in key (card_of 1 0 0 1 0) (table_of 0) (8 ∷ []) sums ≡ 3)
    × (load_code stand_in key (card_of 1 16777217 0 1 0) (table_of 0) (8 ∷ []) sums ≡ 3)
    × (set_up_code stand_in key id 1 1 5 5 1 0 [] (replicate 43 0) (replicate 63 0) sums ≡ 3)
    × (set_up_code stand_in key id 1 1 5 5 1 1 (8 ∷ []) (replicate 43 0) (replicate 63 0) sums ≡ 0)
    × (set_up_code stand_in key id 1 1 5 5 1 16777216 [] (replicate 43 0) (replicate 63 0) sums ≡ 1)
    × (set_up_code stand_in key id 1 1 5 5 1 16777217 [] (replicate 43 0) (replicate 63 0) sums ≡ 3)
    × (prove_code stand_in (set drawn 26 1) (5 ∷ []) [] (replicate 63 0) (replicate 110 0) sums ≡ 0)
    × (prove_code stand_in (set drawn 26 0) [] [] (replicate 63 0) (replicate 110 0) sums ≡ 3)
unfolding leap month_days time_fits year_days days_of_years days_of_months day_number weekday start_of end_of all_below plan_fits own over allowed allowed_at joined be le of_be of_le same xors first xor_below records_from card_bytes read_card shape_fits token_fits blocks_fit asks_fit card_fits card_length card_sized card_head head_fits head_known version_fits marks_in live alike marks_fit clear_bytes
    nonce_bytes record_at message_bytes read_message message_fits columns_of block_in block_at index_of key_w key_z key_k draw_key hash_key block_hash column_hash
    drawn_row row_digest digest token sealed_record body_in token_in first_bad unused_bad set_up_code change_code draw_code message_for draw_message judge_fault
    judge_code prove_code
loads = (refl, refl, refl, refl, refl, refl, refl, refl, refl, refl, refl, refl, refl, refl, refl, refl)

-- 12 stands behind 8 and before 5, 5 before 10, 10 before 7
pub loads-in-order : (load_code stand_in key (unknown (card_of 3 2 0 1 0)) (table_of 0) [] sums ≡ 2)
    × (load_code stand_in key (card_of 3 2 0 1 0) [] [] sums ≡ 3)
    × (load_code stand_in key (card_of 1 2 0 2 1) [] [] sums ≡ 1)
    × (load_code stand_in key (card_of 1 2 0 2 1) (table_of 0) [] sums ≡ 8)
    × (load_code stand_in key (card_of 1 16777216 4294967295 1 0) (table_of 4294967295) [] sums ≡ 12)
    × (load_code stand_in key (card_in 2 1 16777216 0 1 0) (table_of 0) (8 ∷ 9 ∷ 8 ∷ []) sums ≡ 12)
    × (load_code stand_in key (card_of 1 16777216 4294967295 1 0) (table_of 4294967295) (8 ∷ []) sums ≡ 5)
    × (load_code stand_in key (card_of 1 2 4294967295 1 0) (flipped 4294967295) (8 ∷ []) sums ≡ 10)
unfolding be le of_be of_le same xors first xor_below records_from card_bytes read_card shape_fits token_fits blocks_fit asks_fit card_fits card_length card_sized card_head head_fits head_known version_fits marks_in live alike marks_fit clear_bytes
    nonce_bytes record_at columns_of block_in block_at index_of key_w key_z key_k draw_key hash_key block_hash column_hash drawn_row row_digest digest token sealed_record
    body_in token_in first_bad unused_bad set_up_code change_code draw_code judge_fault judge_code
loads-in-order = (refl, refl, refl, refl, refl, refl, refl, refl)

-- so many items, which replace one block after the other
abbrev items_to : ℕ → List ℕ
items_to zero = []
items_to (suc k) = items_to k ++ item 1 (suc k) 5 9

-- #104: "1 to 64 items, each a kind byte (1 update, 2 delete)"; "a batch of another size or kind, or with numbers that don't rise (14)"; code 4
pub batches : (batch_code stand_in key (card_of 1 2 0 1 0) (table_of 0) (item 1 1 5 9 ++ item 2 2 6 0) sums ≡ 0)
    × (batch_code stand_in key (card_of 1 2 0 1 0) (table_of 0) (item 2 2 6 9) sums ≡ 0)
    × (batch_code stand_in key (card_of 1 2 0 1 0) (table_of 0) [] sums ≡ 14)
    × (batch_code stand_in key (card_of 1 64 0 1 0) (table_of 0) (items_to 64) sums ≡ 0)
    × (batch_code stand_in key (card_of 1 65 0 1 0) (table_of 0) (items_to 65) sums ≡ 14)
    × (batch_code stand_in key (card_of 1 2 0 1 0) (table_of 0) (item 1 1 5 9 ++ 1 ∷ []) sums ≡ 14)
    × (batch_code stand_in key (card_of 1 2 0 1 0) (table_of 0) (1 ∷ 0 ∷ 0 ∷ 0 ∷ 1 ∷ 5 ∷ []) sums ≡ 14)
    × (batch_code stand_in key (card_in 2 1 2 0 1 0) (table_of 0) (1 ∷ 0 ∷ 0 ∷ 0 ∷ 1 ∷ 5 ∷ 5 ∷ 9 ∷ 9 ∷ []) sums ≡ 0)
    × (batch_code stand_in key (card_of 1 2 0 1 0) (table_of 0) (item 0 1 5 9) sums ≡ 14)
    × (batch_code stand_in key (card_of 1 2 0 1 0) (table_of 0) (item 1 1 5 9 ++ item 3 2 6 9) sums ≡ 14)
    × (batch_code stand_in key (card_of 1 2 0 1 0) (table_of 0) (item 1 1 5 9 ++ item 2 1 9 0) sums ≡ 14)
    × (batch_code stand_in key (card_of 1 2 0 1 0) (table_of 0) (item 1 2 6 9 ++ item 1 1 5 9) sums ≡ 14)
    × (batch_code stand_in key (card_of 1 2 0 1 0) (table_of 0) (item 1 0 5 9 ++ item 2 2 6 0) sums ≡ 4)
    × (batch_code stand_in key (card_of 1 2 0 1 0) (table_of 0) (item 1 1 5 9 ++ item 2 3 6 0) sums ≡ 4)
    × (batch_code stand_in key (card_of 1 2 0 1 0) (flipped 0) (item 1 1 5 9) sums ≡ 7 + 256 * 2)
unfolding be le of_be of_le same xors first xor_below records_from card_bytes read_card shape_fits token_fits blocks_fit asks_fit card_fits card_length card_sized card_head head_fits head_known version_fits marks_in live alike marks_fit clear_bytes
    nonce_bytes record_at columns_of block_in block_at index_of key_w key_z key_k draw_key hash_key block_hash column_hash drawn_row row_digest digest token sealed_record
    body_in token_in first_bad unused_bad change_code item_size read_item items_from items_of kinds_fit rising_from rising batch_fits item_marks_fit numbers_fit
batches = (refl, refl, refl, refl, refl, refl, refl, refl, refl, refl, refl, refl, refl, refl, refl)

-- 14 stands behind 8 and before 4, 4 before 10, 10 before 7
pub batches-in-order : (batch_code stand_in key (unknown (card_of 3 2 0 1 0)) (table_of 0) [] sums ≡ 2)
    × (batch_code stand_in key (card_of 3 2 0 1 0) [] [] sums ≡ 3)
    × (batch_code stand_in key (card_of 1 2 0 2 1) [] [] sums ≡ 1)
    × (batch_code stand_in key (card_of 1 2 0 2 1) (table_of 0) [] sums ≡ 8)
    × (batch_code stand_in key (card_of 1 2 0 1 0) (table_of 0) (item 1 3 5 9 ++ item 1 0 5 9) sums ≡ 14)
    × (batch_code stand_in key (card_of 1 2 4294967295 1 0) (table_of 4294967295) (item 3 1 5 9) sums ≡ 14)
    × (batch_code stand_in key (card_of 1 2 4294967295 1 0) (table_of 4294967295) (item 1 3 5 9) sums ≡ 4)
    × (batch_code stand_in key (card_of 1 2 4294967295 1 0) (flipped 4294967295) (item 1 1 5 9) sums ≡ 10)
unfolding be le of_be of_le same xors first xor_below records_from card_bytes read_card shape_fits token_fits blocks_fit asks_fit card_fits card_length card_sized card_head head_fits head_known version_fits marks_in live alike marks_fit clear_bytes
    nonce_bytes record_at columns_of block_in block_at index_of key_w key_z key_k draw_key hash_key block_hash column_hash drawn_row row_digest digest token sealed_record
    body_in token_in first_bad unused_bad change_code item_size read_item items_from items_of kinds_fit rising_from rising batch_fits item_marks_fit numbers_fit
batches-in-order = (refl, refl, refl, refl, refl, refl, refl, refl)

-- #105: "Set-up is told the version, else 3"; "a mark above 1 (15)"; "version 1 lends marks empty"; "Wherever 01 wants version 1 it now wants the card's"
pub marks : (set_up_code stand_in key id 0 1 5 5 1 2 (8 ∷ 9 ∷ []) (replicate 43 0) (replicate 63 0) sums ≡ 3)
    × (set_up_code stand_in key id 2 1 5 5 1 2 (8 ∷ 9 ∷ []) (replicate 43 0) (replicate 63 0) sums ≡ 0)
    × (set_up_code stand_in key id 4 1 5 5 1 2 (8 ∷ 9 ∷ []) (replicate 43 0) (replicate 63 0) sums ≡ 3)
    × (update_code stand_in key (card_two 1 2 0 1 0) (table_in 2 0) 1 (5 ∷ []) (0 ∷ []) (9 ∷ []) sums ≡ 0)
    × (update_code stand_in key (card_two 1 2 0 1 0) (table_in 2 0) 1 (5 ∷ []) (1 ∷ []) (9 ∷ []) sums ≡ 0)
    × (update_code stand_in key (card_two 1 2 0 1 0) (table_in 2 0) 1 (5 ∷ []) (2 ∷ []) (9 ∷ []) sums ≡ 15)
    × (update_code stand_in key (card_two 1 2 0 1 0) (table_in 2 0) 1 (5 ∷ []) [] (9 ∷ []) sums ≡ 1)
    × (update_code stand_in key (card_two 1 2 0 1 0) (table_in 2 0) 1 (5 ∷ []) (0 ∷ 0 ∷ []) (9 ∷ []) sums ≡ 1)
    × (update_code stand_in key (card_of 1 2 0 1 0) (table_of 0) 1 (5 ∷ []) (0 ∷ []) (9 ∷ []) sums ≡ 1)
    × (update_code stand_in key (card_two 1 2 0 1 0) (table_of 0) 1 (5 ∷ []) (0 ∷ []) (9 ∷ []) sums ≡ 7 + 256 * 1)
    × (update_code stand_in key (card_of 1 2 0 1 0) (table_in 2 0) 1 (5 ∷ []) [] (9 ∷ []) sums ≡ 7 + 256 * 1)
    × (update_code stand_in key (set (card_of 1 2 0 1 0) 2 4) (table_of 0) 1 (5 ∷ []) [] (9 ∷ []) sums ≡ 2)
    × (delete_code stand_in key (card_two 1 2 0 1 0) (table_in 2 0) 2 (6 ∷ []) (0 ∷ []) sums ≡ 0)
    × (delete_code stand_in key (card_two 1 2 0 1 0) (table_in 2 0) 2 (6 ∷ []) (2 ∷ []) sums ≡ 15)
    × (delete_code stand_in key (card_two 1 2 0 1 0) (table_in 2 0) 2 (6 ∷ []) [] sums ≡ 1)
    × (append_code stand_in key (card_two 1 2 0 1 0) (table_in 2 0) (9 ∷ []) sums ≡ 0)
    × (load_code stand_in key (card_two 1 2 0 1 0) (table_in 2 0) (8 ∷ 9 ∷ []) sums ≡ 0)
    × (batch_code stand_in key (card_two 1 2 0 1 0) (table_in 2 0) (marked_item 1 1 5 0 9 ++ marked_item 2 2 6 1 9) sums ≡ 0)
    × (batch_code stand_in key (card_two 1 2 0 1 0) (table_in 2 0) (marked_item 1 1 5 0 9 ++ marked_item 2 2 6 2 9) sums ≡ 15)
    × (batch_code stand_in key (card_two 1 2 0 1 0) (table_in 2 0) (item 1 1 5 9) sums ≡ 14)
    × (batch_code stand_in key (card_of 1 2 0 1 0) (table_of 0) (marked_item 1 1 5 0 9) sums ≡ 14)
    × (prove_code stand_in (drawn_in 2) (5 ∷ 6 ∷ []) (0 ∷ 1 ∷ []) (replicate 63 0) (replicate 110 0) sums ≡ 0)
    × (prove_code stand_in (drawn_in 2) (5 ∷ 6 ∷ []) (0 ∷ 2 ∷ []) (replicate 63 0) (replicate 110 0) sums ≡ 15)
    × (prove_code stand_in (drawn_in 2) (5 ∷ 6 ∷ []) [] (replicate 63 0) (replicate 110 0) sums ≡ 1)
    × (prove_code stand_in drawn (5 ∷ 6 ∷ []) (0 ∷ 0 ∷ []) (replicate 63 0) (replicate 110 0) sums ≡ 1)
    × (draw_code stand_in key (card_two 1 2 0 1 0) blank always saturday ≡ 0)
unfolding leap month_days time_fits year_days days_of_years days_of_months day_number weekday start_of end_of all_below plan_fits own over allowed allowed_at joined be le of_be of_le same xors first xor_below records_from card_bytes read_card shape_fits token_fits blocks_fit asks_fit card_fits card_length card_sized card_head head_fits head_known version_fits marks_in live alike marks_fit clear_bytes
    nonce_bytes record_at message_bytes read_message message_fits columns_of block_in block_at index_of key_w key_z key_k draw_key hash_key block_hash column_hash drawn_row row_digest digest token sealed_record
    body_in token_in first_bad unused_bad set_up_code change_code draw_code message_for draw_message judge_fault judge_code prove_code item_size read_item items_from items_of kinds_fit rising_from rising batch_fits item_marks_fit numbers_fit
marks = (refl, refl, refl, refl, refl, refl, refl, refl, refl, refl, refl, refl, refl, refl, refl, refl, refl, refl, refl, refl, refl, refl, refl, refl, refl, refl)

-- 15 stands behind the lengths that follow from fields and before 8, in a batch behind 14 and before 4
pub marks-in-order : (set_up_code stand_in [] id 0 1 5 5 1 2 (8 ∷ 9 ∷ []) (replicate 43 0) (replicate 63 0) sums ≡ 1)
    × (set_up_code stand_in key id 0 1 5 5 1 2 [] (replicate 43 0) (replicate 63 0) sums ≡ 3)
    × (update_code stand_in key (card_two 1 2 0 2 1) (table_in 2 0) 1 [] (2 ∷ []) (9 ∷ []) sums ≡ 1)
    × (update_code stand_in key (card_two 1 2 0 2 1) (table_in 2 0) 1 (5 ∷ []) (2 ∷ []) (9 ∷ []) sums ≡ 15)
    × (delete_code stand_in key (card_two 1 2 0 2 1) (table_in 2 0) 0 (5 ∷ []) (2 ∷ []) sums ≡ 15)
    × (delete_code stand_in key (card_two 1 2 0 1 0) (table_in 2 0) 0 (5 ∷ []) (2 ∷ []) sums ≡ 15)
    × (batch_code stand_in key (card_two 1 2 0 2 1) (table_in 2 0) (marked_item 1 1 5 2 9) sums ≡ 8)
    × (batch_code stand_in key (card_two 1 2 0 1 0) (table_in 2 0) (marked_item 3 1 5 2 9) sums ≡ 14)
    × (batch_code stand_in key (card_two 1 2 0 1 0) (table_in 2 0) (marked_item 1 0 5 2 9) sums ≡ 15)
    × (prove_code stand_in (drawn_in 2) (5 ∷ 6 ∷ []) (0 ∷ 2 ∷ []) (replicate 62 0) (replicate 110 0) sums ≡ 1)
    × (prove_code stand_in (set (drawn_in 2) 22 3) (5 ∷ 6 ∷ []) (0 ∷ 2 ∷ []) (replicate 63 0) (replicate 110 0) sums ≡ 3)
unfolding leap month_days time_fits year_days days_of_years days_of_months day_number weekday start_of end_of all_below plan_fits own over allowed allowed_at joined be le of_be of_le same xors first xor_below records_from card_bytes read_card shape_fits token_fits blocks_fit asks_fit card_fits card_length card_sized card_head head_fits head_known version_fits marks_in live alike marks_fit clear_bytes
    nonce_bytes record_at message_bytes read_message message_fits columns_of block_in block_at index_of key_w key_z key_k draw_key hash_key block_hash column_hash drawn_row row_digest digest token sealed_record
    body_in token_in first_bad unused_bad set_up_code change_code draw_code message_for draw_message judge_fault judge_code prove_code item_size read_item items_from items_of kinds_fit rising_from rising batch_fits item_marks_fit numbers_fit
marks-in-order = (refl, refl, refl, refl, refl, refl, refl, refl, refl, refl, refl)

-- #106: the night from Friday to Saturday; "before everything else, a date or minute outside these (16)"; "Plan minutes above 1,439 are code 3"; 17
pub hours : (draw_code stand_in key (card_of 1 2 0 1 0) blank friday_night saturday ≡ 0)
    × (draw_code stand_in key (card_of 1 2 0 1 0) blank friday_night (january 1 359) ≡ 0)
    × (draw_code stand_in key (card_of 1 2 0 1 0) blank friday_night (january 1 360) ≡ 17)
    × (draw_code stand_in key (card_of 1 2 0 1 0) blank friday_night (january 7 1319) ≡ 17)
    × (draw_code stand_in key (card_of 1 2 0 1 0) blank friday_night (january 7 1320) ≡ 0)
    × (draw_code stand_in key (card_of 1 2 0 1 0) blank friday_night (january 7 1439) ≡ 0)
    × (draw_code stand_in key (card_of 1 2 0 1 0) blank friday_night (january 2 0) ≡ 17)
    × (draw_code stand_in key (card_of 1 2 0 1 0) blank never saturday ≡ 17)
    × (draw_code stand_in key (card_of 1 2 0 1 0) blank always (january 1 1440) ≡ 16)
    × (draw_code stand_in key (card_of 1 2 0 1 0) blank always (january 32 0) ≡ 16)
    × (draw_code stand_in key (card_of 1 2 0 1 0) blank always (january 0 0) ≡ 16)
    × (draw_code stand_in key (card_of 1 2 0 1 0) blank (0 ∷ always) saturday ≡ 1)
    × (draw_code stand_in key (card_of 1 2 0 1 0) blank (set always 27 160) saturday ≡ 3)
    × (draw_code stand_in key (card_of 1 2 0 1 0) [] always (january 0 0) ≡ 16)
    × (draw_code stand_in key (unknown (card_of 1 2 0 1 0)) blank [] saturday ≡ 1)
    × (draw_code stand_in key (unknown (card_of 1 2 0 1 0)) blank (set always 27 160) saturday ≡ 2)
    × (draw_code stand_in key (card_of 3 2 0 1 0) blank never saturday ≡ 3)
    × (draw_code stand_in key (card_of 1 2 0 1 0) blank (set never 27 160) saturday ≡ 17)
    × (draw_code stand_in key (card_of 1 2 0 2 1) blank never saturday ≡ 17)
    × (draw_code stand_in key (card_of 1 2 0 3 0) blank never saturday ≡ 17)
unfolding leap month_days time_fits year_days days_of_years days_of_months day_number weekday start_of end_of all_below plan_fits own over allowed allowed_at joined be le of_be of_le first card_bytes read_card shape_fits token_fits blocks_fit asks_fit card_fits card_length card_sized card_head head_known version_fits draw_code
hours = (refl, refl, refl, refl, refl, refl, refl, refl, refl, refl, refl, refl, refl, refl, refl, refl, refl, refl, refl, refl)

-- "positions as r × planned rows / present blocks, rounded up"; "r is at most 512 and the present blocks, and these at most the planned rows, else 3"; "after 3,
-- more than 512 positions (13)"
pub positions : (positions_code 2 5 3 ≡ 256 * 4) × (positions_code 1 1 1 ≡ 256 * 1) × (positions_code 512 1048576 1048576 ≡ 256 * 512)
    × (positions_code 1 512 1 ≡ 256 * 512) × (positions_code 1 513 1 ≡ 13) × (positions_code 512 513 512 ≡ 13)
    × (positions_code 0 5 3 ≡ 3) × (positions_code 4 5 3 ≡ 3) × (positions_code 513 1000 600 ≡ 3) × (positions_code 1 5 0 ≡ 3) × (positions_code 2 5 6 ≡ 3)
    × (positions_code 1 0 0 ≡ 3) × (positions_code 1 1048577 1 ≡ 3)
unfolding first positions_for positions_code
positions = (refl, refl, refl, refl, refl, refl, refl, refl, refl, refl, refl, refl, refl)
