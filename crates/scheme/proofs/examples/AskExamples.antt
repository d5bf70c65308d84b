-- #108 computed over the stand-ins: cards of version 3, the refusals of ask, commit and drop, and what they write. Assumes nothing.
--   limits          each limit of the new fields at, below and above its ends
--   sizes           cards of 43 and 63 bytes under each version
--   asks            18, 19, and which versions and counters are taken
--   asks-in-order   pairs of faults
--   two_steps       the card and the second table of an ask, and the card after its commit and its drop
use Prim.Native.Nat.{ℕ, ◌+◌, ◌*◌}
use mathlib.Core.Path.{◌≡◌, refl}
use mathlib.Core.List.{List, [], ◌∷◌, ◌++◌}
use lib.ListN.{take, drop, set, replicate}
use Rattle.octets.specs.Octets.{le, be, of_le, of_be, put, same, xors}
use Rattle.schedule.specs.Calendar.{leap, month_days, time_fits, year_days, days_of_years, days_of_months, day_number, weekday}
use Rattle.schedule.specs.Hours.{start_of, end_of, all_below, plan_fits, own, over, allowed, allowed_at}
use Rattle.scheme.specs.Checks.{first}
use Rattle.scheme.specs.Lists.{joined, records_from, xor_below}
use Rattle.scheme.specs.Marks.{version_fits, marks_in, live, alike, marks_fit}
use Rattle.scheme.specs.Records.{card_bytes, read_card, shape_fits, token_fits, blocks_fit, asks_fit, card_fits, card_length, card_sized, card_head, head_fits, head_known}
use Rattle.scheme.specs.Records.{clear_bytes, nonce_bytes, record_at}
use Rattle.scheme.specs.Tokens.{row_of, column_of, block_in, columns_of, block_at, index_of, key_w, key_z, key_k, draw_key, hash_key, block_hash}
use Rattle.scheme.specs.Tokens.{column_hash, drawn_row, position_of, row_digest, digest, token, mixed, changed_digest, digest_after}
use Rattle.scheme.specs.Table.{sealed_record, body_in, token_in, first_bad, resealed_record, reseal}
use Rattle.scheme.specs.Batches.{item_size, items_of, batch_fits}
use Rattle.scheme.specs.Changes.{update, append, asked_card, committed_card, dropped_card, changed_card, unused_bad, change_code, change_card, change_table, update_code}
use Rattle.scheme.specs.Changes.{append_code, load_code, batch_code}
use Rattle.scheme.specs.Calls.{set_up_code, draw_code, judge_fault, judge_code}
use Rattle.scheme.specs.Asks.{ask_code, ask_card, ask_second, settle_code, commit_card, drop_card}
use Rattle.scheme.proofs.examples.ComputedExamples.{stand_in, key, id, sums, card_of, card_two, unknown, table_in, table_of, always, never, saturday, blank}

-- a card of version 3 and B 1, d 2, r 1, t 2: blocks, ctr, next, open, last issued, pending counter and count; of two blocks, with nothing drawn
abbrev three_of : ℕ → ℕ → ℕ → ℕ → ℕ → ℕ → ℕ → List ℕ
three_of n ctr next o last pending count =
    card_bytes (record { version = 3; id = id; B = 1; d = 2; r = 1; t = 2; n = n; ctr = ctr; next = next; open' = o; last = last; pending = pending; count = count })

abbrev pub three : ℕ → ℕ → ℕ → ℕ → List ℕ
three ctr last pending count = three_of 2 ctr 1 0 last pending count

-- "Last issued is from ctr to ctr's most; a pending counter equals it and exceeds ctr, with a count from n to n's most and open 0"; "both 0 for none"
pub limits : (settle_code (three 5 5 0 0) ≡ 19) × (settle_code (three 5 4 0 0) ≡ 3) × (settle_code (three 5 4294967295 0 0) ≡ 19) × (settle_code (three 5 4294967296 0 0) ≡ 3)
    × (settle_code (three 5 7 7 2) ≡ 0) × (settle_code (three 5 7 6 2) ≡ 3) × (settle_code (three 5 7 8 2) ≡ 3) × (settle_code (three 5 6 6 2) ≡ 0) × (settle_code (three 5 5 5 2) ≡ 3)
    × (settle_code (three 5 4294967295 4294967295 2) ≡ 0) × (settle_code (three 5 4294967296 4294967296 2) ≡ 3)
    × (settle_code (three 5 7 7 1) ≡ 3) × (settle_code (three 5 7 7 16777216) ≡ 0) × (settle_code (three 5 7 7 16777217) ≡ 3)
    × (settle_code (three 5 7 7 0) ≡ 3) × (settle_code (three 5 7 0 2) ≡ 3)
    × (settle_code (three_of 2 5 2 1 7 7 2) ≡ 3) × (settle_code (three_of 2 5 2 0 7 7 2) ≡ 0) × (settle_code (three_of 2 5 2 1 7 0 0) ≡ 19)
unfolding be le of_be of_le first card_bytes read_card shape_fits token_fits blocks_fit asks_fit card_fits card_length card_sized card_head head_known version_fits settle_code
limits = (refl, refl, refl, refl, refl, refl, refl, refl, refl, refl, refl, refl, refl, refl, refl, refl, refl, refl, refl)

-- "Where a card comes to have several sizes, each passes the first length check; the wrong one for its version is then 2, and at set-up the later 1"
pub sizes : (settle_code (take 42 (three 0 2 2 3)) ≡ 1) × (settle_code (take 43 (three 0 2 2 3)) ≡ 2) × (settle_code (take 62 (three 0 2 2 3)) ≡ 1)
    × (settle_code (0 ∷ three 0 2 2 3) ≡ 1)
    × (settle_code (card_of 1 2 0 1 0 ++ replicate 20 0) ≡ 2) × (settle_code (card_two 1 2 0 1 0 ++ replicate 20 0) ≡ 2) × (settle_code (card_of 1 2 0 1 0 ++ 0 ∷ []) ≡ 1)
    × (settle_code (set (three 0 2 2 3) 1 41) ≡ 2) × (settle_code (set (card_two 1 2 0 1 0) 1 61) ≡ 2) × (settle_code (set (card_two 1 2 0 1 0) 2 3) ≡ 2)
    × (settle_code (set (three 0 2 2 3) 2 2) ≡ 2) × (settle_code (set (three 0 2 2 3) 2 4) ≡ 2)
    × (settle_code (card_of 1 2 0 2 1) ≡ 19) × (settle_code (card_two 1 2 0 2 1) ≡ 19)
    × (set_up_code stand_in key id 3 1 5 5 1 2 (8 ∷ 9 ∷ []) (replicate 63 0) (replicate 63 0) sums ≡ 0)
    × (set_up_code stand_in key id 3 1 5 5 1 2 (8 ∷ 9 ∷ []) (replicate 43 0) (replicate 63 0) sums ≡ 1)
    × (set_up_code stand_in key id 2 1 5 5 1 2 (8 ∷ 9 ∷ []) (replicate 63 0) (replicate 63 0) sums ≡ 1)
    × (set_up_code stand_in key id 1 1 5 5 1 2 (8 ∷ 9 ∷ []) (replicate 63 0) (replicate 63 0) sums ≡ 1)
    × (set_up_code stand_in key id 3 0 5 5 1 2 (8 ∷ 9 ∷ []) (replicate 43 0) (replicate 63 0) sums ≡ 3)
    × (set_up_code stand_in key id 3 0 5 5 1 2 (8 ∷ 9 ∷ []) (replicate 62 0) (replicate 63 0) sums ≡ 1)
unfolding be le of_be of_le first card_bytes read_card shape_fits token_fits blocks_fit asks_fit card_fits card_length card_sized card_head head_known version_fits settle_code set_up_code
sizes = (refl, refl, refl, refl, refl, refl, refl, refl, refl, refl, refl, refl, refl, refl, refl, refl, refl, refl, refl, refl)

-- "Only version 3 takes asks (else 2); code 10 looks at the last counter issued"; "Unused records in the standing table are those sealed under the last
-- committed counter"; 18 and 19; "commit and drop know no 8 or 10"
pub asks : (ask_code stand_in key (three 0 2 0 0) (table_in 3 0) (replicate 126 0) (append (9 ∷ [])) sums ≡ 0)
    × (ask_code stand_in key (three 0 2 0 0) (table_in 3 2) (replicate 126 0) (append (9 ∷ [])) sums ≡ 7 + 256 * 1)
    × (ask_code stand_in key (three 0 2 2 3) (table_in 3 0) (replicate 126 0) (append (9 ∷ [])) sums ≡ 18)
    × (ask_code stand_in key (card_two 1 2 0 1 0) (table_in 2 0) (replicate 126 0) (append (9 ∷ [])) sums ≡ 2)
    × (ask_code stand_in key (card_of 1 2 0 1 0) (table_of 0) (replicate 126 0) (append (9 ∷ [])) sums ≡ 2)
    × (ask_code stand_in key (three 0 2 0 0) (table_in 3 0) (replicate 125 0) (append (9 ∷ [])) sums ≡ 1)
    × (ask_code stand_in key (three 0 4294967295 0 0) (table_in 3 0) (replicate 126 0) (append (9 ∷ [])) sums ≡ 10)
    × (ask_code stand_in key (three 0 4294967294 0 0) (table_in 3 0) (replicate 126 0) (append (9 ∷ [])) sums ≡ 0)
    × (ask_code stand_in key (three_of 2 0 2 1 2 0 0) (table_in 3 0) (replicate 126 0) (append (9 ∷ [])) sums ≡ 8)
    × (append_code stand_in key (three 0 2 0 0) (table_in 3 0) (9 ∷ []) sums ≡ 0)
    × (append_code stand_in key (three 0 2 2 3) (table_in 3 0) (9 ∷ []) sums ≡ 18)
    × (append_code stand_in key (three 0 4294967295 0 0) (table_in 3 0) (9 ∷ []) sums ≡ 10)
    × (draw_code stand_in key (three 0 2 0 0) blank always saturday ≡ 0)
    × (draw_code stand_in key (three 0 2 2 3) blank always saturday ≡ 18)
    × (judge_code stand_in key (three 0 2 2 3) [] ≡ 9)
    × (settle_code (three 0 4294967295 4294967295 3) ≡ 0)
    × (settle_code (three_of 2 0 2 1 2 0 0) ≡ 19)
unfolding leap month_days time_fits year_days days_of_years days_of_months day_number weekday start_of end_of all_below plan_fits own over allowed allowed_at joined be le of_be of_le same
    xors first xor_below records_from card_bytes read_card shape_fits token_fits blocks_fit asks_fit card_fits card_length card_sized card_head head_fits head_known version_fits marks_in live
    alike marks_fit clear_bytes nonce_bytes record_at columns_of block_in block_at index_of key_w key_z key_k draw_key hash_key block_hash column_hash drawn_row row_digest digest token
    sealed_record body_in token_in first_bad unused_bad change_code draw_code judge_fault judge_code ask_code settle_code
asks = (refl, refl, refl, refl, refl, refl, refl, refl, refl, refl, refl, refl, refl, refl, refl, refl, refl)

-- 18 stands straight after 8; the second table's size with the sizes that follow from fields; 19 behind 3
pub asks-in-order : (ask_code stand_in [] (card_two 1 2 0 1 0) (table_in 2 0) [] (append []) sums ≡ 1)
    × (ask_code stand_in key (card_two 3 2 0 1 0) (table_in 2 0) [] (append []) sums ≡ 2)
    × (ask_code stand_in key (three 2 1 0 0) (table_in 3 2) [] (append []) sums ≡ 3)
    × (ask_code stand_in key (three 0 2 2 3) (table_in 3 0) [] (update 0 (5 ∷ []) (2 ∷ []) (9 ∷ [])) sums ≡ 1)
    × (ask_code stand_in key (three 0 2 2 3) (table_in 3 0) (replicate 126 0) (update 0 (5 ∷ []) (2 ∷ []) (9 ∷ [])) sums ≡ 15)
    × (update_code stand_in key (three 0 2 2 3) (table_in 3 0) 0 (5 ∷ []) (1 ∷ []) (9 ∷ []) sums ≡ 18)
    × (batch_code stand_in key (three 0 2 2 3) (table_in 3 0) [] sums ≡ 18)
    × (load_code stand_in key (three 0 2 2 3) (table_in 3 0) [] sums ≡ 18)
    × (append_code stand_in key (three_of 16777216 0 1 0 2 2 16777216) (table_in 3 0) (9 ∷ []) sums ≡ 18)
    × (append_code stand_in key (three 0 4294967295 4294967295 3) (table_in 3 0) (9 ∷ []) sums ≡ 18)
    × (append_code stand_in key (three 0 2 2 3) (table_in 3 2) (9 ∷ []) sums ≡ 18)
    × (draw_code stand_in key (three 0 2 2 3) blank never saturday ≡ 17)
    × (draw_code stand_in key (three_of 2 0 3 0 2 2 3) blank always saturday ≡ 18)
    × (settle_code (unknown (0 ∷ three 2 1 0 0)) ≡ 1)
    × (settle_code (unknown (three 2 1 0 0)) ≡ 2)
    × (settle_code (three 2 1 0 0) ≡ 3)
unfolding leap month_days time_fits year_days days_of_years days_of_months day_number weekday start_of end_of all_below plan_fits own over allowed allowed_at joined be le of_be of_le same
    xors first xor_below records_from card_bytes read_card shape_fits token_fits blocks_fit asks_fit card_fits card_length card_sized card_head head_fits head_known version_fits marks_in live
    alike marks_fit clear_bytes nonce_bytes record_at columns_of block_in block_at index_of key_w key_z key_k draw_key hash_key block_hash column_hash drawn_row row_digest digest token
    sealed_record body_in token_in first_bad unused_bad change_code draw_code item_size items_of batch_fits ask_code settle_code
asks-in-order = (refl, refl, refl, refl, refl, refl, refl, refl, refl, refl, refl, refl, refl, refl, refl, refl)

-- an append asked on a card whose last issued is 2, and asked again after a drop; the same in one step
abbrev asked : List ℕ → List ℕ
asked card = ask_card stand_in key card (table_in 3 0) (replicate 126 0) (append (9 ∷ [])) sums

abbrev second : List ℕ → List ℕ
second card = ask_second stand_in key card (table_in 3 0) (replicate 126 0) (append (9 ∷ [])) sums

abbrev appended : ℕ → List ℕ
appended ctr =
    records_from (λ i. sealed_record stand_in (key_k stand_in key id) 3 ctr i (token stand_in key id 2 1 i ((0 ∷ 5 ∷ []) ∷ (0 ∷ 6 ∷ []) ∷ (0 ∷ 9 ∷ []) ∷ []))) 2 1

pub two_steps : (asked (three 0 2 0 0) ≡ three 0 3 3 3) × (second (three 0 2 0 0) ≡ appended 3)
    × (commit_card (asked (three 0 2 0 0)) ≡ three_of 3 3 1 0 3 0 0) × (drop_card (asked (three 0 2 0 0)) ≡ three 0 3 0 0)
    × (asked (three 0 3 0 0) ≡ three 0 4 4 3) × (second (three 0 3 0 0) ≡ appended 4)
    × (change_card stand_in key (three 0 2 0 0) (table_in 3 0) (append (9 ∷ [])) sums ≡ three_of 3 3 1 0 3 0 0)
    × (change_table stand_in key (three 0 2 0 0) (table_in 3 0) (append (9 ∷ [])) sums ≡ appended 3)
    × (second (three_of 2 0 2 0 2 0 0) ≡ take 63 (table_in 3 0) ++ drop 63 (appended 3))
    × (asked (three 0 2 2 3) ≡ three 0 2 2 3) × (second (three 0 2 2 3) ≡ replicate 126 0)
    × (commit_card (three 0 2 0 0) ≡ three 0 2 0 0) × (drop_card (three 0 2 0 0) ≡ three 0 2 0 0)
unfolding be le of_be of_le put same xors first xor_below records_from card_bytes read_card shape_fits token_fits blocks_fit asks_fit card_fits card_length card_sized card_head head_fits head_known
    version_fits marks_in live alike marks_fit clear_bytes nonce_bytes record_at row_of column_of columns_of block_in block_at index_of key_w key_z key_k draw_key hash_key block_hash column_hash drawn_row
    position_of row_digest digest token mixed changed_digest digest_after sealed_record body_in token_in first_bad resealed_record reseal unused_bad asked_card committed_card dropped_card
    changed_card change_code change_card change_table ask_code ask_card ask_second settle_code commit_card drop_card
two_steps = (refl, refl, refl, refl, refl, refl, refl, refl, refl, refl, refl, refl, refl)
