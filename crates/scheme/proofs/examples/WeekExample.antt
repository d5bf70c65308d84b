-- Lists of calls computed over the stand-ins. Assumes nothing.
--   week          a list of calls: its numbers, and the card and the table it leaves; week-honest: the list theorem speaks of it
--   month         a load, and its blocks appended one by one, after a set-up with fewer blocks than rows
--   morning       a batch, and its items made singly
use native.Mathlib.Omega.{arith}
use Prim.Native.Nat.{ℕ}
use mathlib.Core.Path.{◌≡◌, refl}
use mathlib.Core.List.{List, [], ◌∷◌, ◌++◌}
use lib.ListN.{length, replicate}
use Rattle.octets.specs.Octets.{le, be, of_le, of_be, put, same, xors}
use Rattle.schedule.specs.Calendar.{leap, month_days, time_fits, year_days, days_of_years, days_of_months, day_number, weekday}
use Rattle.schedule.specs.Hours.{start_of, end_of, all_below, plan_fits, own, over, allowed, allowed_at}
use Rattle.scheme.specs.Checks.{first}
use Rattle.scheme.specs.Lists.{joined, pieces, records_from, xor_below}
use Rattle.scheme.specs.Marks.{version_fits, marks_in, live, deleted, alike, marks_fit}
use Rattle.scheme.specs.Records.{card_bytes, read_card, shape_fits, token_fits, blocks_fit, asks_fit, card_fits, card_length, card_sized, card_head, head_fits, head_known}
use Rattle.scheme.specs.Records.{clear_bytes, nonce_bytes, record_at}
use Rattle.scheme.specs.Tokens.{row_of, column_of, block_in, columns_of, block_at, index_of, key_w, key_z, key_k, draw_key, hash_key, block_hash}
use Rattle.scheme.specs.Tokens.{column_hash, drawn_row, position_of, row_digest, digest, token, added_from, mixed, changed_digest, digest_after}
use Rattle.scheme.specs.Table.{sealed_record, body_in, token_in, first_bad, resealed_record, reseal}
use Rattle.scheme.specs.Judging.{cause_number, verdict_of, cause, verdict}
use Rattle.scheme.specs.Batches.{item_size, read_item, items_from, items_of, kinds_fit, rising_from, rising, batch_fits, item_marks_fit, numbers_fit, item_block, batch_changes}
use Rattle.scheme.specs.Changes.{update, delete, append, load, batch, loaded, asked_card, committed_card, dropped_card, changed_card, unused_bad, change_code, change_card}
use Rattle.scheme.specs.Changes.{change_table}
use Rattle.scheme.specs.Calls.{turned_card, set_up_code, set_up_card, set_up_table, draw_code, draw_card, judge_fault, judge_code, judge_card}
use Rattle.scheme.specs.Asks.{ask_code, ask_card, ask_second, settle_code, commit_card, drop_card}
use Rattle.scheme.specs.Roles.{permits, under}
use Rattle.scheme.specs.Runs.{Call, change, ask, commit, draw, judge, Lent, Ran, run}
use Rattle.scheme.specs.Book.{started, book_card, with_ask, committed, dropped, with_blocks, with_turn, fresh_token, fresh_record, book_table, book_fault, book_after, Honest}
use Rattle.scheme.specs.Book.{corrected}
use Rattle.scheme.proofs.theorems.SinglyTheorem.{calls}
use Rattle.scheme.proofs.examples.ComputedExamples.{stand_in, key, id, item, marked_item, sums, always, never, saturday, blank}

-- made by a role, and by the planner, lent the key
abbrev by : ℕ → Call → Lent
by role x = record { role = role; master = key; call = x }

abbrev lent : Call → Lent
lent = by 2

-- after a set-up in version 3 with B 1, d 2, r 1, t 1, by the planner where no one else is named: judge with nothing open; update block 0; update by a block of two
-- bytes; update with a master of 31 bytes, and with 15 bytes for totals; update by the surveyor; update, append and delete; delete block 4; append by the manager;
-- load nothing; load two blocks, by the surveyor; a batch of no bytes; update block 2 and delete block 4 in a batch; ask an append with a second table of 62 bytes,
-- by the surveyor; ask an update, by the surveyor and by the planner; append and draw while it is pending; commit, by role 0 and by the planner; commit again; ask a
-- delete; drop it; drop again; draw to a buffer of 90 bytes; draw outside every window; draw, by the surveyor and by the manager; draw and append while a token is
-- open; judge a reply of no bytes, by role 4 and by the manager; "t 1, one draw judged, draw"; append with no token left, by the surveyor
abbrev week_calls : List Lent
week_calls =
    lent (judge []) ∷ lent (change (update 0 (5 ∷ []) (0 ∷ []) (9 ∷ [])) sums) ∷ lent (change (update 1 (5 ∷ []) (0 ∷ []) (9 ∷ 9 ∷ [])) sums)
    ∷ record { role = 2; master = replicate 31 7; call = change (update 1 (5 ∷ []) (0 ∷ []) (9 ∷ [])) sums }
    ∷ lent (change (update 1 (5 ∷ []) (0 ∷ []) (9 ∷ [])) (replicate 15 0)) ∷ by 1 (change (update 1 (5 ∷ []) (0 ∷ []) (9 ∷ [])) sums)
    ∷ lent (change (update 1 (5 ∷ []) (0 ∷ []) (9 ∷ [])) sums) ∷ lent (change (append (8 ∷ [])) sums) ∷ lent (change (delete 3 (8 ∷ []) (0 ∷ [])) sums)
    ∷ lent (change (delete 4 (8 ∷ []) (0 ∷ [])) sums) ∷ by 3 (change (append (8 ∷ [])) sums)
    ∷ lent (change (load []) sums) ∷ by 1 (change (load (3 ∷ 4 ∷ [])) sums)
    ∷ lent (change (batch []) sums) ∷ lent (change (batch (marked_item 1 2 6 0 7 ++ marked_item 2 4 3 0 9)) sums)
    ∷ by 1 (ask (append (2 ∷ [])) (replicate 62 0) sums) ∷ by 1 (ask (update 5 (4 ∷ []) (0 ∷ []) (6 ∷ [])) (replicate 63 0) sums)
    ∷ lent (ask (update 5 (4 ∷ []) (0 ∷ []) (6 ∷ [])) (replicate 63 0) sums) ∷ lent (change (append (2 ∷ [])) sums)
    ∷ lent (draw blank always saturday) ∷ by 0 commit ∷ lent commit ∷ lent commit ∷ lent (ask (delete 1 (9 ∷ []) (0 ∷ [])) (replicate 63 0) sums)
    ∷ lent Call.drop_ask ∷ lent Call.drop_ask ∷ lent (draw (replicate 90 0) always saturday) ∷ lent (draw blank never saturday)
    ∷ by 1 (draw blank always saturday) ∷ by 3 (draw blank always saturday) ∷ lent (draw blank always saturday) ∷ lent (change (append (8 ∷ [])) sums)
    ∷ by 4 (judge []) ∷ by 3 (judge []) ∷ lent (draw blank always saturday) ∷ by 1 (change (append (3 ∷ [])) sums) ∷ []

pub week : ◌≡◌ {A = Ran}
    (run stand_in week_calls
    (set_up_card stand_in key id 3 1 2 1 1 2 (5 ∷ 6 ∷ []) (replicate 63 0) (replicate 63 0) sums)
    (set_up_table stand_in key id 3 1 2 1 1 2 (5 ∷ 6 ∷ []) (replicate 63 0) (replicate 63 0) sums) [])
    (record {
      numbers =
          9 ∷ 4 ∷ 1 ∷ 1 ∷ 1 ∷ 22 ∷ 0 ∷ 0 ∷ 0 ∷ 4 ∷ 22 ∷ 12 ∷ 0 ∷ 14 ∷ 0 ∷ 1 ∷ 22 ∷ 0 ∷ 18 ∷ 18 ∷ 22 ∷ 0 ∷ 19 ∷ 0 ∷ 0 ∷ 19 ∷ 1 ∷ 17 ∷ 22 ∷ 0 ∷ 8 ∷ 8 ∷ 22 ∷ 11 ∷ 6 ∷ 0 ∷ [];
      card =
          0 ∷ 61 ∷ 3 ∷ 1 ∷ 2 ∷ 3 ∷ 4 ∷ 5 ∷ 6 ∷ 7 ∷ 8 ∷ 0 ∷ 1 ∷ 0 ∷ 0 ∷ 0 ∷ 2 ∷ 0 ∷ 1 ∷ 0 ∷ 0 ∷ 0 ∷ 1 ∷ 0 ∷ 0 ∷ 0 ∷ 6 ∷ 0 ∷ 0 ∷ 0 ∷ 0 ∷ 0 ∷ 0 ∷ 0 ∷ 8
          ∷ 0 ∷ 0 ∷ 0 ∷ 2 ∷ 0 ∷ 0 ∷ 0 ∷ 0 ∷ 0 ∷ 0 ∷ 0 ∷ 0 ∷ 0 ∷ 0 ∷ 0 ∷ 8 ∷ 0 ∷ 0 ∷ 0 ∷ 0 ∷ 0 ∷ 0 ∷ 0 ∷ 0 ∷ 0 ∷ 0 ∷ 0 ∷ 0 ∷ [];
      table = sealed_record stand_in (key_k stand_in key id) 3 6 1 (token stand_in key id 2 1 1 ((0 ∷ 9 ∷ []) ∷ (0 ∷ 7 ∷ []) ∷ (1 ∷ 0 ∷ []) ∷ (1 ∷ 0 ∷ []) ∷ (0 ∷ 6 ∷ []) ∷ []));
    })
unfolding leap month_days time_fits year_days days_of_years days_of_months day_number weekday start_of end_of all_below plan_fits own over allowed allowed_at run permits under be le of_be of_le put same xors first joined pieces xor_below records_from card_bytes read_card shape_fits token_fits blocks_fit asks_fit card_fits card_length card_sized card_head head_fits head_known version_fits marks_in live deleted alike marks_fit clear_bytes
    nonce_bytes record_at row_of column_of block_in columns_of block_at index_of key_w key_z key_k draw_key hash_key block_hash column_hash drawn_row position_of row_digest digest token
    added_from loaded item_size read_item items_from items_of kinds_fit rising_from rising batch_fits item_marks_fit numbers_fit item_block batch_changes mixed changed_digest digest_after sealed_record body_in token_in first_bad resealed_record reseal cause_number verdict_of cause verdict changed_card committed_card asked_card
    turned_card set_up_code set_up_card set_up_table unused_bad change_code change_card change_table draw_code draw_card judge_fault judge_code judge_card
    dropped_card ask_code ask_card ask_second settle_code commit_card drop_card
week = refl

-- the list theorem speaks of this list
pub week-honest : (set_up_code stand_in key id 3 1 2 1 1 2 (5 ∷ 6 ∷ []) (replicate 63 0) (replicate 63 0) sums ≡ 0) × Honest stand_in week_calls (started key id 3 1 2 1 1 2 (5 ∷ 6 ∷ []))
unfolding leap month_days time_fits year_days days_of_years days_of_months day_number weekday start_of end_of all_below plan_fits own over allowed allowed_at permits under be le of_be of_le put same xors first joined pieces xor_below records_from card_bytes read_card shape_fits token_fits blocks_fit asks_fit card_fits card_length card_sized card_head head_fits head_known version_fits marks_in live deleted alike marks_fit clear_bytes nonce_bytes
    record_at row_of column_of block_in columns_of block_at index_of key_w key_z key_k draw_key hash_key block_hash column_hash drawn_row position_of row_digest digest token added_from
    loaded item_size read_item items_from items_of kinds_fit rising_from rising batch_fits item_marks_fit numbers_fit item_block batch_changes mixed changed_digest digest_after sealed_record body_in token_in first_bad resealed_record reseal cause_number verdict_of cause verdict changed_card committed_card asked_card turned_card
    set_up_code set_up_card set_up_table unused_bad change_code change_card change_table draw_code draw_card judge_fault judge_code judge_card started book_card with_ask committed dropped with_blocks with_turn
    dropped_card ask_code ask_card ask_second settle_code commit_card drop_card
    fresh_token fresh_record book_table book_fault book_after corrected
week-honest =
    let own : length key ≡ 32 → key ≡ key = λ l. refl in
    (refl, (own, λ e. tt, (own, λ e. absurd (omega arith), (own, λ e. absurd (omega arith), (λ l. absurd (omega arith), λ e. absurd (omega arith), (own, λ e. absurd (omega arith), (own, λ e. absurd (omega arith), (own, λ e. refl, (own, λ e. tt, (own, λ e. refl, (own, λ e. absurd (omega arith), (own, λ e. tt, (own, λ e. tt, (own, λ e. tt, (own, λ e. tt, (own, λ e. (refl {a = 0 ∷ 6 ∷ []}, (refl {a = 0 ∷ 3 ∷ []}, tt)), (own, λ e. tt, (own, λ e. absurd (omega arith), (own, λ e. refl, (own, λ e. tt, (own, λ e. tt, (own, λ e. tt, (own, λ e. tt, (own, λ e. tt, (own, λ e. refl, (own, λ e. tt, (own, λ e. tt, (own, λ e. tt, (own, λ e. tt, (own, λ e. tt, (own, λ e. tt, (own, λ e. tt, (own, λ e. tt, (own, λ e. tt, (own, λ e. tt, (own, λ e. tt, (own, λ e. tt, tt)))))))))))))))))))))))))))))))))))))

-- what calls leave after a set-up in a version with B 1, d 5, r 4, t 1 and the one block 5
abbrev month_of : ℕ → List Lent → Ran
month_of v xs =
    run stand_in xs
    (set_up_card stand_in key id v 1 5 4 1 1 (5 ∷ []) (replicate 43 0) (replicate 63 0) sums)
    (set_up_table stand_in key id v 1 5 4 1 1 (5 ∷ []) (replicate 43 0) (replicate 63 0) sums) []

-- the card and the table of that file with its contents at a counter
abbrev after : ℕ → List ℕ → ℕ → List (List ℕ) → Ran
after v numbers ctr blocks = record {
  numbers = numbers;
  card = card_bytes (record { version = v; id = id; B = 1; d = 5; r = 4; t = 1; n = length blocks; ctr = ctr; next = 1; open' = 0; last = ctr; pending = 0; count = 0 });
  table = sealed_record stand_in (key_k stand_in key id) v ctr 1 (token stand_in key id 5 4 1 blocks);
}

abbrev six : List (List ℕ)
six = (5 ∷ []) ∷ (6 ∷ []) ∷ (7 ∷ []) ∷ (8 ∷ []) ∷ (9 ∷ []) ∷ (3 ∷ []) ∷ []

pub month : (month_of 1 (calls 2 key sums (load (6 ∷ 7 ∷ 8 ∷ 9 ∷ 3 ∷ []) ∷ [])) ≡ after 1 (0 ∷ []) 1 six)
    × (month_of 1 (calls 2 key sums (append (6 ∷ []) ∷ append (7 ∷ []) ∷ append (8 ∷ []) ∷ append (9 ∷ []) ∷ append (3 ∷ []) ∷ [])) ≡ after 1 (0 ∷ 0 ∷ 0 ∷ 0 ∷ 0 ∷ []) 5 six)
unfolding run permits under be le of_be of_le put same xors first joined pieces xor_below records_from card_bytes read_card shape_fits token_fits blocks_fit asks_fit card_fits card_length card_sized card_head head_fits head_known version_fits marks_in live deleted alike marks_fit clear_bytes
    nonce_bytes record_at row_of column_of block_in columns_of block_at index_of key_w key_z key_k draw_key hash_key block_hash column_hash drawn_row position_of row_digest digest token
    added_from loaded item_size read_item items_from items_of kinds_fit rising_from rising batch_fits item_marks_fit numbers_fit item_block batch_changes mixed changed_digest digest_after sealed_record
    body_in token_in first_bad resealed_record reseal changed_card committed_card asked_card set_up_code set_up_card set_up_table unused_bad change_code change_card change_table
month = (refl, refl)

abbrev mended : List (List ℕ)
mended = (5 ∷ []) ∷ (4 ∷ []) ∷ (7 ∷ []) ∷ (8 ∷ []) ∷ (0 ∷ []) ∷ (1 ∷ []) ∷ []

abbrev mended_two : List (List ℕ)
mended_two = (0 ∷ 5 ∷ []) ∷ (0 ∷ 4 ∷ []) ∷ (0 ∷ 7 ∷ []) ∷ (0 ∷ 8 ∷ []) ∷ (1 ∷ 0 ∷ []) ∷ (0 ∷ 1 ∷ []) ∷ []

pub morning : (month_of 1 (calls 2 key sums (load (6 ∷ 7 ∷ 8 ∷ 9 ∷ 3 ∷ []) ∷ batch (item 1 2 6 4 ++ item 2 5 9 8 ++ item 1 6 3 1) ∷ [])) ≡ after 1 (0 ∷ 0 ∷ []) 2 mended)
    × (month_of 1 (calls 2 key sums (load (6 ∷ 7 ∷ 8 ∷ 9 ∷ 3 ∷ []) ∷ update 2 (6 ∷ []) [] (4 ∷ []) ∷ delete 5 (9 ∷ []) [] ∷ update 6 (3 ∷ []) [] (1 ∷ []) ∷ []))
    ≡ after 1 (0 ∷ 0 ∷ 0 ∷ 0 ∷ []) 4 mended)
    × (month_of 2 (calls 2 key sums (load (6 ∷ 7 ∷ 8 ∷ 9 ∷ 3 ∷ []) ∷ batch (marked_item 1 2 6 0 4 ++ marked_item 2 5 9 0 8 ++ marked_item 1 6 3 0 1) ∷ [])) ≡ after 2 (0 ∷ 0 ∷ []) 2 mended_two)
    × (month_of 2 (calls 2 key sums (load (6 ∷ 7 ∷ 8 ∷ 9 ∷ 3 ∷ []) ∷ update 2 (6 ∷ []) (0 ∷ []) (4 ∷ []) ∷ delete 5 (9 ∷ []) (0 ∷ []) ∷ update 6 (3 ∷ []) (0 ∷ []) (1 ∷ []) ∷ []))
    ≡ after 2 (0 ∷ 0 ∷ 0 ∷ 0 ∷ []) 4 mended_two)
unfolding run permits under be le of_be of_le put same xors first joined pieces xor_below records_from card_bytes read_card shape_fits token_fits blocks_fit asks_fit card_fits card_length card_sized card_head head_fits head_known version_fits marks_in live deleted alike marks_fit clear_bytes
    nonce_bytes record_at row_of column_of block_in columns_of block_at index_of key_w key_z key_k draw_key hash_key block_hash column_hash drawn_row position_of row_digest digest token
    added_from loaded item_size read_item items_from items_of kinds_fit rising_from rising batch_fits item_marks_fit numbers_fit item_block batch_changes mixed changed_digest digest_after sealed_record
    body_in token_in first_bad resealed_record reseal changed_card committed_card asked_card set_up_code set_up_card set_up_table unused_bad change_code change_card change_table
morning = (refl, refl, refl, refl)
