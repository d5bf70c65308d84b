-- #113 computed over the stand-ins: pooled judgements, their refusals and pairs of faults in their order, the reply that a host makes, and a list of calls
-- with pooled judgements in it. Assumes nothing.
--   pools                       verdicts, cards and codes
--   gathered                        a pooled reply gathered from single ones
--   chain-week, chain-honest    a list of calls; the list theorem speaks of it
use Prim.Native.Nat.{ℕ}
use native.Mathlib.Omega.{arith}
use mathlib.Core.Path.{◌≡◌, refl}
use mathlib.Core.List.{List, [], ◌∷◌, ◌++◌}
use lib.ListN.{length, set, take, replicate}
use Rattle.octets.specs.Octets.{le, be, of_le, of_be, same, xors}
use Rattle.schedule.specs.Calendar.{leap, month_days, time_fits, year_days, days_of_years, days_of_months, day_number, weekday}
use Rattle.schedule.specs.Hours.{start_of, end_of, all_below, plan_fits, own, over, allowed, allowed_at}
use Rattle.scheme.specs.Checks.{first}
use Rattle.scheme.specs.Lists.{joined, pieces, records_from, xor_below}
use Rattle.scheme.specs.Marks.{version_fits, live, alike}
use Rattle.scheme.specs.Records.{card_bytes, read_card, shape_fits, token_fits, blocks_fit, asks_fit, card_fits, card_length, card_sized, card_head, head_fits, head_known}
use Rattle.scheme.specs.Records.{clear_bytes, nonce_bytes, reply_bytes}
use Rattle.scheme.specs.Tokens.{columns_of, block_in, block_at, index_of, key_w, key_z, key_k, draw_key, hash_key, block_hash, column_hash, drawn_row, row_digest, digest, token}
use Rattle.scheme.specs.Table.{sealed_record, body_in}
use Rattle.scheme.specs.Judging.{cause_number, verdict_of, cause, verdict}
use Rattle.scheme.specs.Calls.{turned_card, set_up_code, set_up_card, set_up_table, draw_code, draw_card, judge_fault, judge_code, judge_card}
use Rattle.scheme.specs.Pools.{cut_code, cut_cards, cut_fault, cut, read_all, closed_all, every, absent, distinct, pool_fault, passes, all_pass, pool_sum, pool_fits}
use Rattle.scheme.specs.Pools.{pool_verdict, pool_code, pool_cards, entries, digest_sum, gathered_reply, gather_code, gather_out}
use Rattle.scheme.specs.Roles.{permits, under}
use Rattle.scheme.specs.Runs.{Call, draw, judge, pool, Lent, Ran, run}
use Rattle.scheme.specs.Book.{started, book_card, with_turn, fresh_token, fresh_record, book_table, book_fault, book_after, Honest}
use Rattle.scheme.proofs.examples.ComputedExamples.{stand_in, key, id, sums, always, saturday, blank}

abbrev other : List ℕ
other = 8 ∷ 7 ∷ 6 ∷ 5 ∷ 4 ∷ 3 ∷ 2 ∷ 1 ∷ []

-- the card of a file of an id and a version, whose token 1 was drawn, with o open; the token, and its record
abbrev card_for : List ℕ → ℕ → ℕ → List ℕ
card_for i v o = card_bytes (record { version = v; id = i; B = 1; d = 2; r = 1; t = 2; n = 2; ctr = 0; next = 2; open' = o; last = 0; pending = 0; count = 0 })

abbrev token_for : List ℕ → ℕ → List ℕ
token_for i v = token stand_in key i 2 1 1 (alike (live v) ((5 ∷ []) ∷ (6 ∷ []) ∷ []))

abbrev record_for : List ℕ → ℕ → List ℕ
record_for i v = sealed_record stand_in (key_k stand_in key i) v 0 1 (token_for i v)

-- a pooled reply of two files, one of version 1 and one of version 3, with these digests
abbrev chain : List ℕ → List ℕ → List ℕ
chain x y = be 2 185 ++ 1 ∷ (be 2 2 ++ xors x y ++ id ++ be 4 1 ++ record_for id 1 ++ other ++ be 4 1 ++ record_for other 3)

abbrev two : List ℕ
two = card_for id 1 1 ++ card_for other 3 1

abbrev sound : List ℕ
sound = chain (token_for id 1) (token_for other 3)

pub pools : (pool_code stand_in key two sound ≡ 0)
    × (pool_cards stand_in key two sound ≡ card_for id 1 0 ++ card_for other 3 0)
    -- another digest; two wrong ones that cancel; another version, number, id, token; the record's version, counter, token and tag; one byte more
    × (pool_code stand_in key two (chain (token_for id 1) (token_for id 1)) ≡ 11)
    × (pool_code stand_in key two (chain (token_for other 3) (token_for id 1)) ≡ 0)
    × (pool_code stand_in key two (set sound 2 2) ≡ 11)
    × (pool_code stand_in key two (set sound 4 3) ≡ 11)
    × (pool_code stand_in key two (set sound 37 9) ≡ 11)
    × (pool_code stand_in key two (set sound 48 2) ≡ 11)
    × (pool_code stand_in key two (set sound 51 2) ≡ 11)
    × (pool_code stand_in key two (set sound 59 1) ≡ 11)
    × (pool_code stand_in key two (set sound 63 2) ≡ 11)
    × (pool_code stand_in key two (set sound 186 1) ≡ 11)
    × (pool_code stand_in key two (0 ∷ sound) ≡ 11)
    × (pool_cards stand_in key two [] ≡ card_for id 1 0 ++ card_for other 3 0)
    -- the cards in another order; one card, none; one id twice, ahead of 9; 9; 3 ahead of 23; 2 ahead of 3; 1 ahead of 2; the cut ahead of all
    × (pool_code stand_in key (card_for other 3 1 ++ card_for id 1 1) sound ≡ 11)
    × (pool_code stand_in key (card_for id 1 1) sound ≡ 23)
    × (pool_code stand_in key [] sound ≡ 23)
    × (pool_code stand_in key (card_for id 1 1 ++ card_for id 2 1) sound ≡ 23)
    × (pool_code stand_in key (card_for id 1 0 ++ card_for id 2 1) sound ≡ 23)
    × (pool_code stand_in key (card_for id 1 0 ++ card_for other 3 1) sound ≡ 9)
    × (pool_cards stand_in key (card_for id 1 0 ++ card_for other 3 1) sound ≡ card_for id 1 0 ++ card_for other 3 1)
    × (pool_code stand_in key (card_for id 1 1 ++ card_for other 3 2) sound ≡ 3)
    × (pool_code stand_in key (card_for id 1 1 ++ card_for id 3 2) sound ≡ 3)
    × (pool_code stand_in key (set (card_for id 1 1) 2 3 ++ card_for other 3 2) sound ≡ 2)
    × (pool_code stand_in [] (set two 2 3) sound ≡ 1)
    × (pool_code stand_in [] (set two 1 40) sound ≡ 2)
    × (pool_code stand_in key (take 105 two) sound ≡ 1)
    × (pool_code stand_in key (two ++ 0 ∷ []) sound ≡ 1)
    × (pool_code stand_in key (two ++ 0 ∷ 0 ∷ []) sound ≡ 2)
unfolding be le of_be of_le same xors first joined pieces xor_below records_from card_bytes read_card shape_fits token_fits blocks_fit asks_fit card_fits card_length card_sized card_head head_fits head_known
    version_fits live alike clear_bytes nonce_bytes columns_of block_in block_at index_of key_w key_z key_k draw_key hash_key block_hash column_hash drawn_row row_digest digest token
    sealed_record body_in turned_card cut_code cut_cards cut_fault cut read_all closed_all every absent distinct pool_fault passes all_pass pool_sum pool_fits pool_verdict pool_code pool_cards
pools =
    (refl, refl, refl, refl, refl, refl, refl, refl, refl, refl, refl, refl, refl, refl, refl, refl, refl, refl, refl, refl, refl, refl, refl, refl, refl, refl, refl, refl, refl)

-- the replies of a host of both files
abbrev singles_of : List ℕ
singles_of = reply_bytes 1 id 1 (token_for id 1) (record_for id 1) ++ reply_bytes 3 other 1 (token_for other 3) (record_for other 3)

abbrev room : ℕ → List ℕ
room n = replicate n 0

pub gathered : (gather_out singles_of (room 187) ≡ sound)
    × (gather_code singles_of (room 187) ≡ 0)
    × (gather_code (take 219 singles_of) (room 187) ≡ 1)
    × (gather_code (set singles_of 1 107) (room 187) ≡ 2)
    × (gather_code (set singles_of 112 4) (room 187) ≡ 2)
    × (gather_code (take 110 singles_of) (room 112) ≡ 23)
    × (gather_code (set (take 110 singles_of) 2 0) (room 112) ≡ 2)
    × (gather_code [] (room 37) ≡ 23)
    × (gather_code (take 110 singles_of) (room 1) ≡ 23)
    × (gather_code singles_of (room 186) ≡ 1)
    × (gather_out singles_of (room 186) ≡ room 186)
unfolding be le of_be of_le same xors first joined pieces xor_below records_from head_known version_fits live alike clear_bytes nonce_bytes reply_bytes columns_of block_in block_at index_of key_w key_z key_k
    draw_key hash_key block_hash column_hash drawn_row row_digest digest token sealed_record every entries digest_sum gathered_reply gather_code gather_out
gathered = (refl, refl, refl, refl, refl, refl, refl, refl, refl, refl, refl)

-- by the planner where no one else is named: a pooled judgement with nothing open; a draw; a pooled judgement by the surveyor; one behind a card of three bytes; one
-- beside a card of the same id; one beside a drawn card, with a reply of no bytes, by the manager; judge again
abbrev by : ℕ → Call → Lent
by role x = record { role = role; master = key; call = x }

abbrev chain_calls : List Lent
chain_calls =
    by 2 (pool [] (card_for other 3 1 ∷ []) []) ∷ by 2 (draw blank always saturday) ∷ by 1 (pool [] (card_for other 3 1 ∷ []) [])
    ∷ by 2 (pool ((0 ∷ 1 ∷ 9 ∷ []) ∷ []) [] []) ∷ by 2 (pool (card_for id 1 1 ∷ []) [] []) ∷ by 3 (pool (card_for other 3 1 ∷ []) [] []) ∷ by 2 (judge []) ∷ []

pub chain-week : ◌≡◌ {A = Ran}
    (run stand_in chain_calls
    (set_up_card stand_in key id 1 1 2 1 2 2 (5 ∷ 6 ∷ []) (room 43) (room 126) sums)
    (set_up_table stand_in key id 1 1 2 1 2 2 (5 ∷ 6 ∷ []) (room 43) (room 126) sums) [])
    (record {
      numbers = 9 ∷ 0 ∷ 22 ∷ 2 ∷ 23 ∷ 11 ∷ 9 ∷ [];
      card = card_for id 1 0;
      table = set_up_table stand_in key id 1 1 2 1 2 2 (5 ∷ 6 ∷ []) (room 43) (room 126) sums;
    })
unfolding leap month_days time_fits year_days days_of_years days_of_months day_number weekday start_of end_of all_below plan_fits own over allowed allowed_at run permits under be le of_be of_le same xors first
    joined pieces xor_below records_from card_bytes read_card shape_fits token_fits blocks_fit asks_fit card_fits card_length card_sized card_head head_fits head_known version_fits live alike clear_bytes nonce_bytes
    columns_of block_in block_at index_of key_w key_z key_k draw_key hash_key block_hash column_hash drawn_row row_digest digest token sealed_record body_in cause_number verdict_of cause verdict turned_card set_up_code
    set_up_card set_up_table draw_code draw_card judge_fault judge_code judge_card cut_code cut_cards cut_fault cut read_all closed_all every absent distinct pool_fault passes all_pass pool_sum pool_fits pool_verdict
    pool_code pool_cards
chain-week = refl

pub chain-honest : (set_up_code stand_in key id 1 1 2 1 2 2 (5 ∷ 6 ∷ []) (room 43) (room 126) sums ≡ 0) × Honest stand_in chain_calls (started key id 1 1 2 1 2 2 (5 ∷ 6 ∷ []))
unfolding leap month_days time_fits year_days days_of_years days_of_months day_number weekday start_of end_of all_below plan_fits own over allowed allowed_at permits under be le of_be of_le same xors first
    joined pieces xor_below records_from card_bytes read_card shape_fits token_fits blocks_fit asks_fit card_fits card_length card_sized card_head head_fits head_known version_fits live alike clear_bytes nonce_bytes
    columns_of block_in block_at index_of key_w key_z key_k draw_key hash_key block_hash column_hash drawn_row row_digest digest token sealed_record body_in turned_card set_up_code draw_code judge_fault cut_code cut_cards
    cut_fault cut read_all every absent distinct pool_fault started book_card with_turn fresh_token fresh_record book_table book_fault book_after
chain-honest =
    let mine : length key ≡ 32 → key ≡ key = λ l. refl in (
      refl,
      (mine, λ e. (tt, (refl, tt)), (mine, λ e. tt, (mine, λ e. (tt, (refl, tt)), (mine, λ e. absurd (omega arith), (mine, λ e. ((refl, tt), tt), (mine, λ e. ((refl, tt), tt), (mine, λ e. tt, tt))))))),
    )
