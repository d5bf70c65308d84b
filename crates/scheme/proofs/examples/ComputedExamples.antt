-- Small stand-ins for the functions underneath, and judging computed over them. Assumes nothing.
--   stand_in                                                       a fold for the hash, x ↦ d - 1 - x for P in x + 1 turns, a fold for the tag
--   key, id, sums, card_of, unknown, item, table_of, always, drawn ..     buffers that the examples share
--   causes                                                        each cause of a rejected reply, and pairs of causes in their order
--   causes-two                                                    the same reply in version 2: its versions and its marks
--   called-causes                                                 the call that tells the cause
use Prim.Native.Nat.{ℕ, ◌+◌, ◌*◌, ◌-◌, ◌%◌}
use native.Mathlib.Omega.{arith}
use mathlib.Core.Path.{◌≡◌, refl, sym, ap, ◌∙◌}
use mathlib.Core.List.{List, [], ◌∷◌, ◌++◌}
use mathlib.Core.Option.{none, some}
use mathlib.Core.Bool.{Bool, true, false, cond}
use lib.ListN.{length, take, drop, set, replicate, length-append}
use lib.Seq.{take_at, drop_at, length-take-le}
use Rattle.octets.specs.Octets.{le, be, of_le, of_be, same, xors}
use Rattle.octets.proofs.SameLaws.{same_refl}
use Rattle.schedule.specs.Calendar.{leap, month_days, time_fits, year_days, days_of_years, days_of_months, day_number, weekday}
use Rattle.schedule.specs.Hours.{start_of, end_of, all_below, plan_fits, own, over, allowed, allowed_at}
use Rattle.scheme.specs.Checks.{first}
use Rattle.scheme.specs.Lists.{joined, pieces, records_from, xor_below}
use Rattle.scheme.specs.Primitives.{Primitives}
use Rattle.scheme.specs.Marks.{version_fits, marks_in, live, marked, alike, marks_fit}
use Rattle.scheme.specs.Records.{card_bytes, read_card, shape_fits, token_fits, blocks_fit, asks_fit, card_fits, card_length, card_sized, card_head, head_fits, head_known}
use Rattle.scheme.specs.Records.{clear_bytes, nonce_bytes, record_at}
use Rattle.scheme.specs.Records.{message_bytes, read_message, message_fits, reply_bytes}
use Rattle.scheme.specs.Tokens.{block_in, columns_of, block_at, index_of, key_w, key_z, key_k, draw_key, hash_key, block_hash}
use Rattle.scheme.specs.Tokens.{column_hash, drawn_row, row_digest, digest, token}
use Rattle.scheme.specs.Table.{sealed_record, body_in}
use Rattle.scheme.specs.Judging.{cause_number, verdict_of, cause, verdict}
use Rattle.scheme.specs.Calls.{turned_card, Moment, draw_code, draw_card, message_for, draw_message, judge_fault, judge_code, cause_code, prove_code, prove_reply}

abbrev fold : List ℕ → ℕ
fold [] = 0
fold (x ∷ xs) = (x + 3 * fold xs) % 256

abbrev tag_of : List ℕ → List ℕ
tag_of xs = fold xs ∷ replicate 15 0

-- what opens has the length of a token
pub opened-take : (b : Bool) (y x : List ℕ) → length y ≡ 48 → cond b (some (take 32 y)) none ≡ some x → length x ≡ 32
opened-take true y x h e = let z : take 32 y ≡ x = cc in ap length (sym z) ∙ length-take-le 32 y (omega arith)
opened-take false y x h e = let z : ◌≡◌ {A = ℕ} 0 1 = cc in absurd (omega arith)

abbrev pub stand_in : Primitives
stand_in = record {
  hash = λ xs. fold xs ∷ replicate 31 0;
  hmac = λ k xs. fold (k ++ xs) ∷ replicate 31 0;
  perm = λ k d x. d - 1 - x;
  unperm = λ k d x. d - 1 - x;
  perm_turns = λ k d x. x + 1;
  unperm_turns = λ k d x. d - x;
  sealed = λ k n a x. x ++ tag_of (k ++ n ++ a ++ x);
  opened = λ k n a y. cond (same (drop 32 y) (tag_of (k ++ n ++ a ++ take 32 y))) (some (take 32 y)) none;
  hash_long = λ xs. refl;
  hmac_long = λ k xs. refl;
  perm_below = λ k d x m h. omega arith;
  unperm_perm = λ k d x m h. omega arith;
  perm_unperm = λ k d x m h. omega arith;
  perm_most = λ k d x m h. omega arith;
  unperm_most = λ k d x m h. omega arith;
  sealed_long = λ k n a x h. length-append x (tag_of (k ++ n ++ a ++ x)) ∙ ap (λ (y : ℕ). y + 16) h;
  opened_sealed = λ k n a x h. rw (drop_at x (tag_of (k ++ n ++ a ++ x)) 32 h, take_at x (tag_of (k ++ n ++ a ++ x)) 32 h, same_refl (tag_of (k ++ n ++ a ++ x)));
  opened_long = λ k n a y x h e. opened-take (same (drop 32 y) (tag_of (k ++ n ++ a ++ take 32 y))) y x h e;
}

abbrev pub key : List ℕ
key = replicate 32 7

abbrev pub id : List ℕ
id = 1 ∷ 2 ∷ 3 ∷ 4 ∷ 5 ∷ 6 ∷ 7 ∷ 8 ∷ []

-- a buffer for totals
abbrev pub sums : List ℕ
sums = replicate 16 0

-- a card of d 2, t 2: of a version and B; of version 1; of version 1 and B 1; of version 2 and B 1
abbrev card_as : ℕ → ℕ → ℕ → ℕ → ℕ → ℕ → ℕ → List ℕ
card_as v B r n ctr next o = card_bytes (record { version = v; id = id; B = B; d = 2; r = r; t = 2; n = n; ctr = ctr; next = next; open' = o; last = ctr; pending = 0; count = 0 })

abbrev pub card_in : ℕ → ℕ → ℕ → ℕ → ℕ → ℕ → List ℕ
card_in = card_as 1

abbrev pub card_of : ℕ → ℕ → ℕ → ℕ → ℕ → List ℕ
card_of = card_as 1 1

abbrev pub card_two : ℕ → ℕ → ℕ → ℕ → ℕ → List ℕ
card_two = card_as 2 1

-- with version 0
abbrev pub unknown : List ℕ → List ℕ
unknown xs = set xs 2 0

-- an item of a batch, its blocks of one byte: kind, block number, old and new; in version 2 with a mark behind the old block
abbrev pub item : ℕ → ℕ → ℕ → ℕ → List ℕ
item kind number old new = kind ∷ (be 4 number ++ old ∷ new ∷ [])

abbrev pub marked_item : ℕ → ℕ → ℕ → ℕ → ℕ → List ℕ
marked_item kind number old mark new = kind ∷ (be 4 number ++ old ∷ mark ∷ new ∷ [])

-- a table of sound records at ctr, of a version and of version 1; with a bit of record 2's tag flipped; with one of each tag flipped
abbrev pub table_in : ℕ → ℕ → List ℕ
table_in v ctr =
    records_from (λ i. sealed_record stand_in (key_k stand_in key id) v ctr i (token stand_in key id 2 1 i (alike (live v) ((5 ∷ []) ∷ (6 ∷ []) ∷ [])))) 2 1

abbrev pub table_of : ℕ → List ℕ
table_of = table_in 1

abbrev pub flipped : ℕ → List ℕ
flipped ctr = set (table_of ctr) 125 1

abbrev pub both_flipped : ℕ → List ℕ
both_flipped ctr = set (flipped ctr) 62 1

-- a plan that allows every day from its first minute on, one that allows the night from Friday 22:00 to Saturday 6:00 alone, and none
abbrev pub always : List ℕ
always = joined (replicate 7 (0 ∷ 0 ∷ 5 ∷ 159 ∷ []))

abbrev pub friday_night : List ℕ
friday_night = replicate 16 0 ++ 5 ∷ 40 ∷ 1 ∷ 104 ∷ replicate 8 0

abbrev pub never : List ℕ
never = replicate 28 0

-- a minute of a day in January 2000, and the first of 1 January, a Saturday
abbrev pub january : ℕ → ℕ → Moment
january day minute = record { year = 2000; month = 1; day = day; minute = minute }

abbrev pub saturday : Moment
saturday = january 1 0

-- a message buffer, and one that has been drawn in a version
abbrev pub blank : List ℕ
blank = replicate 91 0

abbrev pub drawn_in : ℕ → List ℕ
drawn_in v = draw_message stand_in key (card_as v 1 1 2 0 1 0) blank always saturday

abbrev pub drawn : List ℕ
drawn = drawn_in 1

-- the reply of a host with blocks and marks, and of one that has the blocks, judged on the drawn card
abbrev reply : ℕ → List ℕ → List ℕ → List ℕ
reply v blocks marks = prove_reply stand_in (drawn_in v) blocks marks (table_in v 0) (replicate 110 0) sums

abbrev right : List ℕ
right = reply 1 (5 ∷ 6 ∷ []) []

abbrev judged_in : ℕ → List ℕ → ℕ
judged_in v reply = judge_code stand_in key (draw_card stand_in key (card_as v 1 1 2 0 1 0) blank always saturday) reply

abbrev judged : List ℕ → ℕ
judged = judged_in 1

abbrev why_in : ℕ → List ℕ → ℕ
why_in v reply = cause_number (cause stand_in key (read_card (draw_card stand_in key (card_as v 1 1 2 0 1 0) blank always saturday)) reply)

abbrev why : List ℕ → ℕ
why = why_in 1

pub causes : (judged right ≡ 0) × (judged [] ≡ 11) × (judged (set right 15 0) ≡ 11) × (judged (reply 1 (4 ∷ 9 ∷ []) []) ≡ 11)
    × (why right ≡ 0) × (why (0 ∷ right) ≡ 1) × (why (set right 1 109) ≡ 2) × (why (set right 2 2) ≡ 2) × (why (set right 48 60) ≡ 2) × (why (set right 49 2) ≡ 2)
    × (why (set right 10 9) ≡ 3) × (why (set right 14 2) ≡ 3) × (why (set right 61 2) ≡ 3) × (why (set right 57 1) ≡ 4) × (why (set right 109 1) ≡ 5) × (why (set right 15 0) ≡ 6)
    × (why (0 ∷ set right 2 2) ≡ 1) × (why (set (set right 49 2) 10 9) ≡ 2) × (why (set (set right 61 2) 57 1) ≡ 3) × (why (set (set right 57 1) 109 1) ≡ 4)
    × (why (set (set right 109 1) 15 0) ≡ 5)
unfolding leap month_days time_fits year_days days_of_years days_of_months day_number weekday start_of end_of all_below plan_fits own over allowed allowed_at joined be le of_be of_le same xors first pieces xor_below records_from card_bytes read_card shape_fits token_fits blocks_fit asks_fit card_fits card_length card_sized card_head head_fits head_known version_fits marks_in live marked alike marks_fit clear_bytes
    nonce_bytes record_at message_bytes read_message message_fits reply_bytes columns_of block_in block_at index_of key_w key_z key_k draw_key hash_key block_hash
    column_hash drawn_row row_digest digest token sealed_record body_in cause_number verdict_of cause verdict turned_card draw_code draw_card message_for draw_message
    judge_fault judge_code prove_code prove_reply
causes = (refl, refl, refl, refl, refl, refl, refl, refl, refl, refl, refl, refl, refl, refl, refl, refl, refl, refl, refl, refl, refl)

-- a block that is told to be deleted is another block
pub causes-two : (judged_in 2 (reply 2 (5 ∷ 6 ∷ []) (0 ∷ 0 ∷ [])) ≡ 0) × (why_in 2 (set (reply 2 (5 ∷ 6 ∷ []) (0 ∷ 0 ∷ [])) 2 1) ≡ 2)
    × (why_in 2 (set (reply 2 (5 ∷ 6 ∷ []) (0 ∷ 0 ∷ [])) 49 1) ≡ 2) × (why_in 2 (reply 2 (5 ∷ 6 ∷ []) (0 ∷ 1 ∷ [])) ≡ 6) × (why_in 2 right ≡ 2)
unfolding leap month_days time_fits year_days days_of_years days_of_months day_number weekday start_of end_of all_below plan_fits own over allowed allowed_at joined be le of_be of_le same xors first pieces xor_below records_from card_bytes read_card shape_fits token_fits blocks_fit asks_fit card_fits card_length card_sized card_head head_fits head_known version_fits marks_in live marked alike marks_fit clear_bytes
    nonce_bytes record_at message_bytes read_message message_fits reply_bytes columns_of block_in block_at index_of key_w key_z key_k draw_key hash_key block_hash
    column_hash drawn_row row_digest digest token sealed_record body_in cause_number verdict_of cause verdict turned_card draw_code draw_card message_for draw_message
    judge_fault judge_code prove_code prove_reply
causes-two = (refl, refl, refl, refl, refl)

-- #107: the call, on the drawn card and with judge's own faults
abbrev called : List ℕ → ℕ
called reply = cause_code stand_in key (draw_card stand_in key (card_of 1 2 0 1 0) blank always saturday) reply

pub called-causes : (called right ≡ 0) × (called [] ≡ 256 * 1) × (called (set right 49 2) ≡ 256 * 2) × (called (set right 61 2) ≡ 256 * 3) × (called (set right 57 1) ≡ 256 * 4)
    × (called (set right 109 1) ≡ 256 * 5) × (called (reply 1 (4 ∷ 9 ∷ []) []) ≡ 256 * 6)
    × (cause_code stand_in key (card_of 1 2 0 1 0) right ≡ 9) × (cause_code stand_in [] (unknown (card_of 1 2 0 1 0)) right ≡ 1)
    × (cause_code stand_in key (unknown (card_of 3 2 0 1 0)) right ≡ 2) × (cause_code stand_in key (card_of 3 2 0 1 0) right ≡ 3)
unfolding leap month_days time_fits year_days days_of_years days_of_months day_number weekday start_of end_of all_below plan_fits own over allowed allowed_at joined be le of_be of_le same xors first pieces xor_below records_from card_bytes read_card shape_fits token_fits blocks_fit asks_fit card_fits card_length card_sized card_head head_fits head_known version_fits marks_in live marked alike marks_fit clear_bytes
    nonce_bytes record_at message_bytes read_message message_fits reply_bytes columns_of block_in block_at index_of key_w key_z key_k draw_key hash_key block_hash
    column_hash drawn_row row_digest digest token sealed_record body_in cause_number verdict_of cause verdict turned_card draw_code draw_card message_for draw_message
    judge_fault judge_code cause_code prove_code prove_reply
called-causes = (refl, refl, refl, refl, refl, refl, refl, refl, refl, refl, refl)
