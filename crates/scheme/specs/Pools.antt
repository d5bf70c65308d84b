-- Paper 02, #113: one reply for a chain. "An owner with several centres has one host." Assumes nothing.
--   cut_code, cut_cards, cut_fault, cut   cards that lie end to end, cut by their length fields
--   read_all, closed_all                 their numbers; the cards with their draws closed, end to end
--   every, distinct                    a test that all pass; ids that are different
--   pool_checks, pool_fault              the checks
--   passes, all_pass, pool_sum           the part of a pooled reply that speaks of a card; the xor of the opened tokens
--   PoolAccepted                       the rule by which a pooled reply is accepted
--   pool_verdict, pool_code, pool_cards   the verdict, the number and the cards
--   pooled, OwnLengths                       in lists: this card among the others in their places, and what is said of these
--   gathered_reply, gather_code, gather_out   the host's side: single replies made one pooled reply
use Rattle.std.specs.Prelude.{ℕ, zero, suc, ◌+◌, ◌*◌, ◌/◌, ◌%◌, ◌≡◌, List, [], ◌∷◌, ◌++◌, Bool, true, false, cond, ◌&&◌, ◌||◌, length, get_or, take, drop, replicate, eqb, leb, ltb}
use Rattle.octets.specs.Octets.{be, of_be, part, same, xors}
use Rattle.counts.specs.Codes.{wrong_length, bad_header, out_of_limits, none_open, rejected, bad_pool}
use Rattle.counts.specs.Sizes.{master_size, record_size, reply_size, pooled_head, pooled_entry}
use Rattle.counts.specs.Lengths.{card_length_field, two_step_card_length_field, record_length_field, reply_length_field, pooled_head_length}
use Rattle.counts.specs.Limits.{least_pooled, most_pooled}
use Rattle.scheme.specs.Checks.{first, if_zero, within}
use Rattle.scheme.specs.Lists.{joined, pieces}
use Rattle.scheme.specs.Primitives.{Primitives}
use Rattle.scheme.specs.Records.{Card, read_card, card_fits, card_head, head_fits, head_known}
use Rattle.scheme.specs.Table.{there, value}
use Rattle.scheme.specs.Judging.{names_fit, counter_fits, opened_body}
use Rattle.scheme.specs.Calls.{closed}

-- "Cards lie end to end, cut by length field straight after 22: one not 41 or 61 is 2, a short rest 1": at most k cards
unfoldable pub cut_code : ℕ → List ℕ → ℕ
cut_code zero xs = 0
cut_code (suc k) xs =
    let l = of_be (part 0 2 xs) in
    cond (eqb (length xs) 0) 0
    (first (cut_code k (drop (2 + l) xs))
    ((leb 2 (length xs), wrong_length)
    ∷ (eqb l card_length_field || eqb l two_step_card_length_field, bad_header)
    ∷ (leb (2 + l) (length xs), wrong_length)
    ∷ []))

unfoldable pub cut_cards : ℕ → List ℕ → List (List ℕ)
cut_cards zero xs = []
cut_cards (suc k) xs =
    let l = of_be (part 0 2 xs) in
    cond (eqb (length xs) 0) [] (take (2 + l) xs ∷ cut_cards k (drop (2 + l) xs))

-- there are not more cards than bytes
unfoldable pub cut_fault : List ℕ → ℕ
cut_fault cards = cut_code (length cards) cards

unfoldable pub cut : List ℕ → List (List ℕ)
cut cards = cut_cards (length cards) cards

unfoldable pub read_all : List (List ℕ) → List Card
read_all [] = []
read_all (x ∷ xs) = read_card x ∷ read_all xs

-- "Every verdict closes all draws"
unfoldable pub closed_all : List (List ℕ) → List ℕ
closed_all [] = []
closed_all (x ∷ xs) = closed x ++ closed_all xs

unfoldable pub every : (List ℕ → Bool) → List (List ℕ) → Bool
every f [] = true
every f (x ∷ xs) = f x && every f xs

-- "an id that occurs twice (23)"
unfoldable pub absent : List ℕ → List Card → Bool
absent id [] = true
absent id (c ∷ cs) = cond (same id c.id) false (absent id cs)

unfoldable pub distinct : List Card → Bool
distinct [] = true
distinct (c ∷ cs) = absent c.id cs && distinct cs

-- of each card: whether its numbers are within their limits; whether a token is open
abbrev pub in_limits : List ℕ → Bool
in_limits x = card_fits (read_card x)

abbrev pub is_open : List ℕ → Bool
is_open x = ltb 0 (read_card x).open'

-- "after 3, any other number of cards or an id that occurs twice (23)"; "Two to sixteen drawn files of one master"; "Any open of 0 is 9"
abbrev pub pool_checks : List ℕ → List ℕ → List (Bool × ℕ)
pool_checks master cards =
    (eqb (length master) master_size, wrong_length)
    ∷ (every card_head (cut cards), bad_header)
    ∷ (every in_limits (cut cards), out_of_limits)
    ∷ (within least_pooled most_pooled (length (cut cards)) && distinct (read_all (cut cards)), bad_pool)
    ∷ (every is_open (cut cards), none_open)
    ∷ []

unfoldable pub pool_fault : List ℕ → List ℕ → ℕ
pool_fault master cards = if_zero (cut_fault cards) (first 0 (pool_checks master cards)) (cut_fault cards)

module _ (P : Primitives) where
  -- "for each card in turn id 8, i 4, record 63", at the front of the rest of a reply: "every id, i and record passes as for single judging", by the tests of
  -- `cause_checks` that are of these three
  unfoldable pub passes : List ℕ → Card → List ℕ → Bool
  passes master c rest =
      let rec = part 12 record_size rest in
      head_fits record_length_field c.version rec && names_fit c (part 0 8 rest) (of_be (part 8 4 rest)) rec && counter_fits c rec && there (opened_body P master c rec)

  unfoldable pub all_pass : List ℕ → List Card → List ℕ → Bool
  all_pass master [] rest = true
  all_pass master (c ∷ cs) rest = passes master c rest && all_pass master cs (drop pooled_entry rest)

  -- "the xor of the opened tokens", onto x
  unfoldable pub pool_sum : List ℕ → List ℕ → List Card → List ℕ → List ℕ
  pool_sum master x [] rest = x
  pool_sum master x (c ∷ cs) rest = pool_sum master (xors x (value (opened_body P master c (part 12 record_size rest)))) cs (drop pooled_entry rest)

  -- "length 2, version 1, number of files 2, the xor of their digests 32": "accepted exactly when its size, length, version and number fit, every id, i and
  -- record passes .., and the xor of the opened tokens is the one sent"
  unfoldable pub pool_fits : List ℕ → List Card → List ℕ → Bool
  pool_fits master cs reply =
      eqb (length reply) (pooled_head + pooled_entry * length cs) && eqb (of_be (part 0 2 reply)) (pooled_head_length + pooled_entry * length cs) && eqb (get_or reply 2 0) 1
      && eqb (of_be (part 3 2 reply)) (length cs) && all_pass master cs (drop pooled_head reply)
      && same (pool_sum master (replicate 32 0) cs (drop pooled_head reply)) (part 5 32 reply)

  -- the same rule, clause by clause
  pub record PoolAccepted (master : List ℕ) (cs : List Card) (reply : List ℕ) : Type 0 where
    pub size : length reply ≡ pooled_head + pooled_entry * length cs
    pub own_length : of_be (part 0 2 reply) ≡ pooled_head_length + pooled_entry * length cs
    pub own_version : get_or reply 2 0 ≡ 1
    pub own_number : of_be (part 3 2 reply) ≡ length cs
    pub all : all_pass master cs (drop pooled_head reply) ≡ true
    pub sum : pool_sum master (replicate 32 0) cs (drop pooled_head reply) ≡ part 5 32 reply

  unfoldable pub pool_verdict : List ℕ → List Card → List ℕ → ℕ
  pool_verdict master cs reply = cond (pool_fits master cs reply) 0 rejected

  unfoldable pub pool_code : List ℕ → List ℕ → List ℕ → ℕ
  pool_code master cards reply = if_zero (pool_fault master cards) (pool_verdict master (read_all (cut cards)) reply) (pool_fault master cards)

  unfoldable pub pool_cards : List ℕ → List ℕ → List ℕ → List ℕ
  pool_cards master cards reply = if_zero (pool_fault master cards) (closed_all (cut cards)) cards

-- "In lists, a pooled judgement is a step on each card, whose book is also fed the other cards in their places, as lent"
abbrev pub pooled : List (List ℕ) → List ℕ → List (List ℕ) → List ℕ
pooled before card behind = joined before ++ (card ++ joined behind)

-- "each as long as its length field tells, whatever else they hold"
abbrev pub OwnLengths : List (List ℕ) → Type 0
OwnLengths [] = Unit {0}
OwnLengths (x ∷ xs) = (length x ≡ 2 + of_be (part 0 2 x)) × OwnLengths xs

-- The host's side, of which the paper names no call: what a pooled reply takes over from a single one, id, i and record; and the xor of the digests, onto x
unfoldable pub entries : List (List ℕ) → List ℕ
entries [] = []
entries (x ∷ xs) = part 3 12 x ++ part 47 record_size x ++ entries xs

unfoldable pub digest_sum : List ℕ → List (List ℕ) → List ℕ
digest_sum x [] = x
digest_sum x (y ∷ ys) = digest_sum (xors x (part 15 32 y)) ys

unfoldable pub gathered_reply : List (List ℕ) → List ℕ
gathered_reply xs = be 2 (pooled_head_length + pooled_entry * length xs) ++ (1 ∷ []) ++ be 2 (length xs) ++ digest_sum (replicate 32 0) xs ++ entries xs

-- single replies that lie end to end, of 110 bytes each
abbrev pub singles : List ℕ → List (List ℕ)
singles replies = pieces reply_size (length replies / reply_size) replies

-- 1 for a length that 110 does not divide, 2 for a reply of another length field or of no version that there is, 23 for fewer than two or more than sixteen, 1
-- for the pooled reply's own size
unfoldable pub gather_code : List ℕ → List ℕ → ℕ
gather_code replies pooled =
    first 0
    ((eqb (length replies % reply_size) 0, wrong_length)
    ∷ (every (head_known reply_length_field) (singles replies), bad_header)
    ∷ (within least_pooled most_pooled (length replies / reply_size), bad_pool)
    ∷ (eqb (length pooled) (pooled_head + pooled_entry * (length replies / reply_size)), wrong_length)
    ∷ [])

unfoldable pub gather_out : List ℕ → List ℕ → List ℕ
gather_out replies pooled = if_zero (gather_code replies pooled) (gathered_reply (singles replies)) pooled
