-- Paper 02, #108: what calls of a list seal, read from what they write. Assumes nothing.
--   taken, counters             the counter that a call takes; those that a list takes, in order
--   nonces_from, sealed, seals   counter and token number of records; of those that a call seals; of those that a list seals
--   Rising, Once                numbers that rise; pairs of which none occurs twice
--   OwnLength                   a card is as long as its length field tells
--   OtherLengths, Placed          so are the other cards of every pooled judgement in a list; so are all its cards, this one too
use Rattle.std.specs.Prelude.{ℕ, zero, suc, ◌+◌, ◌-◌, ◌<◌, ◌≡◌, List, [], ◌∷◌, ◌++◌, ◌≢◌, length}
use Rattle.octets.specs.Octets.{of_be, part}
use Rattle.scheme.specs.Checks.{if_zero}
use Rattle.scheme.specs.Primitives.{Primitives}
use Rattle.scheme.specs.Records.{Card, read_card, record_at}
use Rattle.scheme.specs.Changes.{change_card, change_table}
use Rattle.scheme.specs.Asks.{ask_card, ask_second}
use Rattle.scheme.specs.Pools.{OwnLengths}
use Rattle.scheme.specs.Runs.{Call, change, ask, commit, drop_ask, draw, judge, pool, Lent, lent_code, lent_card, lent_table, lent_asked}

-- above m, each above the one before
abbrev pub Rising : ℕ → List ℕ → Type 0
Rising m [] = Unit {0}
Rising m (n ∷ ns) = (m < n) × Rising n ns

-- the counter and the token number that m records from i on bear in clear
unfoldable pub nonces_from : ℕ → ℕ → List ℕ → List (ℕ × ℕ)
nonces_from zero i table = []
nonces_from (suc m) i table = (of_be (part 3 8 (record_at i table)), of_be (part 11 4 (record_at i table))) ∷ nonces_from m (i + 1) table

-- those of the unused records
abbrev pub unused_nonces : Card → List ℕ → List (ℕ × ℕ)
unused_nonces c table = nonces_from (c.t + 1 - c.next) c.next table

-- no pair occurs twice
abbrev pub Missing : ℕ × ℕ → List (ℕ × ℕ) → Type 0
Missing p [] = Unit {0}
Missing p (q ∷ qs) = (p ≢ q) × Missing p qs

abbrev pub Once : List (ℕ × ℕ) → Type 0
Once [] = Unit {0}
Once (p ∷ ps) = Missing p ps × Once ps

-- "each as long as its length field tells"
abbrev pub OwnLength : List ℕ → Type 0
OwnLength card = length card ≡ 2 + of_be (part 0 2 card)

abbrev pub OtherLengthsIn : Call → Type 0
OtherLengthsIn (change e totals) = Unit {0}
OtherLengthsIn (ask e second totals) = Unit {0}
OtherLengthsIn commit = Unit {0}
OtherLengthsIn drop_ask = Unit {0}
OtherLengthsIn (draw message plan now) = Unit {0}
OtherLengthsIn (judge reply) = Unit {0}
OtherLengthsIn (pool before behind reply) = OwnLengths before × OwnLengths behind

abbrev pub OtherLengths : List Lent → Type 0
OtherLengths [] = Unit {0}
OtherLengths (x ∷ xs) = OtherLengthsIn x.call × OtherLengths xs

abbrev pub PlacedIn : Call → List ℕ → Type 0
PlacedIn (change e totals) card = Unit {0}
PlacedIn (ask e second totals) card = Unit {0}
PlacedIn commit card = Unit {0}
PlacedIn drop_ask card = Unit {0}
PlacedIn (draw message plan now) card = Unit {0}
PlacedIn (judge reply) card = Unit {0}
PlacedIn (pool before behind reply) card = OwnLengths before × OwnLength card × OwnLengths behind

module _ (P : Primitives) where
  -- a change, in one step or asked, takes a counter: the last issued on the card that it leaves; no other call of a list does
  abbrev pub takes : List ℕ → Call → List ℕ → List ℕ → List ℕ
  takes master (change e totals) card table = (read_card (change_card P master card table e totals)).last ∷ []
  takes master (ask e second totals) card table = (read_card (ask_card P master card table second e totals)).last ∷ []
  takes master commit card table = []
  takes master drop_ask card table = []
  takes master (draw message plan now) card table = []
  takes master (judge reply) card table = []
  takes master (pool before behind reply) card table = []

  -- and seals the unused records of the table that it writes
  abbrev pub writes : List ℕ → Call → List ℕ → List ℕ → List (ℕ × ℕ)
  writes master (change e totals) card table = unused_nonces (read_card card) (change_table P master card table e totals)
  writes master (ask e second totals) card table = unused_nonces (read_card card) (ask_second P master card table second e totals)
  writes master commit card table = []
  writes master drop_ask card table = []
  writes master (draw message plan now) card table = []
  writes master (judge reply) card table = []
  writes master (pool before behind reply) card table = []

  -- where it is accepted
  unfoldable pub taken : Lent → List ℕ → List ℕ → List ℕ
  taken x card table = if_zero (lent_code P x card table) (takes x.master x.call card table) []

  unfoldable pub sealed : Lent → List ℕ → List ℕ → List (ℕ × ℕ)
  sealed x card table = if_zero (lent_code P x card table) (writes x.master x.call card table) []

  -- of calls one after the other, each on the card and the tables that the one before left
  unfoldable pub counters : List Lent → List ℕ → List ℕ → List ℕ → List ℕ
  counters [] card table asked = []
  counters (x ∷ xs) card table asked =
      taken x card table
      ++ counters xs (lent_card P x card table) (lent_table P x card table asked) (lent_asked P x card table asked)

  unfoldable pub seals : List Lent → List ℕ → List ℕ → List ℕ → List (ℕ × ℕ)
  seals [] card table asked = []
  seals (x ∷ xs) card table asked =
      sealed x card table
      ++ seals xs (lent_card P x card table) (lent_table P x card table asked) (lent_asked P x card table asked)

  -- of calls one after the other: a list without pooled judgements is placed on any card
  abbrev pub Placed : List Lent → List ℕ → List ℕ → List ℕ → Type 0
  Placed [] card table asked = Unit {0}
  Placed (x ∷ xs) card table asked =
      PlacedIn x.call card × Placed xs (lent_card P x card table) (lent_table P x card table asked) (lent_asked P x card table asked)
