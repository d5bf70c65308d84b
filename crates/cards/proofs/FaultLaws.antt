-- The codes of a card's checks: from the tests, back to the tests, and among the checks of the calls. Assumes nothing.
--   head-code, card-code, card-refused, card-of   the codes of the head and of the card from their tests, and of the card from the head's
--   CardFine, card-fine                           what a card of code 0 has; card-held: the limits of its numbers in the program
--   head-long, readable, head_read, card-read     it has the bytes that reading asks for
--   card-version, head-room, turned-over, after-room, turned-room    its version is one that there is, and a card of its version can be written over it
--   card-checks                                    the first three checks of a call as one code
use Prim.Native.Nat.{ℕ, ◌+◌, ◌≤◌, ◌<◌}
use native.Mathlib.Omega.{arith}
use mathlib.Core.Path.{◌≡◌, sym, ap, ◌∙◌}
use mathlib.Core.List.{List, [], ◌∷◌}
use mathlib.Core.Bool.{Bool, true, cond, ◌&&◌}
use borrow.Author.Tests.{eqb-true}
use lib.Dec.{eqb}
use lib.ListN.{length, get_or}
use Rattle.scheme.specs.Checks.{first, if_zero}
use Rattle.scheme.specs.Marks.{version_fits}
use Rattle.scheme.specs.Records.{Card, read_card, head_known, card_length, card_sized, card_head, card_fits}
use Rattle.scheme.specs.Calls.{turned_card}
use Rattle.scheme.proofs.laws.CheckLaws.{first-passed, refusal-kept, answer-written, both, first-append, first-stage}
use Rattle.scheme.proofs.laws.LimitLaws.{Limits, card-limits}
use Rattle.records.proofs.FaultLaws.{fault-of, fault-held, fault-checks, head-version, version-small}
use Rattle.cards.specs.declared.Card as DC
use Rattle.cards.specs.Fields.{card_of, head_fault, card_fault}
use Rattle.cards.proofs.CardLaws.{length-least, length_three}

module _ (xs : List ℕ) where
  -- from the tests
  pub head-code : {b₁ b₂ : Bool} → card_sized xs ≡ b₁ → card_head xs ≡ b₂ → ◌≡◌ {A = ℕ} (cond b₁ (cond b₂ 0 2) 1) (head_fault xs)
  unfolding head_fault first
  head-code p q = rw (p, q)

  pub card-code : {b₁ b₂ b₃ : Bool} → card_sized xs ≡ b₁ → card_head xs ≡ b₂ → card_fits (read_card xs) ≡ b₃ → cond b₁ (cond b₂ (cond b₃ 0 3) 2) 1 ≡ card_fault xs
  unfolding card_fault
  card-code p q r = fault-of (card_sized xs) (card_head xs) (card_fits (read_card xs)) p q r

  -- the head's code, then that of the limits
  stages : card_fault xs ≡ if_zero (head_fault xs) (cond (card_fits (read_card xs)) 0 3) (head_fault xs)
  unfolding card_fault head_fault first
  stages =
      first-append 0 ((card_sized xs, 1) ∷ (card_head xs, 2) ∷ []) ((card_fits (read_card xs), 3) ∷ [])
      ∙ first-stage (first 0 ((card_fits (read_card xs), 3) ∷ [])) ((card_sized xs, 1) ∷ (card_head xs, 2) ∷ []) (omega arith, (omega arith, tt))

  module _ (n : ℕ) (e : n ≡ head_fault xs) where
    pub card-refused : (n ≡ 0 → ⊥) → n ≡ card_fault xs
    card-refused h = e ∙ refusal-kept (head_fault xs) _ (head_fault xs) n e h ∙ sym stages

    pub card-of : {b : Bool} (c : DC.Card) → n ≡ 0 → card_of c ≡ read_card xs → card_fits (card_of c) ≡ b → cond b 0 3 ≡ card_fault xs
    card-of {b} c z k f =
        ap (λ (t : Bool). cond t 0 3) (sym f ∙ ap card_fits k) ∙ answer-written (head_fault xs) (cond (card_fits (read_card xs)) 0 3) (head_fault xs) n e z ∙ sym stages

  -- what reading asks for
  pub head-long : card_head xs ≡ true → length xs ≡ 2 + card_length (get_or xs 2 0)
  unfolding card_head
  head-long h =
      eqb-true (length xs) (2 + card_length (get_or xs 2 0))
      (both (head_known (card_length (get_or xs 2 0)) xs) (eqb (length xs) (2 + card_length (get_or xs 2 0))) h).1

  pub readable : card_head xs ≡ true → (43 ≤ length xs) × (get_or xs 2 0 ≡ 3 → 63 ≤ length xs)
  readable h = (
    omega (arith, head-long h, length-least (get_or xs 2 0)),
    λ three. omega (arith, head-long h, length_three (get_or xs 2 0) three),
  )

  pub head_read : head_fault xs ≡ 0 → (43 ≤ length xs) × (get_or xs 2 0 ≡ 3 → 63 ≤ length xs)
  unfolding head_fault
  head_read z = readable (first-passed (card_head xs, 2) [] (omega arith) (first-passed (card_sized xs, 1) _ (omega arith) z).1).0

  -- what a card of code 0 has
  pub record CardFine : Type 0 where
    pub sized : card_sized xs ≡ true
    pub head : card_head xs ≡ true
    pub fits : card_fits (read_card xs) ≡ true

  pub card-fine : card_fault xs ≡ 0 → CardFine
  unfolding card_fault
  card-fine h =
      let p = fault-held (card_sized xs) (card_head xs) (card_fits (read_card xs)) h in
      record { sized = p.0; head = p.1; fits = p.2 }

  pub card-read : card_fault xs ≡ 0 → (43 ≤ length xs) × (get_or xs 2 0 ≡ 3 → 63 ≤ length xs)
  card-read h = readable (card-fine h).head

  -- what the program reads from a card whose head fits
  module _ (c : DC.Card) (e : card_of c ≡ read_card xs) (h : card_head xs ≡ true) where
    borne : c.version ≡ get_or xs 2 0
    unfolding card_of read_card
    borne = ap (λ (k : Card). k.version) e

    head-known : version_fits c.version ≡ true
    unfolding card_head
    head-known =
        ap version_fits borne
        ∙ head-version (card_length (get_or xs 2 0)) xs
        (both (head_known (card_length (get_or xs 2 0)) xs) (eqb (length xs) (2 + card_length (get_or xs 2 0))) h).0

    -- what writing asks for, of a card of the same version
    pub head-room : (after : DC.Card) → after.version ≡ c.version → (length xs ≡ 2 + card_length after.version) × (after.version < 256)
    head-room after same = (
      head-long h ∙ ap (λ (v : ℕ). 2 + card_length v) (sym borne ∙ sym same),
      rw same (version-small c.version head-known),
    )

    pub turned-over : (after : DC.Card) (next o : ℕ) → card_of after ≡ turned_card (card_of c) next o
        → (length xs ≡ 2 + card_length after.version) × (after.version < 256)
    unfolding card_of turned_card
    turned-over after next o t = head-room after (ap (λ (k : Card). k.version) t)

  -- and from a card of code 0
  module _ (c : DC.Card) (e : card_of c ≡ read_card xs) (h : card_fault xs ≡ 0) where
    pub card-held : Limits c.block_bytes c.rows c.positions c.tokens c.blocks c.counter c.next c.open_token
    unfolding card_of
    card-held = card-limits (card_of c) (ap card_fits e ∙ (card-fine h).fits)

    pub card-version : version_fits c.version ≡ true
    card-version = head-known c e (card-fine h).head

    pub after-room : (after : DC.Card) → after.version ≡ c.version → (length xs ≡ 2 + card_length after.version) × (after.version < 256)
    after-room = head-room c e (card-fine h).head

    pub turned-room : (after : DC.Card) (next o : ℕ) → card_of after ≡ turned_card (card_of c) next o
        → (length xs ≡ 2 + card_length after.version) × (after.version < 256)
    turned-room = turned-over c e (card-fine h).head

-- the first three checks of a list of checks as one code: a is what the first asks of other buffers
pub card-checks : (a : Bool) (xs : List ℕ) (rest : List (Bool × ℕ))
    → first 0 ((a && card_sized xs, 1) ∷ (card_head xs, 2) ∷ (card_fits (read_card xs), 3) ∷ rest)
    ≡ cond a (if_zero (card_fault xs) (first 0 rest) (card_fault xs)) 1
unfolding card_fault
card-checks a xs rest = fault-checks a (card_sized xs) (card_head xs) (card_fits (read_card xs)) rest
