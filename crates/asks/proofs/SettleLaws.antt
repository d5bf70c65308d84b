-- Laws of the code of a commit and a drop, and of what they leave. Assumes nothing.
--   settle-refused, settle-of         the code from the card's, and from whether something is pending
--   settle-fine                       the card of one that is not turned away has code 0
--   settled                           what one makes of the card
--   committed-room, dropped-room      the card after it can be written over the one before
use Prim.Native.Nat.{ℕ, ◌+◌, ◌<◌}
use mathlib.Core.Path.{◌≡◌, refl, sym, ap, ◌∙◌}
use mathlib.Core.List.{List, [], ◌∷◌}
use mathlib.Core.Bool.{Bool, true, cond}
use lib.Dec.{ltb}
use lib.ListN.{length}
use Rattle.scheme.specs.Checks.{first, if_zero}
use Rattle.scheme.specs.Records as S
use Rattle.scheme.specs.Changes.{committed_card, dropped_card}
use Rattle.scheme.specs.Asks.{settle_code}
use Rattle.scheme.proofs.laws.CheckLaws.{answer-written}
use Rattle.records.proofs.FaultLaws.{checks-refused, checks-passed, checks-zero}
use Rattle.cards.specs.Fields.{card_of, card_fault}
use Rattle.cards.specs.declared.Card.{Card}
use Rattle.cards.proofs.FaultLaws.{card-checks, after-room}

module _ (card : List ℕ) where
  abbrev asking : S.Card → ℕ
  asking c = first 0 ((ltb 0 c.pending, 19) ∷ [])

  whole : settle_code card ≡ cond true (if_zero (card_fault card) (asking (S.read_card card)) (card_fault card)) 1
  unfolding settle_code
  whole = card-checks true card ((ltb 0 (S.read_card card).pending, 19) ∷ [])

  module _ (n : ℕ) (e : n ≡ card_fault card) where
    pub settle-refused : (n ≡ 0 → ⊥) → n ≡ settle_code card
    settle-refused h = checks-refused true (card_fault card) (asking (S.read_card card)) whole n refl e h

    pub settle-of : {b : Bool} (c : Card) → n ≡ 0 → card_of c ≡ S.read_card card → ltb 0 c.pending ≡ b → cond b 0 19 ≡ settle_code card
    unfolding first card_of
    settle-of {b} c z k p =
        let tail : asking (card_of c) ≡ cond b 0 19 = rw p in
        sym (checks-passed true (card_fault card) (asking (S.read_card card)) whole refl (sym e ∙ z) ∙ ap asking (sym k) ∙ tail)

  module _ (n : ℕ) (e : n ≡ settle_code card) (z : n ≡ 0) where
    pub settle-fine : card_fault card ≡ 0
    settle-fine = (checks-zero true (card_fault card) (asking (S.read_card card)) whole (sym e ∙ z)).1

    module _ (c after : Card) (k : card_of c ≡ S.read_card card) where
      -- f is what becomes of the card
      pub settled : (f : S.Card → S.Card) (x : List ℕ) → card_of after ≡ f (card_of c) → x ≡ S.card_bytes (card_of after)
          → x ≡ if_zero (settle_code card) (S.card_bytes (f (S.read_card card))) card
      settled f x g h = h ∙ ap S.card_bytes (g ∙ ap f k) ∙ answer-written _ _ card n e z

      pub committed-room : card_of after ≡ committed_card (card_of c) → (length card ≡ 2 + S.card_length after.version) × (after.version < 256)
      unfolding card_of committed_card
      committed-room g = after-room card c k settle-fine after (ap (λ (y : S.Card). y.version) g)

      pub dropped-room : card_of after ≡ dropped_card (card_of c) → (length card ≡ 2 + S.card_length after.version) × (after.version < 256)
      unfolding card_of dropped_card
      dropped-room g = after-room card c k settle-fine after (ap (λ (y : S.Card). y.version) g)
