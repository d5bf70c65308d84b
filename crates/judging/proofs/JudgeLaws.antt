-- Laws of judging at the standard primitives: codes and causes from tests, and what a refusal and an answer leave. Assumes nothing.
--   judge-short, judge-refused, judge-of               the code of a judging that is turned away
--   Lent, judge-held                                   what one that is not has
--   judge-kept, judge-done                             what judge answers and leaves
--   cause-kept, cause-done                             what cause answers
--   not-held, not_equal, all-equal                     the cause that the sealed bytes give
--   cause-of                                           the cause of a reply from its tests
use Prim.Native.Nat.{ℕ, ◌*◌}
use mathlib.Core.Path.{◌≡◌, sym, ap, ◌∙◌}
use mathlib.Core.Bool.{Bool, true, false, cond, ◌&&◌}
use mathlib.Core.List.{List, [], ◌∷◌}
use borrow.Author.Tests.{eq-eqb, eqb-true}
use lib.ListN.{length, drop}
use lib.Dec.{eqb, ltb}
use Rattle.std.proofs.Math.Option as M
use Rattle.octets.specs.Octets.{of_be, part, same}
use Rattle.scheme.specs.Checks.{first, if_zero}
use Rattle.scheme.specs.Records as R
use Rattle.scheme.specs.Records.{head_fits, read_card, card_bytes}
use Rattle.scheme.specs.Tokens.{key_k}
use Rattle.scheme.specs.Table.{body_in}
use Rattle.scheme.specs.Judging as J
use Rattle.scheme.specs.Calls.{turned_card, judge_fault, judge_code, judge_card, cause_code}
use Rattle.standard.specs.Standard.{standard}
use Rattle.records.proofs.FaultLaws.{checks-other, checks-refused, checks-passed, checks-zero}
use Rattle.cards.specs.Fields.{card_of, card_fault}
use Rattle.cards.specs.declared.Card as DC
use Rattle.cards.proofs.FaultLaws.{card-checks}
use Rattle.scheme.proofs.laws.CheckLaws.{refusal-kept, answer-written}
use Rattle.judging.specs.Causes.{sealed_cause}

-- what a judging that is not turned away has
pub record Lent (master card : List ℕ) : Type 0 where
  pub key32 : length master ≡ 32
  pub fault : card_fault card ≡ 0

module _ (master card : List ℕ) where
  abbrev judge-rest : R.Card → ℕ
  judge-rest c = first 0 ((ltb 0 c.open', 9) ∷ [])

  judge-whole : judge_fault standard master card ≡ cond (eqb (length master) 32) (if_zero (card_fault card) (judge-rest (read_card card)) (card_fault card)) 1
  unfolding judge_fault
  judge-whole = card-checks (eqb (length master) 32) card _

  pub judge-short : eqb (length master) 32 ≡ false → 1 ≡ judge_fault standard master card
  judge-short h = checks-other (eqb (length master) 32) (card_fault card) (judge-rest (read_card card)) judge-whole h

  pub judge-refused : (n : ℕ) → n ≡ card_fault card → length master ≡ 32 → (n ≡ 0 → ⊥) → n ≡ judge_fault standard master card
  judge-refused n e l h = checks-refused (eqb (length master) 32) (card_fault card) (judge-rest (read_card card)) judge-whole n (eq-eqb (length master) 32 l) e h

  pub judge-of : {b : Bool} (c : DC.Card) → length master ≡ 32 → card_fault card ≡ 0 → card_of c ≡ read_card card
      → ltb 0 c.open_token ≡ b → cond b 0 9 ≡ judge_fault standard master card
  unfolding first card_of
  judge-of {b} c lm z e p =
      let tail : judge-rest (card_of c) ≡ cond b 0 9 = rw p in
      sym (checks-passed (eqb (length master) 32) (card_fault card) (judge-rest (read_card card)) judge-whole (eq-eqb (length master) 32 lm) z ∙ ap judge-rest (sym e) ∙ tail)

  pub judge-held : (n : ℕ) → n ≡ judge_fault standard master card → n ≡ 0 → Lent master card
  judge-held n e z =
      let p = checks-zero (eqb (length master) 32) (card_fault card) (judge-rest (read_card card)) judge-whole (sym e ∙ z) in
      record { key32 = eqb-true (length master) 32 p.0; fault = p.1 }

  module _ (reply : List ℕ) (n : ℕ) (e : n ≡ judge_fault standard master card) where
    pub judge-kept : (n ≡ 0 → ⊥) → (n ≡ judge_code standard master card reply) × (card ≡ judge_card standard master card reply)
    unfolding judge_code judge_card
    judge-kept h = (e ∙ refusal-kept _ _ (judge_fault standard master card) n e h, refusal-kept _ _ card n e h)

    pub judge-done : (c : R.Card) (r : ℕ) (card' : List ℕ) → n ≡ 0 → c ≡ read_card card
        → r ≡ J.verdict_of (J.cause standard master c reply) → card' ≡ card_bytes (turned_card c c.next 0)
        → (r ≡ judge_code standard master card reply) × (card' ≡ judge_card standard master card reply)
    unfolding judge_code judge_card J.verdict
    judge-done c r card' z k p q = (
      p ∙ ap (λ (x : R.Card). J.verdict_of (J.cause standard master x reply)) k ∙ answer-written _ _ (judge_fault standard master card) n e z,
      q ∙ ap (λ (x : R.Card). card_bytes (turned_card x x.next 0)) k ∙ answer-written _ _ card n e z,
    )

    pub cause-kept : (n ≡ 0 → ⊥) → n ≡ cause_code standard master card reply
    unfolding cause_code
    cause-kept h = e ∙ refusal-kept _ _ (judge_fault standard master card) n e h

    pub cause-done : (c : R.Card) (r : ℕ) → n ≡ 0 → c ≡ read_card card → r ≡ 256 * J.cause_number (J.cause standard master c reply)
        → r ≡ cause_code standard master card reply
    unfolding cause_code
    cause-done c r z k p =
        p ∙ ap (λ (x : R.Card). 256 * J.cause_number (J.cause standard master x reply)) k ∙ answer-written _ _ (judge_fault standard master card) n e z

-- the file and the token that a reply and its record name are the card's
abbrev names : DC.Card → List ℕ → Bool
names c reply =
    same (part 3 8 reply) c.id && eqb (of_be (part 11 4 reply)) c.open_token && eqb (of_be (part 11 4 (drop 47 reply))) c.open_token

-- the cause that the sealed bytes of a reply give, from what they open to
module _ (key : List ℕ) (ctr i : ℕ) (reply : List ℕ) where
  pub not-held : M.none ≡ body_in standard key ctr i (drop 47 reply) → J.bad_tag ≡ sealed_cause key ctr i reply
  unfolding first
  not-held h = rw (← h)

  module _ (x : List ℕ) (h : M.some x ≡ body_in standard key ctr i (drop 47 reply)) where
    pub not_equal : same x (part 15 32 reply) ≡ false → J.other_digest ≡ sealed_cause key ctr i reply
    unfolding first
    not_equal e = rw (← h, e)

    pub all-equal : same x (part 15 32 reply) ≡ true → J.no_cause ≡ sealed_cause key ctr i reply
    unfolding first
    all-equal e = rw (← h, e)

-- the cause of a reply from its tests
module _ (master : List ℕ) (c : DC.Card) (reply : List ℕ) where
  pub cause-of : {b₁ b₂ b₃ b₄ : Bool} {why : J.Cause} → eqb (length reply) 110 ≡ b₁
      → (head_fits 108 c.version reply && head_fits 61 c.version (drop 47 reply)) ≡ b₂
      → names c reply ≡ b₃ → eqb (of_be (part 3 8 (drop 47 reply))) c.counter ≡ b₄
      → why ≡ cond b₁ (cond b₂ (cond b₃ (cond b₄ (sealed_cause (key_k standard master c.id) c.counter c.open_token reply) J.other_counter) J.other_token) J.wrong_header) J.wrong_size
      → why ≡ J.cause standard master (card_of c) reply
  unfolding J.cause card_of first
  cause-of p₁ p₂ p₃ p₄ e = e ∙ rw (p₁, p₂, p₃, p₄)
