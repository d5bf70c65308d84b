-- #107: why a reply was rejected. Assumes nothing.
--   cause-none      the call gives 0 exactly when judge would accept, for every card, key and reply
--   cause-exactly   it gives each cause exactly when no fault of the card or the key is told, the cause is true and no earlier one is
use Prim.Native.Nat.{ℕ, zero, suc, ◌*◌, ◌≤◌, ◌<◌}
use native.Mathlib.Omega.{arith}
use mathlib.Core.Path.{◌≡◌, refl, sym, ap, ◌∙◌, subst}
use mathlib.Core.Logic.{◌≢◌, ◌↔◌, ◌⊎◌, inl, inr}
use mathlib.Core.List.{List, [], ◌∷◌}
use mathlib.Core.Option.{Option, none, some}
use mathlib.Core.Bool.{Bool, true, false, cond, ◌&&◌, false≢true}
use borrow.Author.Tests.{eqb-true, eqb-false}
use lib.ListN.{length, get_or, drop}
use lib.Dec.{eqb}
use Rattle.octets.specs.Octets.{of_be, part, same}
use Rattle.octets.proofs.SameLaws.{same_refl, same_true}
use Rattle.scheme.specs.Checks.{first, if_zero}
use Rattle.scheme.specs.Primitives.{Primitives}
use Rattle.scheme.specs.Records.{Card, read_card, head_fits}
use Rattle.scheme.specs.Tokens.{key_k}
use Rattle.scheme.specs.Table.{there, value, body_in}
use Rattle.scheme.specs.Judging.{Cause, wrong_size, wrong_header, other_token, other_counter, bad_tag, other_digest, no_cause, cause_number, cause_checks, cause}
use Rattle.scheme.specs.Judging.{verdict, Applies}
use Rattle.scheme.specs.Calls.{judge_fault, judge_code, cause_code}
use Rattle.scheme.proofs.laws.JudgingLaws.{first-number, verdict-none, tests}
use Rattle.scheme.proofs.laws.CheckLaws.{test_of, Rising, rising-first}

-- a test fails exactly where something is true
record Decides (b : Bool) (A : Type 0) : Type 0 where
  fails : b ≡ false → A
  holds : b ≡ true → A → ⊥

decides_eq : (x y : ℕ) → Decides (eqb x y) (x ≢ y)
decides_eq x y = record { fails = eqb-false x y; holds = λ h n. n (eqb-true x y h) }

decides-same : (xs ys : List ℕ) → Decides (same xs ys) (xs ≢ ys)
decides-same xs ys = record { fails = λ f e. false≢true (sym f ∙ ap (same xs) (sym e) ∙ same_refl xs); holds = λ h n. n (same_true xs ys h) }

decides-there : (o : Option (List ℕ)) → Decides (there o) (o ≡ none)
decides-there none = record { fails = λ f. refl; holds = λ h. absurd (false≢true h) }
decides-there (some x) = record { fails = λ f. absurd (false≢true (sym f)); holds = λ h e. false≢true (sym (ap there e) ∙ refl) }

decides-both : (a b : Bool) {A B : Type 0} → Decides a A → Decides b B → Decides (a && b) (A ⊎ B)
decides-both true b p q = record { fails = λ f. inr (q.fails f); holds = λ h. elim [ inl x ↦ p.holds refl x | inr y ↦ q.holds h y ] }
decides-both false b p q = record { fails = λ f. inl (p.fails refl); holds = λ h. absurd (false≢true h) }

-- the cause with a number
abbrev cause_of : ℕ → Cause
cause_of zero = no_cause
cause_of (suc zero) = wrong_size
cause_of (suc (suc zero)) = wrong_header
cause_of (suc (suc (suc zero))) = other_token
cause_of (suc (suc (suc (suc zero)))) = other_counter
cause_of (suc (suc (suc (suc (suc zero))))) = bad_tag
cause_of (suc (suc (suc (suc (suc (suc n)))))) = other_digest

number_of : (k : ℕ) → k ≤ 6 → cause_number (cause_of k) ≡ k
unfolding cause_number
number_of zero h = refl
number_of (suc zero) h = refl
number_of (suc (suc zero)) h = refl
number_of (suc (suc (suc zero))) h = refl
number_of (suc (suc (suc (suc zero)))) h = refl
number_of (suc (suc (suc (suc (suc zero))))) h = refl
number_of (suc (suc (suc (suc (suc (suc n)))))) h = omega arith

number-most : (why : Cause) → cause_number why ≤ 6
unfolding cause_number
number-most wrong_size = omega arith
number-most wrong_header = omega arith
number-most other_token = omega arith
number-most other_counter = omega arith
number-most bad_tag = omega arith
number-most other_digest = omega arith
number-most no_cause = omega arith

module _ (P : Primitives) (master : List ℕ) (c : Card) (reply : List ℕ) where
  -- the test beside a cause's number fails exactly where the cause is true
  decides : (why : Cause) → Decides (test_of (cause_number why) (tests P master c reply)) (Applies P master c reply why)
  unfolding cause_number head_fits
  decides wrong_size = decides_eq (length reply) 110
  decides wrong_header =
      decides-both _ _ (decides-both _ _ (decides_eq (of_be (part 0 2 reply)) 108) (decides_eq (get_or reply 2 0) c.version))
      (decides-both _ _ (decides_eq (of_be (part 0 2 (drop 47 reply))) 61) (decides_eq (get_or (drop 47 reply) 2 0) c.version))
  decides other_token =
      decides-both _ _ (decides-both _ _ (decides-same (part 3 8 reply) c.id) (decides_eq (of_be (part 11 4 reply)) c.open'))
      (decides_eq (of_be (part 11 4 (drop 47 reply))) c.open')
  decides other_counter = decides_eq (of_be (part 3 8 (drop 47 reply))) c.ctr
  decides bad_tag = decides-there (body_in P (key_k P master c.id) c.ctr c.open' (drop 47 reply))
  decides other_digest = decides-same (value (body_in P (key_k P master c.id) c.ctr c.open' (drop 47 reply))) (part 15 32 reply)
  decides no_cause = record { fails = λ f. false≢true (sym f); holds = λ h a. a }

  -- a cause is true and no earlier one is
  abbrev pub FirstCause : Cause → Type 0
  FirstCause why = Applies P master c reply why × ((earlier : Cause) → cause_number earlier < cause_number why → Applies P master c reply earlier → ⊥)

  rises : Rising 0 (tests P master c reply)
  unfolding cause_number
  rises = (omega arith, (omega arith, (omega arith, (omega arith, (omega arith, (omega arith, tt))))))

  found : (why : Cause) → 1 ≤ cause_number why
      → (cause_number (cause P master c reply) ≡ cause_number why)
      ↔ ((test_of (cause_number why) (tests P master c reply) ≡ false) × ((j : ℕ) → j < cause_number why → test_of j (tests P master c reply) ≡ true))
  unfolding cause
  found why l =
      let e = first-number (cause_checks P master c reply) in
      let r = rising-first (tests P master c reply) rises (cause_number why) l in
      (λ h. r.0 (sym e ∙ h), λ h. e ∙ r.1 h)

  pub first-cause : (why : Cause) → 1 ≤ cause_number why → (cause_number (cause P master c reply) ≡ cause_number why) ↔ FirstCause why
  first-cause why l = (only, back)
    where
      only : cause_number (cause P master c reply) ≡ cause_number why → FirstCause why
      only h =
          let p = (found why l).0 h in
          ((decides why).fails p.0, λ e b. (decides e).holds (p.1 (cause_number e) b))

      fails : (b : Bool) → Decides b (Applies P master c reply why) → Applies P master c reply why → b ≡ false
      fails true d a = absurd (d.holds refl a)
      fails false d a = refl

      passes : (b : Bool) (A : Type 0) → Decides b A → (A → ⊥) → b ≡ true
      passes true A d n = refl
      passes false A d n = absurd (n (d.fails refl))

      back : FirstCause why → cause_number (cause P master c reply) ≡ cause_number why
      back f =
          (found why l).1 (
            fails (test_of (cause_number why) (tests P master c reply)) (decides why) f.0,
            λ j b. below j (number_of j (omega (arith, number-most why))) b,
          )
        where
          below : (j : ℕ) → cause_number (cause_of j) ≡ j → j < cause_number why → test_of j (tests P master c reply) ≡ true
          below j e b =
              subst (λ (k : ℕ). test_of k (tests P master c reply) ≡ true) e
              (passes (test_of (cause_number (cause_of j)) (tests P master c reply)) (Applies P master c reply (cause_of j)) (decides (cause_of j)) (f.1 (cause_of j) (rw e b)))

-- judge's own codes are 9 at most
abbrev Low : List (Bool × ℕ) → Type 0
Low [] = Unit {0}
Low (x ∷ xs) = (x.1 ≤ 9) × Low xs

low : (xs : List (Bool × ℕ)) → Low xs → first 0 xs ≤ 9
unfolding first
low [] h = omega arith
low (x ∷ xs) h = go x.0 (low xs h.1)
  where
    go : (b : Bool) → first 0 xs ≤ 9 → cond b (first 0 xs) x.1 ≤ 9
    go true rest = rest
    go false rest = h.0

-- the call
module _ (P : Primitives) (master card reply : List ℕ) where
  abbrev why : Cause
  why = cause P master (read_card card) reply

  -- "It gives 0 exactly when judge would accept"
  pub cause-none : (cause_code P master card reply ≡ 0) ↔ (judge_code P master card reply ≡ 0)
  unfolding cause_code judge_code
  cause-none = go (judge_fault P master card)
    where
      go : (n : ℕ) → (if_zero n (256 * cause_number why) n ≡ 0) ↔ (if_zero n (verdict P master (read_card card) reply) n ≡ 0)
      go zero =
          let v = verdict-none P master (read_card card) reply in
          (λ h. v.1 (omega arith), λ h. omega (arith, v.0 h))
      go (suc n) = (λ h. h, λ h. h)

  fault-low : judge_fault P master card ≤ 9
  unfolding judge_fault
  fault-low = low _ (omega arith, (omega arith, (omega arith, (omega arith, tt))))

  -- "each cause exactly when it is true and no earlier one is. It shares judge's checks, 9 included"
  pub cause-exactly : (cause' : Cause) → 1 ≤ cause_number cause'
      → (cause_code P master card reply ≡ 256 * cause_number cause') ↔ ((judge_fault P master card ≡ 0) × FirstCause P master (read_card card) reply cause')
  unfolding cause_code
  cause-exactly cause' l = go (judge_fault P master card) fault-low (first-cause P master (read_card card) reply cause' l)
    where
      go : (n : ℕ) → n ≤ 9 → (cause_number why ≡ cause_number cause') ↔ FirstCause P master (read_card card) reply cause'
          → (if_zero n (256 * cause_number why) n ≡ 256 * cause_number cause') ↔ ((n ≡ 0) × FirstCause P master (read_card card) reply cause')
      go zero h f = (λ e. (refl, f.0 (omega arith)), λ p. ap (λ (x : ℕ). 256 * x) (f.1 p.1))
      go (suc n) h f = (λ e. absurd (omega arith), λ p. absurd (omega (arith, p.0)))
