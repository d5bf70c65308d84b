-- The verdict is 0 exactly by paper 01's rule, and exactly where there is no cause. Assumes nothing.
--   verdict-either       a verdict is 0 or 11
--   numbered, tests      the tests of a reply beside the numbers of their causes
--   verdict-none         a verdict is 0 exactly where there is no cause
--   accepted-exactly     it is 0 exactly where the reply is accepted by the rule
use Prim.Native.Nat.{ℕ, zero, suc}
use native.Mathlib.Omega.{arith}
use mathlib.Core.Path.{◌≡◌, refl, sym, ap, ◌∙◌}
use mathlib.Core.Logic.{◌↔◌, ◌⊎◌, inl, inr}
use mathlib.Core.List.{List, [], ◌∷◌}
use mathlib.Core.Option.{Option, none, some}
use mathlib.Core.Bool.{Bool, true, false, cond, ◌&&◌, false≢true}
use borrow.Author.Tests.{eq-eqb, eqb-true, ne_eqb}
use lib.ListN.{length, get_or, drop}
use lib.Dec.{eqb}
use Rattle.octets.specs.Octets.{of_be, part, same}
use Rattle.octets.proofs.SameLaws.{same_refl, same_true}
use Rattle.scheme.specs.Checks.{first}
use Rattle.scheme.specs.Primitives.{Primitives}
use Rattle.scheme.specs.Records.{Card, head_fits}
use Rattle.scheme.specs.Tokens.{key_k}
use Rattle.scheme.specs.Table.{there, value, body_in}
use Rattle.scheme.specs.Judging.{Cause, no_cause, cause_number, verdict_of, cause_checks, cause}
use Rattle.scheme.specs.Judging.{verdict, Accepted}
use Rattle.scheme.proofs.laws.CheckLaws.{Codes, checks-held, test_of, test-holds, both}

-- the tests of causes beside their numbers
abbrev pub numbered : List (Bool × Cause) → List (Bool × ℕ)
numbered [] = []
numbered (x ∷ xs) = (x.0, cause_number x.1) ∷ numbered xs

pub first-number : (xs : List (Bool × Cause)) → cause_number (first no_cause xs) ≡ first 0 (numbered xs)
unfolding first cause_number
first-number [] = refl
first-number (x ∷ xs) = go x.0 (first-number xs)
  where
    go : (b : Bool) → cause_number (first no_cause xs) ≡ first 0 (numbered xs)
        → cause_number (cond b (first no_cause xs) x.1) ≡ cond b (first 0 (numbered xs)) (cause_number x.1)
    go true h = h
    go false h = refl

-- "Otherwise verdict 11"
zero-eleven : (n : ℕ) → (◌≡◌ {A = ℕ} (cond (eqb n 0) 0 11) 0) ↔ (n ≡ 0)
zero-eleven zero = (λ h. refl, λ h. refl)
zero-eleven (suc n) = (λ h. absurd (not-eleven (rw (ne_eqb (suc n) 0 (λ e. omega arith)) at h)), λ h. absurd (omega arith))
  where
    not-eleven : ◌≡◌ {A = ℕ} 11 0 → ⊥
    not-eleven z = omega arith

either_way : (b : Bool) → (◌≡◌ {A = ℕ} (cond b 0 11) 0) ⊎ (◌≡◌ {A = ℕ} (cond b 0 11) 11)
either_way true = inl refl
either_way false = inr refl

-- a token that is there and is x
some-value : (o : Option (List ℕ)) (x : List ℕ) → there o ≡ true → same (value o) x ≡ true → o ≡ some x
some-value none x h g = absurd (false≢true h)
some-value (some y) x h g = ap some (same_true y x g)

module _ (P : Primitives) (master : List ℕ) (c : Card) (reply : List ℕ) where
  pub verdict-none : (verdict P master c reply ≡ 0) ↔ (cause_number (cause P master c reply) ≡ 0)
  unfolding verdict verdict_of
  verdict-none = zero-eleven (cause_number (cause P master c reply))

  abbrev pub tests : List (Bool × ℕ)
  tests = numbered (cause_checks P master c reply)

  -- every test of an accepted reply holds
  every-test : verdict P master c reply ≡ 0 → (k : ℕ) → test_of k tests ≡ true
  unfolding cause cause_number
  every-test h k =
      let codes : Codes tests = (omega arith, (omega arith, (omega arith, (omega arith, (omega arith, (omega arith, tt)))))) in
      test-holds k tests (checks-held tests [] codes (sym (first-number (cause_checks P master c reply)) ∙ verdict-none.0 h)).0

  -- what an accepted reply has
  accepted-has : verdict P master c reply ≡ 0 → Accepted P master c reply
  unfolding cause_number head_fits
  accepted-has h =
      let rec = drop 47 reply in
      let body = body_in P (key_k P master c.id) c.ctr c.open' rec in
      let test = every-test h in
      let heads = both (head_fits 108 c.version reply) (head_fits 61 c.version rec) (test 2) in
      let own = both (eqb (of_be (part 0 2 reply)) 108) (eqb (get_or reply 2 0) c.version) heads.0 in
      let its = both (eqb (of_be (part 0 2 rec)) 61) (eqb (get_or rec 2 0) c.version) heads.1 in
      let file = both (same (part 3 8 reply) c.id && eqb (of_be (part 11 4 reply)) c.open') (eqb (of_be (part 11 4 rec)) c.open') (test 3) in
      let ids = both (same (part 3 8 reply) c.id) (eqb (of_be (part 11 4 reply)) c.open') file.0 in
      record {
        size = eqb-true (length reply) 110 (test 1);
        own_length = eqb-true (of_be (part 0 2 reply)) 108 own.0;
        own_version = eqb-true (get_or reply 2 0) c.version own.1;
        own_id = same_true (part 3 8 reply) c.id ids.0;
        own_i = eqb-true (of_be (part 11 4 reply)) c.open' ids.1;
        record_length = eqb-true (of_be (part 0 2 rec)) 61 its.0;
        record_version = eqb-true (get_or rec 2 0) c.version its.1;
        record_ctr = eqb-true (of_be (part 3 8 rec)) c.ctr (test 4);
        record_i = eqb-true (of_be (part 11 4 rec)) c.open' file.1;
        opens = some-value body (part 15 32 reply) (test 5) (test 6);
      }

  accepted-is : Accepted P master c reply → verdict P master c reply ≡ 0
  unfolding verdict cause head_fits first verdict_of cause_number
  accepted-is a =
      let rec = drop 47 reply in
      rw (
        eq-eqb (length reply) 110 a.size,
        eq-eqb (of_be (part 0 2 reply)) 108 a.own_length,
        eq-eqb (get_or reply 2 0) c.version a.own_version,
        eq-eqb (of_be (part 0 2 rec)) 61 a.record_length,
        eq-eqb (get_or rec 2 0) c.version a.record_version,
        a.own_id,
        same_refl c.id,
        eq-eqb (of_be (part 11 4 reply)) c.open' a.own_i,
        eq-eqb (of_be (part 11 4 rec)) c.open' a.record_i,
        eq-eqb (of_be (part 3 8 rec)) c.ctr a.record_ctr,
        a.opens,
        same_refl (part 15 32 reply),
      )

  pub accepted-exactly : (verdict P master c reply ≡ 0) ↔ Accepted P master c reply
  accepted-exactly = (accepted-has, accepted-is)

  pub verdict-either : (verdict P master c reply ≡ 0) ⊎ (verdict P master c reply ≡ 11)
  unfolding verdict verdict_of
  verdict-either = either_way (eqb (cause_number (cause P master c reply)) 0)
