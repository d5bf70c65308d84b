-- Tests, and the first number at which one holds. Assumes nothing.
--   both, either, or_right, falsely, never   what a test's parts say
--   all-at, all_more                         a test at every number below another
--   first-is                                 the number before which no test holds, and at which one does, is the first
--   First, first-least                       the first is such a number
use Prim.Native.Nat.{ℕ, zero, suc, ◌+◌, ◌≤◌, ◌<◌}
use native.Mathlib.Omega.{arith}
use native.Mathlib.Numerals.{add-one}
use native.Mathlib.Decide.{dec_lt}
use mathlib.Core.Path.{◌≡◌, refl, sym, ap, subst, ◌∙◌}
use mathlib.Core.Logic.{◌⊎◌, inl, inr}
use mathlib.Core.Bool.{Bool, true, false, ◌&&◌, ◌||◌, false≢true}
use Rattle.schedule.specs.Hours.{all_below, first_from}

pub both : (a b : Bool) → a && b ≡ true → (a ≡ true) × (b ≡ true)
both true b h = (refl, h)
both false b h = absurd (false≢true h)

pub either : (a b : Bool) → a || b ≡ true → (a ≡ true) ⊎ (b ≡ true)
either true b h = inl refl
either false b h = inr h

pub or_right : (a b : Bool) → b ≡ true → a || b ≡ true
or_right true b h = refl
or_right false b h = h

pub falsely : (a : Bool) → (a ≡ true → ⊥) → a ≡ false
falsely true h = absurd (h refl)
falsely false h = refl

pub never : {a : Bool} → a ≡ true → a ≡ false → ⊥
never p q = false≢true (sym q ∙ p)

-- a test at every number below n
pub all-at : (n : ℕ) (f : ℕ → Bool) → all_below n f ≡ true → (v : ℕ) → v < n → f v ≡ true
unfolding all_below
all-at zero f h v l = absurd (omega arith)
all-at (suc n) f h v l = go (dec_lt v n) (all-at n f (both (all_below n f) (f n) h).0 v)
  where
    go : Dec (v < n) → (v < n → f v ≡ true) → f v ≡ true
    go (yes p) ih = ih p
    go (no p) ih =
        let z : n ≡ v = omega arith in
        subst (λ (x : ℕ). f x ≡ true) z (both (all_below n f) (f n) h).1

pub all_more : (n : ℕ) (f : ℕ → Bool) {a b : Bool} → a ≡ all_below n f → b ≡ f n → a && b ≡ all_below (n + 1) f
unfolding all_below
all_more n f p q = rw (add-one, p, q)

module _ (f : ℕ → Bool) where
  pub first-is : (n i r : ℕ) → i ≤ r → r ≤ i + n → ((j : ℕ) → i ≤ j → j < r → f j ≡ false) → (r < i + n → f r ≡ true) → first_from f i n ≡ r
  unfolding first_from
  first-is zero i r l m q t = omega arith
  first-is (suc n) i r l m q t =
      go (f i) refl (dec_lt i r) (λ h. first-is n (suc i) r h (omega arith) (λ j a b. q j (omega arith) b) (λ a. t (omega arith)))
    where
      go : (b : Bool) → f i ≡ b → Dec (i < r) → (suc i ≤ r → first_from f (suc i) n ≡ r) → elim b [ true ↦ i | false ↦ first_from f (suc i) n ] ≡ r
      go true e (yes p) ih = absurd (never e (q i (omega arith) p))
      go true e (no p) ih = omega arith
      go false e (yes p) ih = ih p
      go false e (no p) ih =
          let z : i ≡ r = omega arith in
          absurd (never (t (omega arith)) (ap f (sym z) ∙ e))

  pub record First (i n r : ℕ) : Type 0 where
    pub least : i ≤ r
    pub most : r ≤ i + n
    pub before : (j : ℕ) → i ≤ j → j < r → f j ≡ false
    pub holds : r < i + n → f r ≡ true

  pub first-least : (n i : ℕ) → First i n (first_from f i n)
  unfolding first_from
  first-least zero i = record { least = omega arith; most = omega arith; before = λ j a b. absurd (omega arith); holds = λ h. absurd (omega arith) }
  first-least (suc n) i = go (f i) refl (first-least n (suc i))
    where
      at : f i ≡ false → First (suc i) n (first_from f (suc i) n) → (j : ℕ) → i ≤ j → j < first_from f (suc i) n → Dec (i < j) → f j ≡ false
      at e g j a b (yes p) = g.before j p b
      at e g j a b (no p) =
          let z : i ≡ j = omega arith in
          ap f (sym z) ∙ e

      go : (b : Bool) → f i ≡ b → First (suc i) n (first_from f (suc i) n) → First i (suc n) (elim b [ true ↦ i | false ↦ first_from f (suc i) n ])
      go true e g = record { least = omega arith; most = omega arith; before = λ j a b. absurd (omega arith); holds = λ h. e }
      go false e g =
          record {
            least = omega (arith, g.least);
            most = omega (arith, g.most);
            before = λ j a b. at e g j a b (dec_lt i j);
            holds = λ h. g.holds (omega arith);
          }
