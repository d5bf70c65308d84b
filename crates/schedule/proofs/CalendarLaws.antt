-- Dates and weekdays as the code has them. Assumes nothing.
--   month-most, february, other     the days of a month: at most 31, and by the tests of its number
--   Dated, date-limits, date-within the limits of a date and a minute that fit, as facts about numbers
--   leap-fourth, years-is           from 2000 to 2099 every fourth year is a leap year, and so the days of the years in closed form
--   months-most, months-more        the days of the first months of a year: at most 31 each, and one month more
--   weekday-below, weekday-is       a weekday is below 7; the weekday with the days of the years in closed form
use Prim.Native.Nat.{ℕ, zero, suc, ◌+◌, ◌-◌, ◌*◌, ◌/◌, ◌%◌, ◌≤◌, ◌<◌}
use native.Mathlib.Omega.{arith}
use native.Mathlib.Numerals.{add-one}
use mathlib.Core.Path.{◌≡◌, refl, sym, ap, ◌∙◌}
use mathlib.Core.Bool.{Bool, true, false, cond, not, ◌&&◌, ◌||◌, false≢true}
use borrow.Author.Tests.{ne_eqb, eqb-true, eqb-false, leb-true}
use lib.Dec.{eqb, leb}
use Rattle.schedule.proofs.TestLaws.{both}
use Rattle.schedule.specs.Calendar.{leap, year_days, month_days, days_of_years, days_of_months, day_number, weekday, time_fits}

pub month-most : (y m : ℕ) → month_days y m ≤ 31
unfolding month_days
month-most y m = go (eqb m 2) (leap y) (eqb m 4 || eqb m 6 || eqb m 9 || eqb m 11)
  where
    go : (a b c : Bool) → cond a (cond b 29 28) (cond c 30 31) ≤ 31
    go true true c = omega arith
    go true false c = omega arith
    go false b true = omega arith
    go false b false = omega arith

-- the days of a month by the tests of its number
pub february : (y m : ℕ) {a b : Bool} → m ≡ 2 → a ≡ leap y → a ≡ b → cond b 29 28 ≡ month_days y m
unfolding month_days
february y m e p q = rw (e, ← p, q)

pub other : (y m : ℕ) {b : Bool} → (m ≡ 2 → ⊥) → (eqb m 4 || eqb m 6 || eqb m 9 || eqb m 11) ≡ b → cond b 30 31 ≡ month_days y m
unfolding month_days
other y m n q = rw (ne_eqb m 2 n, q)

pub record Dated (y m d minute : ℕ) : Type 0 where
  pub y_least : 2000 ≤ y
  pub y_most : y ≤ 2099
  pub m_least : 1 ≤ m
  pub m_most : m ≤ 12
  pub d_least : 1 ≤ d
  pub d_most : d ≤ month_days y m
  pub minute_most : minute ≤ 1439

pub date-limits : (y m d minute : ℕ) → time_fits y m d minute ≡ true → Dated y m d minute
unfolding time_fits
date-limits y m d minute h =
    let p₁ = both (leb 2000 y && leb y 2099 && leb 1 m && leb m 12 && leb 1 d && leb d (month_days y m)) (leb minute 1439) h in
    let p₂ = both (leb 2000 y && leb y 2099 && leb 1 m && leb m 12 && leb 1 d) (leb d (month_days y m)) p₁.0 in
    let p₃ = both (leb 2000 y && leb y 2099 && leb 1 m && leb m 12) (leb 1 d) p₂.0 in
    let p₄ = both (leb 2000 y && leb y 2099 && leb 1 m) (leb m 12) p₃.0 in
    let p₅ = both (leb 2000 y && leb y 2099) (leb 1 m) p₄.0 in
    let p₆ = both (leb 2000 y) (leb y 2099) p₅.0 in
    record {
      y_least = leb-true 2000 y p₆.0;
      y_most = leb-true y 2099 p₆.1;
      m_least = leb-true 1 m p₅.1;
      m_most = leb-true m 12 p₄.1;
      d_least = leb-true 1 d p₃.1;
      d_most = leb-true d (month_days y m) p₂.1;
      minute_most = leb-true minute 1439 p₁.1;
    }

pub date-within : (y m d minute : ℕ) → time_fits y m d minute ≡ true
    → (2000 ≤ y) × (y ≤ 2099) × (1 ≤ m) × (m ≤ 12) × (1 ≤ d) × (d ≤ 31)
date-within y m d minute h =
    let l = date-limits y m d minute h in
    (l.y_least, l.y_most, l.m_least, l.m_most, l.d_least, omega (arith, l.d_most, month-most y m))

-- every fourth year from 2000 to 2099 is a leap year
tidy : (a b c : Bool) → b ≡ false → c ≡ false → (a && not b) || c ≡ a
tidy true true c p q = absurd (false≢true (sym p))
tidy true false c p q = refl
tidy false b c p q = q

leap-fourth : (k : ℕ) → k < 100 → leap (2000 + k) ≡ eqb (k % 4) 0
unfolding leap
leap-fourth zero h = refl
leap-fourth (suc k) h =
    let e : (2000 + suc k) % 4 ≡ suc k % 4 = omega arith in
    tidy (eqb ((2000 + suc k) % 4) 0) (eqb ((2000 + suc k) % 100) 0) (eqb ((2000 + suc k) % 400) 0)
    (ne_eqb ((2000 + suc k) % 100) 0 (λ z. omega arith)) (ne_eqb ((2000 + suc k) % 400) 0 (λ z. omega arith))
    ∙ ap (λ (n : ℕ). eqb n 0) e

pub years-is : (k : ℕ) → k ≤ 100 → days_of_years k ≡ k * 365 + (k + 3) / 4
unfolding days_of_years year_days
years-is zero h = refl
years-is (suc k) h = go (eqb (k % 4) 0) refl (years-is k (omega arith))
  where
    go : (b : Bool) → eqb (k % 4) 0 ≡ b → days_of_years k ≡ k * 365 + (k + 3) / 4
        → days_of_years k + cond (leap (2000 + k)) 366 365 ≡ suc k * 365 + (suc k + 3) / 4
    go true e ih =
        let l : ◌≡◌ {A = ℕ} (cond (leap (2000 + k)) 366 365) 366 = rw (leap-fourth k (omega arith), e) in
        omega (arith, eqb-true (k % 4) 0 e)
    go false e ih =
        let l : ◌≡◌ {A = ℕ} (cond (leap (2000 + k)) 366 365) 365 = rw (leap-fourth k (omega arith), e) in
        let n : (k % 4 ≡ 0 → ⊥) = eqb-false (k % 4) 0 e in
        omega (arith, n)

pub months-most : (y k : ℕ) → days_of_months y k ≤ k * 31
unfolding days_of_months
months-most y zero = omega arith
months-most y (suc k) = omega (arith, months-most y k, month-most y (suc k))

pub months-more : (y k : ℕ) (x d : ℕ) → x ≡ days_of_months y k → d ≡ month_days y (k + 1) → x + d ≡ days_of_months y (k + 1)
unfolding days_of_months
months-more y k x d p q = rw (p, q, add-one)

-- the weekday with the days of the years in closed form
pub weekday-is : (y m d x : ℕ) → 2000 ≤ y → y ≤ 2099 → x ≡ days_of_months y (m - 1)
    → ((y - 2000) * 365 + (y - 2000 + 3) / 4 + x + (d - 1) + 5) % 7 ≡ weekday y m d
unfolding weekday day_number
weekday-is y m d x l h e = rw (e, ← years-is (y - 2000) (omega arith))

pub weekday-below : (y m d : ℕ) → weekday y m d < 7
unfolding weekday
weekday-below y m d = omega arith
