-- What the wait says of a plan, and the weekday of a date. Assumes nothing.
--   wait-least       every minute before the wait is not allowed, and the minute that it leads to is
--   week-is          every minute of the week is one of the 10,080
--   wait-none        the wait is 10,080 exactly where no minute of the week is allowed
--   wait-now         the wait is 0 exactly where this very minute is allowed
--   draw-outside     so that a draw is outside every window, code 17, exactly where its wait is not 0
--   first-day        1 January 2000 has number 0
--   next-day, next-month, next-year   the day after a date has the next number: within a month, at its end, at the end of a year
--   next-weekday     so that its weekday is the next one
use Prim.Native.Nat.{ℕ, zero, suc, ◌+◌, ◌-◌, ◌*◌, ◌/◌, ◌%◌, ◌≤◌, ◌<◌}
use native.Mathlib.Omega.{arith}
use native.Mathlib.Decide.{dec_lt}
use mathlib.Core.Path.{◌≡◌, refl, sym, ap, ap₂, ◌∙◌}
use mathlib.Core.Logic.{◌≢◌, ◌↔◌}
use mathlib.Core.List.{List}
use mathlib.Core.Bool.{Bool, true, false, cond, false≢true}
use Rattle.schedule.specs.Calendar.{leap, year_days, month_days, days_of_years, days_of_months, day_number, weekday, time_fits}
use Rattle.schedule.specs.Hours.{allowed, allowed_in, wait_from, wait_at, allowed_at}
use Rattle.schedule.proofs.CalendarLaws.{date-limits, weekday-below}
use Rattle.schedule.proofs.TestLaws.{first-least}
use Rattle.schedule.proofs.WaitLaws.{now-is, at_once}

-- "the wait in minutes for the first allowed one among the 10,080 that start with the given one"
pub record Waits (plan : List ℕ) (w m r : ℕ) : Type 0 where
  pub most : r ≤ 10080
  pub before : (k : ℕ) → k < r → allowed_in plan w m k ≡ false
  pub first : r < 10080 → allowed_in plan w m r ≡ true

pub wait-least : (plan : List ℕ) (w m : ℕ) → Waits plan w m (wait_from plan w m)
unfolding wait_from
wait-least plan w m =
    let f = first-least (allowed_in plan w m) 10080 0 in
    record { most = omega (arith, f.most); before = λ k h. f.before k (omega arith) h; first = λ h. f.holds (omega arith) }

-- minute μ of weekday v, from minute m of weekday w
abbrev until : ℕ → ℕ → ℕ → ℕ → ℕ
until w m v μ = (v * 1440 + μ + 10080 - (w * 1440 + m)) % 10080

pub week-is : (plan : List ℕ) (w m v μ : ℕ) → w < 7 → m < 1440 → v < 7 → μ < 1440
    → (until w m v μ < 10080) × (allowed_in plan w m (until w m v μ) ≡ allowed plan v μ)
unfolding allowed_in
week-is plan w m v μ hw hm hv hμ =
    let p : (w + (m + until w m v μ) / 1440) % 7 ≡ v = omega arith in
    let q : (m + until w m v μ) % 1440 ≡ μ = omega arith in
    (omega arith, ap₂ (allowed plan) p q)

in-week : (plan : List ℕ) (w m k : ℕ) → ((v μ : ℕ) → v < 7 → μ < 1440 → allowed plan v μ ≡ false) → allowed_in plan w m k ≡ false
unfolding allowed_in
in-week plan w m k none = none ((w + (m + k) / 1440) % 7) ((m + k) % 1440) (omega arith) (omega arith)

module _ (plan : List ℕ) (w m : ℕ) (hw : w < 7) (hm : m < 1440) where
  -- "10,080 for none"
  pub wait-none : (wait_from plan w m ≡ 10080) ↔ ((v μ : ℕ) → v < 7 → μ < 1440 → allowed plan v μ ≡ false)
  wait-none = (only, back)
    where
      only : wait_from plan w m ≡ 10080 → (v μ : ℕ) → v < 7 → μ < 1440 → allowed plan v μ ≡ false
      only e v μ hv hμ =
          let h = week-is plan w m v μ hw hm hv hμ in
          sym h.1 ∙ (wait-least plan w m).before (until w m v μ) (omega (arith, h.0))

      back : ((v μ : ℕ) → v < 7 → μ < 1440 → allowed plan v μ ≡ false) → wait_from plan w m ≡ 10080
      back none =
          let l = wait-least plan w m in
          go l (dec_lt (wait_from plan w m) 10080)
        where
          go : Waits plan w m (wait_from plan w m) → Dec (wait_from plan w m < 10080) → wait_from plan w m ≡ 10080
          go l (yes p) = absurd (false≢true (sym (in-week plan w m (wait_from plan w m) none) ∙ l.first p))
          go l (no p) = omega (arith, l.most)

  pub wait-now : (wait_from plan w m ≡ 0) ↔ (allowed plan w m ≡ true)
  wait-now = (only, at_once plan w m hw hm)
    where
      only : wait_from plan w m ≡ 0 → allowed plan w m ≡ true
      only e = sym (now-is plan w m hw hm) ∙ ap (allowed_in plan w m) (sym e) ∙ (wait-least plan w m).first (omega arith)

-- "after 3 a draw outside every window (17)"
pub draw-outside : (plan : List ℕ) (y mo d m : ℕ) → time_fits y mo d m ≡ true → (allowed_at plan y mo d m ≡ false) ↔ (wait_at plan y mo d m ≢ 0)
unfolding allowed_at wait_at
draw-outside plan y mo d m h = ((λ e z. false≢true (sym e ∙ now.0 z)), back (allowed plan (weekday y mo d) m) refl)
  where
    now : (wait_from plan (weekday y mo d) m ≡ 0) ↔ (allowed plan (weekday y mo d) m ≡ true)
    now = wait-now plan (weekday y mo d) m (weekday-below y mo d) (omega (arith, (date-limits y mo d m h).minute_most))

    back : (b : Bool) → allowed plan (weekday y mo d) m ≡ b → wait_from plan (weekday y mo d) m ≢ 0 → b ≡ false
    back true e n = absurd (n (now.1 e))
    back false e n = refl

-- numbers of dates: 1 January 2000 has 0, and the day after a date has the next one
pub first-day : day_number 2000 1 1 ≡ 0
unfolding day_number days_of_years days_of_months
first-day = refl

pub next-day : (y m d : ℕ) → 1 ≤ d → day_number y m (suc d) ≡ suc (day_number y m d)
unfolding day_number
next-day y m d h = omega arith

pub next-month : (y m : ℕ) → 1 ≤ m → 1 ≤ month_days y m → day_number y (suc m) 1 ≡ suc (day_number y m (month_days y m))
unfolding day_number days_of_months
next-month y (suc m) h g =
    let i : suc (suc m) - 1 ≡ suc m = omega arith in
    let j : suc m - 1 ≡ m = omega arith in
    let p : days_of_months y (suc (suc m) - 1) ≡ days_of_months y (suc m) = ap (days_of_months y) i in
    let q : days_of_months y (suc m - 1) ≡ days_of_months y m = ap (days_of_months y) j in
    omega arith
next-month y zero h g = absurd (omega arith)

year-months : (y : ℕ) → days_of_months y 11 + 31 ≡ year_days y
unfolding days_of_months month_days year_days
year-months y = go (leap y)
  where
    go : (b : Bool) → 0 + 31 + cond b 29 28 + 31 + 30 + 31 + 30 + 31 + 31 + 30 + 31 + 30 + 31 ≡ cond b 366 365
    go true = refl
    go false = refl

years-more : (k : ℕ) → days_of_years (suc k) ≡ days_of_years k + year_days (2000 + k)
unfolding days_of_years
years-more k = refl

no-months : (y : ℕ) → days_of_months y 0 ≡ 0
unfolding days_of_months
no-months y = refl

pub next-year : (y : ℕ) → 2000 ≤ y → day_number (suc y) 1 1 ≡ suc (day_number y 12 31)
unfolding day_number
next-year y h =
    let n : suc y - 2000 ≡ suc (y - 2000) = omega arith in
    let e : 2000 + (y - 2000) ≡ y = omega arith in
    let p : days_of_years (suc y - 2000) ≡ days_of_years (y - 2000) + year_days y =
    ap days_of_years n ∙ years-more (y - 2000) ∙ ap (λ (z : ℕ). days_of_years (y - 2000) + year_days z) e in
    omega (arith, year-months y, no-months (suc y))

-- so that weekdays follow one another
pub next-weekday : (y m d y' m' d' : ℕ) → day_number y' m' d' ≡ suc (day_number y m d) → weekday y' m' d' ≡ (weekday y m d + 1) % 7
unfolding weekday
next-weekday y m d y' m' d' e = omega arith
