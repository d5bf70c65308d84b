-- Windows of a plan. Assumes nothing.
--   eve v                     the weekday before v
--   Some plan v               weekday v's window is not empty
--   start-allowed             its start is then allowed
--   opens-day, opens-night    an allowed minute behind one that is not is the start of a window: within a day, and at midnight
--   fits-at                   the starts of a plan that fits
use Prim.Native.Nat.{ℕ, suc, ◌+◌, ◌%◌, ◌≤◌, ◌<◌}
use native.Mathlib.Omega.{arith}
use native.Mathlib.Decide.{dec_lt, dec_le}
use mathlib.Core.Path.{◌≡◌, subst}
use mathlib.Core.Logic.{◌≢◌, ◌⊎◌, inl, inr}
use mathlib.Core.List.{List}
use mathlib.Core.Bool.{true, false, ◌||◌}
use borrow.Author.Tests.{leb-true, le-leb, ltb-true, lt-ltb}
use lib.Dec.{leb, ltb}
use Rattle.schedule.specs.Hours.{start_of, end_of, day_fits, plan_fits, own, over, allowed}
use Rattle.schedule.proofs.TestLaws.{both, either, or_right, never, all-at}

-- minute m is in the window from s to e of its own day
abbrev Own : ℕ → ℕ → ℕ → Type 0
Own s e m = (s ≤ m) × ((m < e) ⊎ (e < s))

own-true : (s e m : ℕ) → own s e m ≡ true → Own s e m
unfolding own
own-true s e m h =
    let p = both (leb s m) (ltb m e || ltb e s) h in
    (leb-true s m p.0, go (either (ltb m e) (ltb e s) p.1))
  where
    go : (ltb m e ≡ true) ⊎ (ltb e s ≡ true) → (m < e) ⊎ (e < s)
    go (inl q) = inl (ltb-true m e q)
    go (inr q) = inr (ltb-true e s q)

own_is : (s e m : ℕ) → s ≤ m → (m < e) ⊎ (e < s) → own s e m ≡ true
unfolding own
own_is s e m h (inl p) = rw (le-leb s m h, lt-ltb m e p)
own_is s e m h (inr p) = rw (le-leb s m h) (or_right (ltb m e) (ltb e s) (lt-ltb e s p))

-- .. or of the day before
abbrev Over : ℕ → ℕ → ℕ → Type 0
Over s e m = (e < s) × (m < e)

over-true : (s e m : ℕ) → over s e m ≡ true → Over s e m
unfolding over
over-true s e m h =
    let p = both (ltb e s) (ltb m e) h in
    (ltb-true e s p.0, ltb-true m e p.1)

over-is : (s e m : ℕ) → e < s → m < e → over s e m ≡ true
unfolding over
over-is s e m h g = rw (lt-ltb e s h, lt-ltb m e g)

abbrev pub eve : ℕ → ℕ
eve v = (v + 6) % 7

module _ (plan : List ℕ) where
  allowed-own : (v m : ℕ) → start_of plan v ≤ m → (m < end_of plan v) ⊎ (end_of plan v < start_of plan v) → allowed plan v m ≡ true
  unfolding allowed
  allowed-own v m h g = rw (own_is (start_of plan v) (end_of plan v) m h g)

  allowed-over : (v m : ℕ) → end_of plan (eve v) < start_of plan (eve v) → m < end_of plan (eve v) → allowed plan v m ≡ true
  unfolding allowed
  allowed-over v m h g =
      or_right (own (start_of plan v) (end_of plan v) m) (over (start_of plan (eve v)) (end_of plan (eve v)) m)
      (over-is (start_of plan (eve v)) (end_of plan (eve v)) m h g)

  -- by which window a minute is allowed
  abbrev Way : ℕ → ℕ → Type 0
  Way v m = Own (start_of plan v) (end_of plan v) m ⊎ Over (start_of plan (eve v)) (end_of plan (eve v)) m

  way : (v m : ℕ) → allowed plan v m ≡ true → Way v m
  unfolding allowed
  way v m h = go (either _ _ h)
    where
      go : (own (start_of plan v) (end_of plan v) m ≡ true) ⊎ (over (start_of plan (eve v)) (end_of plan (eve v)) m ≡ true) → Way v m
      go (inl p) = inl (own-true (start_of plan v) (end_of plan v) m p)
      go (inr p) = inr (over-true (start_of plan (eve v)) (end_of plan (eve v)) m p)

  abbrev pub Some : ℕ → Type 0
  Some v = start_of plan v ≢ end_of plan v

  pub start-allowed : (v : ℕ) → Some v → allowed plan v (start_of plan v) ≡ true
  start-allowed v n = go (dec_lt (start_of plan v) (end_of plan v))
    where
      go : Dec (start_of plan v < end_of plan v) → allowed plan v (start_of plan v) ≡ true
      go (yes p) = allowed-own v (start_of plan v) (omega arith) (inl p)
      go (no p) = allowed-own v (start_of plan v) (omega arith) (inr (omega (arith, n)))

  -- a window with a minute in it is not empty
  some : (v m : ℕ) → (m < end_of plan v) ⊎ (end_of plan v < start_of plan v) → start_of plan v ≡ m → Some v
  some v m (inl p) e q = omega arith
  some v m (inr p) e q = omega arith

  pub opens-day : (v m : ℕ) → allowed plan v m ≡ false → allowed plan v (suc m) ≡ true → (start_of plan v ≡ suc m) × Some v
  opens-day v m shut here = go (way v (suc m) here)
    where
      before : (suc m < end_of plan v) ⊎ (end_of plan v < start_of plan v) → (m < end_of plan v) ⊎ (end_of plan v < start_of plan v)
      before (inl p) = inl (omega arith)
      before (inr p) = inr p

      at : Own (start_of plan v) (end_of plan v) (suc m) → Dec (start_of plan v ≤ m) → (start_of plan v ≡ suc m) × Some v
      at g (yes p) = absurd (never (allowed-own v m p (before g.1)) shut)
      at g (no p) =
          let z : start_of plan v ≡ suc m = omega (arith, g.0) in
          (z, some v (suc m) g.1 z)

      go : Way v (suc m) → (start_of plan v ≡ suc m) × Some v
      go (inl p) = at p (dec_le (start_of plan v) m)
      go (inr p) = absurd (never (allowed-over v m p.0 (omega (arith, p.1))) shut)

  pub opens-night : (u v : ℕ) → eve v ≡ u → start_of plan u ≤ 1439 → allowed plan u 1439 ≡ false → allowed plan v 0 ≡ true → (start_of plan v ≡ 0) × Some v
  opens-night u v e l shut here = go (way v 0 here)
    where
      go : Way v 0 → (start_of plan v ≡ 0) × Some v
      go (inl p) =
          let z : start_of plan v ≡ 0 = omega (arith, p.0) in
          (z, some v 0 p.1 z)
      go (inr p) =
          let q : end_of plan u < start_of plan u = subst (λ (x : ℕ). end_of plan x < start_of plan x) e p.0 in
          absurd (never (allowed-own u 1439 l (inr q)) shut)

  pub fits-at : plan_fits plan ≡ true → (v : ℕ) → v < 7 → start_of plan v ≤ 1439
  unfolding plan_fits
  fits-at h v l =
      leb-true (start_of plan v) 1439 (both (leb (start_of plan v) 1439) (leb (end_of plan v) 1439) (all-at 7 (day_fits plan) h v l)).0
