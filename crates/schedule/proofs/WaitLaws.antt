-- The search for the wait, a window a day. Assumes nothing.
--   now-is, at_once       no minute later is the minute itself: where it is allowed, the wait is 0
--   Quiet plan w m n      none of the first n minutes is allowed
--   seen m k              how many minutes lie before day k
--   quiet-start           none is allowed before the search begins
--   quiet-day             nor before the next day, where a day's window is empty or has started
--   found, none_found     the wait by the first window that starts later, or by none
--   found_at, passed-at   the same by the test of a window
--   call-is               what the call returns, by its three tests
use Prim.Native.Nat.{ℕ, zero, suc, ◌+◌, ◌-◌, ◌*◌, ◌/◌, ◌%◌, ◌≤◌, ◌<◌, max}
use native.Mathlib.Omega.{arith}
use native.Mathlib.Decide.{dec_lt}
use mathlib.Core.Path.{◌≡◌, refl, sym, ap, ap₂, subst, ◌∙◌}
use mathlib.Core.Logic.{◌⊎◌, inl, inr}
use mathlib.Core.List.{List}
use mathlib.Core.Bool.{Bool, true, false, cond, not, ◌&&◌, false≢true}
use borrow.Author.Tests.{ltb-true, ltb-false, eqb-true, eqb-false, not-true}
use lib.Dec.{eqb, ltb}
use lib.ListN.{length}
use Rattle.schedule.specs.Calendar.{time_fits}
use Rattle.schedule.specs.Hours.{start_of, end_of, plan_fits, allowed, allowed_in, wait_from, wait_at, wait_call}
use Rattle.schedule.proofs.TestLaws.{both, falsely, never, first-is}
use Rattle.schedule.proofs.WindowLaws.{eve, Some, start-allowed, opens-day, opens-night, fits-at}

-- how many minutes from minute m on lie before day k, this one at least
abbrev pub seen : ℕ → ℕ → ℕ
seen m k = max 1 (1440 * k - m)

module _ (plan : List ℕ) (w m : ℕ) where
  -- the weekday and the minute of the day, k minutes later
  abbrev day_in : ℕ → ℕ
  day_in k = (w + (m + k) / 1440) % 7

  abbrev minute_in : ℕ → ℕ
  minute_in k = (m + k) % 1440

  pub now-is : w < 7 → m < 1440 → allowed_in plan w m 0 ≡ allowed plan w m
  unfolding allowed_in
  now-is hw hm =
      let p : day_in 0 ≡ w = omega arith in
      let q : minute_in 0 ≡ m = omega arith in
      ap₂ (allowed plan) p q

  pub at_once : w < 7 → m < 1440 → allowed plan w m ≡ true → wait_from plan w m ≡ 0
  unfolding wait_from
  at_once hw hm h = first-is (allowed_in plan w m) 10080 0 0 (omega arith) (omega arith) (λ j a b. absurd (omega arith)) (λ a. now-is hw hm ∙ h)

  -- at minute x of day k
  in_is : (k x j : ℕ) → x < 1440 → m + j ≡ 1440 * k + x → allowed_in plan w m j ≡ allowed plan ((w + k) % 7) x
  unfolding allowed_in
  in_is k x j h e =
      let p : day_in j ≡ (w + k) % 7 = ap (λ (z : ℕ). (w + z) % 7) (omega arith) in
      let q : minute_in j ≡ x = omega arith in
      ap₂ (allowed plan) p q

  -- a window starts k minutes later
  abbrev Starts : ℕ → Type 0
  Starts k = (start_of plan (day_in k) ≡ minute_in k) × Some plan (day_in k)

  opens : ((v : ℕ) → v < 7 → start_of plan v ≤ 1439) → (k : ℕ) → allowed_in plan w m k ≡ false → allowed_in plan w m (suc k) ≡ true → Starts (suc k)
  unfolding allowed_in
  opens fits k shut here = go (dec_lt (minute_in k) 1439)
    where
      go : Dec (minute_in k < 1439) → Starts (suc k)
      go (yes p) =
          let d : day_in (suc k) ≡ day_in k = ap (λ (z : ℕ). (w + z) % 7) (omega arith) in
          let n : minute_in (suc k) ≡ suc (minute_in k) = omega arith in
          let o = opens-day plan (day_in k) (minute_in k) shut (ap₂ (allowed plan) (sym d) (sym n) ∙ here) in
          (ap (start_of plan) d ∙ o.0 ∙ sym n, subst (Some plan) (sym d) o.1)
      go (no p) =
          let e : eve (day_in (suc k)) ≡ day_in k = omega arith in
          let n : minute_in (suc k) ≡ 0 = omega arith in
          let l : minute_in k ≡ 1439 = omega arith in
          let o =
          opens-night plan (day_in k) (day_in (suc k)) e (fits (day_in k) (omega arith)) (ap (allowed plan (day_in k)) (sym l) ∙ shut)
          (ap (allowed plan (day_in (suc k))) (sym n) ∙ here) in
          (o.0 ∙ sym n, o.1)

  abbrev pub Quiet : ℕ → Type 0
  Quiet n = (j : ℕ) → j < n → allowed_in plan w m j ≡ false

  -- none before n', where no window starts from n on
  quiet-more : ((v : ℕ) → v < 7 → start_of plan v ≤ 1439) → (n n' : ℕ) → 1 ≤ n → Quiet n → ((k : ℕ) → n ≤ k → k < n' → Starts k → ⊥) → Quiet n'
  quiet-more fits n n' l q s zero h = q 0 (omega arith)
  quiet-more fits n n' l q s (suc j) h = go (dec_lt (suc j) n) (quiet-more fits n n' l q s j (omega arith))
    where
      go : Dec (suc j < n) → allowed_in plan w m j ≡ false → allowed_in plan w m (suc j) ≡ false
      go (yes p) e = q (suc j) p
      go (no p) e = falsely (allowed_in plan w m (suc j)) (λ t. s (suc j) (omega arith) h (opens fits j e t))

  pub quiet-start : w < 7 → m < 1440 → allowed plan w m ≡ false → Quiet (seen m 0)
  quiet-start hw hm h zero l = now-is hw hm ∙ h
  quiet-start hw hm h (suc j) l = absurd (omega arith)

  -- when day k's window starts and ends, on its weekday
  abbrev starts : ℕ → ℕ
  starts k = start_of plan ((w + k) % 7)

  abbrev ends : ℕ → ℕ
  ends k = end_of plan ((w + k) % 7)

  module _ (fit : plan_fits plan ≡ true) (hw : w < 7) (hm : m < 1440) where
    pub quiet-day : (k : ℕ) → Quiet (seen m k) → (starts k ≡ ends k) ⊎ (1440 * k + starts k ≤ m) → Quiet (seen m (k + 1))
    quiet-day k q c = quiet-more (fits-at plan fit) (seen m k) (seen m (k + 1)) (omega arith) q stop
      where
        at : (j : ℕ) → m + j ≡ 1440 * k + minute_in j → 1 ≤ j → starts k ≡ minute_in j → Some plan ((w + k) % 7)
            → (starts k ≡ ends k) ⊎ (1440 * k + starts k ≤ m) → ⊥
        at j e l s n (inl p) = n p
        at j e l s n (inr p) = omega arith

        stop : (j : ℕ) → seen m k ≤ j → j < seen m (k + 1) → Starts j → ⊥
        stop j l h s =
            let d : (m + j) / 1440 ≡ k = omega arith in
            let v : day_in j ≡ (w + k) % 7 = ap (λ (z : ℕ). (w + z) % 7) d in
            at j (omega arith) (omega arith) (ap (start_of plan) (sym v) ∙ s.0) (subst (Some plan) v s.1) c

    module _ (k : ℕ) (hk : k < 8) (q : Quiet (seen m k)) (n : Some plan ((w + k) % 7)) (l : m < 1440 * k + starts k) where
      low : starts k ≤ 1439
      low = fits-at plan fit ((w + k) % 7) (omega arith)

      here : allowed_in plan w m (1440 * k + starts k - m) ≡ true
      here = in_is k (starts k) (1440 * k + starts k - m) (omega (arith, low)) (omega arith) ∙ start-allowed plan ((w + k) % 7) n

      quiet : Quiet (1440 * k + starts k - m)
      quiet = quiet-more (fits-at plan fit) (seen m k) (1440 * k + starts k - m) (omega arith) q stop
        where
          stop : (j : ℕ) → seen m k ≤ j → j < 1440 * k + starts k - m → Starts j → ⊥
          stop j a b t =
              let d : (m + j) / 1440 ≡ k = omega (arith, low) in
              let v : day_in j ≡ (w + k) % 7 = ap (λ (z : ℕ). (w + z) % 7) d in
              let e : starts k ≡ minute_in j = ap (start_of plan) (sym v) ∙ t.0 in
              omega arith

      -- a week later the window of this weekday comes again; where it started later, it was found on this day
      small : 1440 * k + starts k - m < 10080
      small = go (dec_lt k 7) (dec_lt (starts k) m)
        where
          go : Dec (k < 7) → Dec (starts k < m) → 1440 * k + starts k - m < 10080
          go (yes p) z = omega (arith, low)
          go (no p) (yes z) = omega arith
          go (no p) (no z) =
              let o : (w + 0) % 7 ≡ (w + k) % 7 = omega arith in
              let e : allowed_in plan w m (starts k - m) ≡ true =
              in_is 0 (starts k) (starts k - m) (omega (arith, low)) (omega arith)
              ∙ ap (λ (x : ℕ). allowed plan x (starts k)) o
              ∙ start-allowed plan ((w + k) % 7) n in
              absurd (never e (q (starts k - m) (omega (arith, low))))

      pub found : (wait_from plan w m ≡ 1440 * k + starts k - m) × (1440 * k + starts k - m ≤ 10080)
      unfolding wait_from
      found = (
        first-is (allowed_in plan w m) 10080 0 (1440 * k + starts k - m) (omega arith) (omega (arith, small)) (λ j a b. quiet j b) (λ a. here),
        omega (arith, small),
      )

    pub none_found : Quiet (seen m 8) → wait_from plan w m ≡ 10080
    unfolding wait_from
    none_found q = first-is (allowed_in plan w m) 10080 0 10080 (omega arith) (omega arith) (λ j a b. q j (omega arith)) (λ a. absurd (omega arith))

    -- by the test of a window from s to e
    pub found_at : (k s e : ℕ) → k < 8 → Quiet (seen m k) → s ≡ starts k → e ≡ ends k → not (eqb s e) && ltb m (1440 * k + s) ≡ true
        → (1440 * k + s - m ≡ wait_from plan w m) × (1440 * k + s - m ≤ 10080)
    found_at k s e hk q p p' h =
        let t = both (not (eqb s e)) (ltb m (1440 * k + s)) h in
        let n : Some plan ((w + k) % 7) = λ z. eqb-false s e (not-true (eqb s e) t.0) (p ∙ z ∙ sym p') in
        let r = found k hk q n (omega (arith, ltb-true m (1440 * k + s) t.1)) in
        (omega (arith, r.0), omega (arith, r.1))

    pub passed-at : (k s e : ℕ) → Quiet (seen m k) → s ≡ starts k → e ≡ ends k → not (eqb s e) && ltb m (1440 * k + s) ≡ false → Quiet (seen m (k + 1))
    passed-at k s e q p p' h = quiet-day k q (go (eqb s e) (ltb m (1440 * k + s)) refl refl h)
      where
        go : (a b : Bool) → eqb s e ≡ a → ltb m (1440 * k + s) ≡ b → not a && b ≡ false → (starts k ≡ ends k) ⊎ (1440 * k + starts k ≤ m)
        go true b x y z = inl (sym p ∙ eqb-true s e x ∙ p')
        go false true x y z = absurd (false≢true (sym z))
        go false false x y z = inr (omega (arith, ltb-false m (1440 * k + s) y))

-- a test with another in front of it
pub later : (m at : ℕ) (a : Bool) → a && ltb m at ≡ true → m < at
later m at a h = ltb-true m at (both a (ltb m at) h).1

pub call-is : (plan : List ℕ) (y mo d m : ℕ) {b₁ b₂ b₃ : Bool} → time_fits y mo d m ≡ b₁ → eqb (length plan) 28 ≡ b₂ → plan_fits plan ≡ b₃
    → cond b₁ (cond b₂ (cond b₃ (256 * wait_at plan y mo d m) 3) 1) 16 ≡ wait_call plan y mo d m
unfolding wait_call
call-is plan y mo d m p q r = rw (p, q, r)
