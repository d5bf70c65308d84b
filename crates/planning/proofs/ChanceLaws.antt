-- The chance of escape. Assumes nothing.
--   ceil-up                        a quotient rounded up, as std has it
--   up_above, up-below, up-most    a quotient rounded up: at least the exact one, less than one above it, at most any number that is no less
--   falling-pos, falling-none      the denominator of the exact chance is not 0, and the numerator is 0 once a factor is
--   figure-most, product-most      a figure is at most 2^32, and the product that is divided next fits a machine's number
--   figure-none                    the figure is 0 once a factor is: the case that r exceeds d - m
--   escape-is                      so that the chance is the figure after all the factors in either case
--   escape-none, escape-some, figure-more   the chance by the test of r, and one factor more, as the code has them
--   figure-above, figure-next, figure-below   the figure after k factors: at least the exact value, and each factor adds less than one unit
--   escape-above, escape-below     the chance is never under the exact value and less than r units above it
use Prim.Native.Nat.{ℕ, zero, suc, ◌+◌, ◌*◌, ◌-◌, ◌/◌, ◌%◌, ◌^◌, ◌≤◌, ◌<◌}
use native.Mathlib.Omega.{arith}
use native.Mathlib.Numerals.{add-one}
use native.Mathlib.Nat.{div-add-mod', mod-lt, div-lt_iff_lt-mul, mul-le-mul, mul-le-mul_left, mul-le-mul_right, mul-lt-mul_of_pos_right, mul-pos}
use native.Mathlib.Nat.{add-mul, suc-mul, mul_assoc, mul_comm, mul_right_comm, mul-zero, zero-mul}
use mathlib.Core.Path.{◌≡◌, refl, sym, ap, ◌∙◌}
use mathlib.Core.Bool.{Bool, true, false, cond}
use native.Mathlib.Decide.{dec_lt}
use borrow.Author.Tests.{leb-false, le-leb, lt-leb}
use lib.Dec.{leb}
use Rattle.std.specs.Int.{div_ceil}
use Rattle.std.proofs.lemmas.Nat.{div-mul-add}
use Rattle.planning.specs.Sheet.{up, figure, escape}
use Rattle.planning.specs.Exact.{falling}

-- x is x / b times b and the rest: no more than b - 1 are added to a rest of 0, and b or more to another
pub ceil-up : (x b : ℕ) → 1 ≤ b → div_ceil x b ≡ up x b
unfolding up
ceil-up x b h = go (dec_lt 0 (x % b))
  where
    go : Dec (0 < x % b) → div_ceil x b ≡ (x + (b - 1)) / b
    go (yes p) =
        let e : x + (b - 1) ≡ suc (x / b) * b + (x % b - 1) = omega (arith, suc-mul (x / b) b, div-add-mod' x b) in
        let l : x % b - 1 < b = omega (arith, mod-lt x h) in
        let m : div_ceil x b ≡ suc (x / b) = omega arith in
        m ∙ sym (div-mul-add (suc (x / b)) b (x % b - 1) l) ∙ ap (λ (y : ℕ). y / b) (sym e)
    go (no p) =
        let e : x + (b - 1) ≡ x / b * b + (b - 1) = omega (arith, div-add-mod' x b) in
        let l : b - 1 < b = omega arith in
        let m : div_ceil x b ≡ x / b = omega arith in
        m ∙ sym (div-mul-add (x / b) b (b - 1) l) ∙ ap (λ (y : ℕ). y / b) (sym e)

module _ (x b : ℕ) (h : 1 ≤ b) where
  pub up_above : x ≤ up x b * b
  unfolding up
  up_above = omega (arith, div-add-mod' (x + (b - 1)) b, mod-lt (x + (b - 1)) h)

  pub up-below : up x b * b < x + b
  unfolding up
  up-below = omega (arith, div-add-mod' (x + (b - 1)) b)

  pub up-most : (y : ℕ) → x ≤ y * b → up x b ≤ y
  unfolding up
  up-most y l = omega (arith, (div-lt_iff_lt-mul {k = b} {x = x + (b - 1)} {y = suc y} h).1 (omega (arith, suc-mul y b)))

pub falling-pos : (d k : ℕ) → k ≤ d → 0 < falling d k
unfolding falling
falling-pos d zero h = omega arith
falling-pos d (suc k) h = mul-pos (falling-pos d k (omega arith)) (omega arith)

pub falling-none : (s k : ℕ) → s < k → falling s k ≡ 0
unfolding falling
falling-none s zero h = absurd (omega arith)
falling-none s (suc k) h = go (dec_lt s k) (falling-none s k)
  where
    go : Dec (s < k) → (s < k → falling s k ≡ 0) → falling s k * (s - k) ≡ 0
    go (yes p) ih = ap (λ (x : ℕ). x * (s - k)) (ih p) ∙ zero-mul (s - k)
    go (no p) ih =
        let z : s - k ≡ 0 = omega arith in
        ap (λ (x : ℕ). falling s k * x) z ∙ mul-zero (falling s k)

pub figure-most : (d m k : ℕ) → k ≤ d → figure d m k ≤ 4294967296
unfolding figure
figure-most d m zero h = omega arith
figure-most d m (suc k) h =
    up-most (figure d m k * (d - m - k)) (d - k) (omega arith) 4294967296 (mul-le-mul (figure-most d m k (omega arith)) (omega arith))

-- the product that a turn divides
pub product-most : (d m k x : ℕ) → d ≤ 1048576 → k ≤ d → x ≡ figure d m k → x * (d - m - k) ≤ 4503599627370496
product-most d m k x h l e = mul-le-mul {n₂ = 4294967296} {m₂ = 1048576} (omega (arith, figure-most d m k l)) (omega arith)

pub figure-none : (d m k : ℕ) → k ≤ d → d - m < k → figure d m k ≡ 0
unfolding figure
figure-none d m zero h l = absurd (omega arith)
figure-none d m (suc k) h l = go (dec_lt (d - m) k) (figure-none d m k (omega arith))
  where
    nought : figure d m k * (d - m - k) ≡ 0 → up (figure d m k * (d - m - k)) (d - k) ≡ 0
    nought e = omega (arith, up-most (figure d m k * (d - m - k)) (d - k) (omega arith) 0 (omega (arith, zero-mul (d - k))))

    go : Dec (d - m < k) → (d - m < k → figure d m k ≡ 0) → up (figure d m k * (d - m - k)) (d - k) ≡ 0
    go (yes p) ih = nought (ap (λ (x : ℕ). x * (d - m - k)) (ih p) ∙ zero-mul (d - m - k))
    go (no p) ih =
        let z : d - m - k ≡ 0 = omega arith in
        nought (ap (λ (x : ℕ). figure d m k * x) z ∙ mul-zero (figure d m k))

pub escape-is : (d r m : ℕ) → r ≤ d → escape d r m ≡ figure d m r
unfolding escape
escape-is d r m h = go (leb r (d - m)) refl
  where
    go : (b : Bool) → leb r (d - m) ≡ b → cond b (figure d m r) 0 ≡ figure d m r
    go true e = refl
    go false e = sym (figure-none d m r h (leb-false r (d - m) e))

-- by the test of r, and one factor more as the code has it
pub escape-none : (d r m : ℕ) → d - m < r → 0 ≡ escape d r m
unfolding escape
escape-none d r m h = rw (lt-leb r (d - m) h)

pub escape-some : (d r m : ℕ) → r ≤ d - m → figure d m r ≡ escape d r m
unfolding escape
escape-some d r m h = rw (le-leb r (d - m) h)

pub figure-more : (d m k : ℕ) (x y : ℕ) → k < d → x ≡ figure d m k → y ≡ div_ceil (x * (d - m - k)) (d - k) → y ≡ figure d m (k + 1)
unfolding figure
figure-more d m k x y h p q = q ∙ ceil-up (x * (d - m - k)) (d - k) (omega arith) ∙ rw (p, add-one)

-- after k factors: at least the exact value
figure-above : (d m k : ℕ) → k ≤ d → falling (d - m) k * 2 ^ 32 ≤ figure d m k * falling d k
unfolding figure falling
figure-above d m zero h = omega arith
figure-above d m (suc k) h =
    let ih = figure-above d m k (omega arith) in
    let a = d - m - k in
    let b = d - k in
    let x = figure d m k in
    let f = falling d k in
    let n = falling (d - m) k in
    -- n a 2^32 ≤ x f a ≤ up (x a) b b f
    let p : n * a * 2 ^ 32 ≡ n * 2 ^ 32 * a = mul_right_comm n a (2 ^ 32) in
    let q : n * 2 ^ 32 * a ≤ x * f * a = mul-le-mul_right a ih in
    let e : x * f * a ≡ x * a * f = mul_right_comm x f a in
    let u : x * a * f ≤ up (x * a) b * b * f = mul-le-mul_right f (up_above (x * a) b (omega arith)) in
    let v : up (x * a) b * (f * b) ≡ up (x * a) b * b * f = ap (λ (y : ℕ). up (x * a) b * y) (mul_comm f b) ∙ sym (mul_assoc (up (x * a) b) b f) in
    omega arith

-- one factor more adds less than one unit
figure-next : (d m k : ℕ) → suc k ≤ d → figure d m k * falling d k ≤ falling (d - m) k * 2 ^ 32 + k * falling d k
    → figure d m (suc k) * falling d (suc k) < falling (d - m) (suc k) * 2 ^ 32 + suc k * falling d (suc k)
unfolding figure falling
figure-next d m k h ih =
    let a = d - m - k in
    let b = d - k in
    let x = figure d m k in
    let f = falling d k in
    let n = falling (d - m) k in
    -- up (x a) b b f < (x a + b) f, and x f a ≤ n 2^32 a + k f a, and k f a ≤ k f b
    let v : up (x * a) b * (f * b) ≡ up (x * a) b * b * f = ap (λ (y : ℕ). up (x * a) b * y) (mul_comm f b) ∙ sym (mul_assoc (up (x * a) b) b f) in
    let u : up (x * a) b * b * f < (x * a + b) * f = mul-lt-mul_of_pos_right (up-below (x * a) b (omega arith)) (falling-pos d k (omega arith)) in
    let w : (x * a + b) * f ≡ x * a * f + b * f = add-mul (x * a) b f in
    let e : x * a * f ≡ x * f * a = mul_right_comm x a f in
    let i : x * f * a ≤ (n * 2 ^ 32 + k * f) * a = mul-le-mul_right a ih in
    let j : (n * 2 ^ 32 + k * f) * a ≡ n * 2 ^ 32 * a + k * f * a = add-mul (n * 2 ^ 32) (k * f) a in
    let o : k * f * a ≤ k * f * b = mul-le-mul_left (k * f) (omega arith) in
    let g : k * f * b ≡ k * (f * b) = mul_assoc k f b in
    let p : n * a * 2 ^ 32 ≡ n * 2 ^ 32 * a = mul_right_comm n a (2 ^ 32) in
    let t : suc k * (f * b) ≡ k * (f * b) + f * b = suc-mul k (f * b) in
    let c : b * f ≡ f * b = mul_comm b f in
    omega arith

figure-below : (d m k : ℕ) → k ≤ d → figure d m k * falling d k ≤ falling (d - m) k * 2 ^ 32 + k * falling d k
unfolding figure falling
figure-below d m zero h = omega arith
figure-below d m (suc k) h = omega (arith, figure-next d m k h (figure-below d m k (omega arith)))

-- "the figure is never under the exact value and less than r units above it": both times the exact chance's denominator, falling d r
pub escape-above : (d r m : ℕ) → r ≤ d → falling (d - m) r * 2 ^ 32 ≤ escape d r m * falling d r
escape-above d r m h = rw (escape-is d r m h) (figure-above d m r h)

pub escape-below : (d r m : ℕ) → 1 ≤ r → r ≤ d → escape d r m * falling d r < falling (d - m) r * 2 ^ 32 + r * falling d r
escape-below d zero m l h = absurd (omega arith)
escape-below d (suc k) m l h = rw (escape-is d (suc k) m h) (figure-next d m k h (figure-below d m k (omega arith)))
