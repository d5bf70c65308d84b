-- The k numbers from a on: they are k (`length-up_from`), different (`distinct-up_from`) and in a range (`between-up_from`); a sum over them, of numbers one
-- less, is that over the k numbers before (`total-down`).
use mathlib.Core.Path.{◌≡◌, refl, ap, ap₂}
use Prim.Native.Nat.{ℕ, zero, suc, ◌+◌, ◌-◌, ◌≤◌, ◌<◌}
use native.Mathlib.Omega.{arith}
use lib.ListN.{length}
use Rattle.permutation.specs.Distinct.{Fresh, Distinct, Between, total, up_from}

pub length-up_from : (a k : ℕ) → length (up_from a k) ≡ k
length-up_from a zero = refl
length-up_from a (suc k) = ap suc (length-up_from (suc a) k)

fresh-up_from : (x a k : ℕ) → x < a → Fresh x (up_from a k)
fresh-up_from x a zero h = tt
fresh-up_from x a (suc k) h = ((λ e. omega arith), fresh-up_from x (suc a) k (omega arith))

pub distinct-up_from : (a k : ℕ) → Distinct (up_from a k)
distinct-up_from a zero = tt
distinct-up_from a (suc k) = (fresh-up_from a (suc a) k (omega arith), distinct-up_from (suc a) k)

pub between-up_from : (lo hi a k : ℕ) → lo ≤ a → a + k ≤ hi → Between lo hi (up_from a k)
between-up_from lo hi a zero h g = tt
between-up_from lo hi a (suc k) h g = (h, omega arith, between-up_from lo hi (suc a) k (omega arith) (omega arith))

pub total-down : (f : ℕ → ℕ) (a k : ℕ) → total (λ j. f (j - 1)) (up_from (suc a) k) ≡ total f (up_from a k)
total-down f a zero = refl
total-down f a (suc k) =
    let e : suc a - 1 ≡ a = omega arith in
    ap₂ (λ (x y : ℕ). x + y) (ap f e) (total-down f (suc a) k)
