-- Sums by place. Assumes nothing.
--   sum_same, sum-most                equal terms; terms that are at most b
--   sum-split                         the first m terms and the n behind them
--   sum-before, sum_more, sum-set     terms of a list's elements, where one is set: behind them, as the last, and among them
use Prim.Native.Nat.{ℕ, zero, suc, ◌+◌, ◌*◌, ◌≤◌, ◌<◌}
use native.Mathlib.Omega.{arith}
use native.Mathlib.Nat.{eq-or-lt_of_le, suc-mul}
use native.Mathlib.Numerals.{add-one}
use mathlib.Core.Path.{◌≡◌, refl, sym, ap, ap₂, ◌∙◌}
use mathlib.Core.Logic.{◌⊎◌, inl, inr}
use mathlib.Core.List.{List}
use lib.ListN.{length, get_or, set}
use lib.Seq.{get_or-set_same, get_or-set_other}
use Rattle.cycle_walks.specs.Each.{sum_below}

pub sum_same : (f g : ℕ → ℕ) (n : ℕ) → ((i : ℕ) → i < n → f i ≡ g i) → sum_below n f ≡ sum_below n g
unfolding sum_below
sum_same f g zero h = refl
sum_same f g (suc n) h = ap₂ ◌+◌ (sum_same f g n (λ i l. h i (omega arith))) (h n (omega arith))

pub sum-most : (f : ℕ → ℕ) (b n : ℕ) → ((i : ℕ) → i < n → f i ≤ b) → sum_below n f ≤ n * b
unfolding sum_below
sum-most f b zero h = omega arith
sum-most f b (suc n) h =
    omega (arith, suc-mul n b, sum-most f b n (λ i l. h i (omega arith)), h n (omega arith))

pub sum-split : (f : ℕ → ℕ) (m n : ℕ) → sum_below (m + n) f ≡ sum_below m f + sum_below n (λ i. f (m + i))
unfolding sum_below
sum-split f m zero = let z : m + 0 ≡ m = omega arith in rw z (omega arith)
sum-split f m (suc n) = let z : m + suc n ≡ suc (m + n) = omega arith in rw z (omega (arith, sum-split f m n))

pub sum-before : (f : ℕ → ℕ) (l : List ℕ) (i v : ℕ) → sum_below i (λ j. f (get_or (set l i v) j 0)) ≡ sum_below i (λ j. f (get_or l j 0))
sum-before f l i v =
    sum_same (λ j. f (get_or (set l i v) j 0)) (λ j. f (get_or l j 0)) i (λ j b. ap f (get_or-set_other l i j v 0 (λ q. omega arith)))

pub sum_more : (f : ℕ → ℕ) (l : List ℕ) (i v : ℕ) → i < length l
    → sum_below (i + 1) (λ j. f (get_or (set l i v) j 0)) ≡ sum_below i (λ j. f (get_or l j 0)) + f v
unfolding sum_below
sum_more f l i v w =
    ap (λ (m : ℕ). sum_below m (λ j. f (get_or (set l i v) j 0))) (add-one i)
    ∙ ap₂ ◌+◌ (sum-before f l i v) (ap f (get_or-set_same l i v 0 w))

pub sum-set : (f : ℕ → ℕ) (l : List ℕ) (i v n : ℕ) → i < n → i < length l
    → sum_below n (λ j. f (get_or (set l i v) j 0)) + f (get_or l i 0) ≡ sum_below n (λ j. f (get_or l j 0)) + f v
unfolding sum_below
sum-set f l i v zero h w = absurd (omega arith)
sum-set f l i v (suc n) h w = go (eq-or-lt_of_le (omega arith)) (λ b. sum-set f l i v n b w)
  where
    go : (i ≡ n) ⊎ (i < n) → (i < n → sum_below n (λ j. f (get_or (set l i v) j 0)) + f (get_or l i 0) ≡ sum_below n (λ j. f (get_or l j 0)) + f v)
        → sum_below n (λ j. f (get_or (set l i v) j 0)) + f (get_or (set l i v) n 0) + f (get_or l i 0) ≡ sum_below n (λ j. f (get_or l j 0)) + f (get_or l n 0) + f v
    go (inl e) before =
        let same : sum_below n (λ j. f (get_or (set l i v) j 0)) ≡ sum_below n (λ j. f (get_or l j 0))
        = sum_same (λ j. f (get_or (set l i v) j 0)) (λ j. f (get_or l j 0)) n (λ j b. ap f (get_or-set_other l i j v 0 (λ q. omega arith))) in
        let here : f (get_or (set l i v) n 0) ≡ f v = ap (λ (j : ℕ). f (get_or (set l i v) j 0)) (sym e) ∙ ap f (get_or-set_same l i v 0 w) in
        let there : f (get_or l i 0) ≡ f (get_or l n 0) = ap (λ (j : ℕ). f (get_or l j 0)) e in
        omega arith
    go (inr b) before =
        let last : f (get_or (set l i v) n 0) ≡ f (get_or l n 0) = ap f (get_or-set_other l i n v 0 (λ q. omega arith)) in
        omega (arith, before b)
