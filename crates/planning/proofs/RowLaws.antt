-- The blocks of different rows, summed. Assumes nothing.
--   extra s ρ, columns-is, total-columns             a row has n div d blocks, and one more where it is among the first n mod d
--   one_more, more                                   with k more first rows, at most k of different rows are among the first that were not
--   extra-most, extra-least                          so that of r different rows the lesser of r and s at most are among the first s, and r - (d - s) at least
--   extra-up_from                                     how many of the k numbers from a on are among the first rows
--   total-map, distinct-map, between-map             the numbers of a list, each gone to another: their sum; different ones stay so; their range
use Prim.Native.Nat.{ℕ, zero, suc, ◌+◌, ◌*◌, ◌-◌, ◌/◌, ◌%◌, ◌≤◌, ◌<◌, min}
use native.Mathlib.Omega.{arith}
use native.Mathlib.Decide.{dec_lt, ℕ_discrete}
use native.Mathlib.Nat.{div-add-mod', mod-lt, div-eq_of_lt-le, add-mul, suc-mul, zero-mul}
use mathlib.Core.Path.{◌≡◌, refl, sym, ap, ap₂, subst, ◌∙◌}
use mathlib.Core.List.{List, [], ◌∷◌, map}
use mathlib.Core.Logic.{◌≢◌}
use mathlib.Core.Bool.{cond}
use borrow.Author.Tests.{le-leb, lt-leb}
use lib.Dec.{leb}
use lib.ListN.{length}
use Rattle.permutation.specs.Distinct.{Fresh, Distinct, Between, total, up_from}
use Rattle.scheme.specs.Tokens.{columns_of}

-- one block more in the first s rows
unfoldable pub extra : ℕ → ℕ → ℕ
extra s ρ = cond (leb ρ s) 1 0

module _ (s ρ : ℕ) where
  extra-in : ρ ≤ s → extra s ρ ≡ 1
  unfolding extra
  extra-in h = rw (le-leb ρ s h)

  extra-out : s < ρ → extra s ρ ≡ 0
  unfolding extra
  extra-out h = rw (lt-leb ρ s h)

-- one more first row is row s + 1
extra-same : (s ρ : ℕ) → ρ ≢ suc s → extra (suc s) ρ ≡ extra s ρ
extra-same s ρ n = go (dec_lt s ρ)
  where
    go : Dec (s < ρ) → extra (suc s) ρ ≡ extra s ρ
    go (yes p) = extra-out (suc s) ρ (omega arith) ∙ sym (extra-out s ρ p)
    go (no p) = extra-in (suc s) ρ (omega arith) ∙ sym (extra-in s ρ (omega arith))

total-same : (s : ℕ) (l : List ℕ) → Fresh (suc s) l → total (extra (suc s)) l ≡ total (extra s) l
total-same s [] f = refl
total-same s (ρ ∷ l) f = ap₂ (λ (x y : ℕ). x + y) (extra-same s ρ (λ e. f.0 (sym e))) (total-same s l f.1)

one_more : (s : ℕ) (l : List ℕ) → Distinct l → (total (extra s) l ≤ total (extra (suc s)) l) × (total (extra (suc s)) l ≤ suc (total (extra s) l))
one_more s [] u = (omega arith, omega arith)
one_more s (ρ ∷ l) u = go (ℕ_discrete ρ (suc s)) (one_more s l u.1)
  where
    go : Dec (ρ ≡ suc s) → (total (extra s) l ≤ total (extra (suc s)) l) × (total (extra (suc s)) l ≤ suc (total (extra s) l))
        → (extra s ρ + total (extra s) l ≤ extra (suc s) ρ + total (extra (suc s)) l)
        × (extra (suc s) ρ + total (extra (suc s)) l ≤ suc (extra s ρ + total (extra s) l))
    go (yes e) ih =
        let i = extra-in (suc s) ρ (omega arith) in
        let o = extra-out s ρ (omega arith) in
        let t = total-same s l (subst (λ (x : ℕ). Fresh x l) e u.0) in
        (omega arith, omega arith)
    go (no n) ih =
        let e = extra-same s ρ n in
        (omega (arith, ih.0), omega (arith, ih.1))

more : (s k e : ℕ) (l : List ℕ) → Distinct l → e ≡ k + s → (total (extra s) l ≤ total (extra e) l) × (total (extra e) l ≤ k + total (extra s) l)
more s zero e l u p =
    let t : total (extra e) l ≡ total (extra s) l = ap (λ (x : ℕ). total (extra x) l) (omega arith) in
    (omega arith, omega arith)
more s (suc k) e l u p =
    let ih = more s k (k + s) l u refl in
    let one = one_more (k + s) l u in
    let t : total (extra e) l ≡ total (extra (suc (k + s))) l = ap (λ (x : ℕ). total (extra x) l) (omega arith) in
    (omega (arith, ih.0, one.0), omega (arith, ih.1, one.1))

none-extra : (d : ℕ) (l : List ℕ) → Between 1 (suc d) l → total (extra 0) l ≡ 0
none-extra d [] b = refl
none-extra d (ρ ∷ l) b = omega (arith, extra-out 0 ρ b.0, none-extra d l b.2)

all-extra : (d : ℕ) (l : List ℕ) → Between 1 (suc d) l → total (extra d) l ≡ length l
all-extra d [] b = refl
all-extra d (ρ ∷ l) b = omega (arith, extra-in d ρ (omega (arith, b.1)), all-extra d l b.2)

module _ (d s : ℕ) (h : s ≤ d) (l : List ℕ) (u : Distinct l) (b : Between 1 (suc d) l) where
  -- from none of the rows to the first s, and from these to all d
  pub extra-most : total (extra s) l ≤ min (length l) s
  extra-most = omega (arith, (more 0 s s l u (omega arith)).1, none-extra d l b, (more s (d - s) d l u (omega arith)).0, all-extra d l b)

  pub extra-least : length l - (d - s) ≤ total (extra s) l
  extra-least = omega (arith, (more s (d - s) d l u (omega arith)).1, all-extra d l b)

module _ (d n : ℕ) where
  columns-is : (ρ : ℕ) → 1 ≤ ρ → ρ ≤ d → columns_of d n ρ ≡ n / d + extra (n % d) ρ
  unfolding columns_of
  columns-is ρ h g = go (dec_lt (n % d) ρ)
    where
      m : n / d * d + n % d ≡ n
      m = div-add-mod' n d

      a : (n / d + 1) * d ≡ n / d * d + 1 * d
      a = add-mul (n / d) 1 d

      go : Dec (n % d < ρ) → (n + d - ρ) / d ≡ n / d + extra (n % d) ρ
      go (no p) =
          let s = mod-lt n {m = d} (omega arith) in
          let b = add-mul (n / d + 1) 1 d in
          div-eq_of_lt-le d (omega (arith, m, a)) (omega (arith, m, a)) ∙ ap (λ (x : ℕ). n / d + x) (sym (extra-in (n % d) ρ (omega arith)))
      go (yes p) =
          let o = extra-out (n % d) ρ p in
          div-eq_of_lt-le {k = n / d} d (omega (arith, m, a)) (omega (arith, m, a)) ∙ omega arith

  pub total-columns : (l : List ℕ) → Between 1 (suc d) l → total (columns_of d n) l ≡ length l * (n / d) + total (extra (n % d)) l
  total-columns [] b = omega (arith, zero-mul (n / d))
  total-columns (ρ ∷ l) b =
      omega (arith, columns-is ρ b.0 (omega (arith, b.1)), total-columns l b.2, suc-mul (length l) (n / d))

pub extra-up_from : (s a k : ℕ) → total (extra s) (up_from a k) ≡ min k (suc s - a)
extra-up_from s a zero = omega arith
extra-up_from s a (suc k) = go (dec_lt s a) (extra-up_from s (suc a) k)
  where
    go : Dec (s < a) → total (extra s) (up_from (suc a) k) ≡ min k (suc s - suc a) → extra s a + total (extra s) (up_from (suc a) k) ≡ min (suc k) (suc s - a)
    go (yes p) ih = omega (arith, extra-out s a p)
    go (no p) ih = omega (arith, extra-in s a (omega arith))

-- the numbers of a list, each gone to another
pub total-map : (f g : ℕ → ℕ) (l : List ℕ) → total f (map g l) ≡ total (λ x. f (g x)) l
total-map f g [] = refl
total-map f g (x ∷ l) = ap (λ (y : ℕ). f (g x) + y) (total-map f g l)

module _ (g : ℕ → ℕ) (lo hi : ℕ) (apart : (x y : ℕ) → lo ≤ x → x < hi → lo ≤ y → y < hi → g x ≡ g y → x ≡ y) where
  fresh-map : (x : ℕ) → lo ≤ x → x < hi → (l : List ℕ) → Between lo hi l → Fresh x l → Fresh (g x) (map g l)
  fresh-map x p q [] b f = tt
  fresh-map x p q (y ∷ l) b f = ((λ e. f.0 (apart x y p q b.0 b.1 e)), fresh-map x p q l b.2 f.1)

  pub distinct-map : (l : List ℕ) → Between lo hi l → Distinct l → Distinct (map g l)
  distinct-map [] b u = tt
  distinct-map (x ∷ l) b u = (fresh-map x b.0 b.1 l b.2 u.0, distinct-map l b.2 u.1)

pub between-map : (g : ℕ → ℕ) (lo hi lo' hi' : ℕ) → ((x : ℕ) → lo ≤ x → x < hi → (lo' ≤ g x) × (g x < hi')) → (l : List ℕ) → Between lo hi l
    → Between lo' hi' (map g l)
between-map g lo hi lo' hi' s [] b = tt
between-map g lo hi lo' hi' s (x ∷ l) b =
    let p = s x b.0 b.1 in
    (p.0, p.1, between-map g lo hi lo' hi' s l b.2)
