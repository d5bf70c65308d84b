-- Lists tabulated from a function, and what blocks laid end to end hold. Assumes nothing.
--   made-length, get_or-made, made_of, made-same   a list is tabulated from f where it holds f's values
--   Filled, filled_more, filled-made     one more block is in place
--   map_at                               an element of a map
--   map_same                             two functions that agree where they are asked
use mathlib.Core.Path.{◌≡◌, refl, sym, ap, ap₂, ◌∙◌}
use mathlib.Core.Bool.{Bool, true, false}
use mathlib.Core.List.{List, [], ◌∷◌, ◌++◌, map}
use Prim.Native.Nat.{ℕ, zero, suc, ◌+◌, ◌-◌, ◌<◌, ◌≤◌}
use native.Mathlib.Nat.{add-zero, zero-add, add-suc, suc-add}
use native.Mathlib.Omega.{arith}
use borrow.Author.Tests.{ltb-true, ltb-false}
use lib.Dec.{ltb}
use lib.ListN.{length, get_or, take, drop, get_or-append}
use lib.Seq.{ext_get_or, get_or-take, get_or-append-add, length-take-le}
use Rattle.cauchy.specs.System.{Each}
use Rattle.erasure.specs.Group.{tabulate_from, tabulate}

from-length : (i n : ℕ) (f : ℕ → ℕ) → length (tabulate_from i n f) ≡ n
unfolding tabulate_from
from-length i zero f = refl
from-length i (suc n) f = ap suc (from-length (suc i) n f)

from_at : (i n j : ℕ) (f : ℕ → ℕ) → j < n → get_or (tabulate_from i n f) j 0 ≡ f (i + j)
unfolding tabulate_from
from_at i zero j f h = absurd (omega arith)
from_at i (suc n) zero f h = ap f (sym (add-zero i))
from_at i (suc n) (suc j) f h = from_at (suc i) n j f (omega arith) ∙ ap f (suc-add i j ∙ sym (add-suc i j))

pub made-length : (n : ℕ) (f : ℕ → ℕ) → length (tabulate n f) ≡ n
unfolding tabulate
made-length n f = from-length 0 n f

pub get_or-made : (n j : ℕ) (f : ℕ → ℕ) → j < n → get_or (tabulate n f) j 0 ≡ f j
unfolding tabulate
get_or-made n j f h = from_at 0 n j f h ∙ ap f (zero-add j)

pub made_of : (n : ℕ) (f : ℕ → ℕ) (xs : List ℕ) → length xs ≡ n → ((i : ℕ) → i < n → get_or xs i 0 ≡ f i) → xs ≡ tabulate n f
made_of n f xs l h =
    ext_get_or 0 xs (tabulate n f) (l ∙ sym (made-length n f)) (λ i k. h i (omega arith) ∙ sym (get_or-made n i f (omega arith)))

pub made-same : (n : ℕ) (f g : ℕ → ℕ) → ((i : ℕ) → i < n → f i ≡ g i) → tabulate n f ≡ tabulate n g
made-same n f g h = made_of n g (tabulate n f) (made-length n f) (λ i k. get_or-made n i f k ∙ h i k)

pub map_same : (f g : ℕ → ℕ) (ns : List ℕ) → Each (λ n. f n ≡ g n) ns → map f ns ≡ map g ns
map_same f g [] h = refl
map_same f g (n ∷ ns) h = ap₂ (λ (x : ℕ) (l : List ℕ). x ∷ l) h.0 (map_same f g ns h.1)

pub map_at : (f : ℕ → ℕ) (xs : List ℕ) (i : ℕ) → i < length xs → get_or (map f xs) i 0 ≡ f (get_or xs i 0)
map_at f [] i l = absurd (omega arith)
map_at f (x ∷ xs) zero l = refl
map_at f (x ∷ xs) (suc i) l = map_at f xs i (omega arith)

-- the first values of f are in place
abbrev pub Filled : ℕ → (ℕ → ℕ) → List ℕ → Type 0
Filled n f xs = (i : ℕ) → i < n → get_or xs i 0 ≡ f i

pub filled_more : (from at B k to : ℕ) (f : ℕ → ℕ) (xs ys : List ℕ) → at ≡ from → k ≡ B → to ≡ at + B → at + B ≤ length xs → length ys ≡ B
    → Filled from f xs → ((t : ℕ) → t < B → get_or ys t 0 ≡ f (at + t)) → Filled to f (take at xs ++ (ys ++ drop k (drop at xs)))
filled_more from at B k to f xs ys s e d h l old new i r = go (ltb i at) refl
  where
    front : length (take at xs) ≡ at
    front = length-take-le at xs (omega arith)

    go : (b : Bool) → ltb i at ≡ b → get_or (take at xs ++ (ys ++ drop k (drop at xs))) i 0 ≡ f i
    go true b =
        let q : i < at = ltb-true i at b in
        get_or-append (take at xs) (ys ++ drop k (drop at xs)) 0 i (omega (arith, front)) ∙ get_or-take at xs i 0 q ∙ old i (omega arith)
    go false b =
        let q : at ≤ i = ltb-false i at b in
        let j = i - at in
        let w : at + j ≡ i = omega arith in
        ap (λ (n : ℕ). get_or (take at xs ++ (ys ++ drop k (drop at xs))) n 0) (sym (ap (λ (n : ℕ). n + j) front ∙ w))
        ∙ get_or-append-add (take at xs) (ys ++ drop k (drop at xs)) j 0
        ∙ get_or-append ys (drop k (drop at xs)) 0 j (omega arith)
        ∙ new j (omega arith) ∙ ap f w

pub filled-made : (n at : ℕ) (f : ℕ → ℕ) (xs : List ℕ) → length xs ≡ n → n ≤ at → Filled at f xs → xs ≡ tabulate n f
filled-made n at f xs l h g = made_of n f xs l (λ i k. g i (omega arith))
