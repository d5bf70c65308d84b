-- A list being changed in place, by a function of two elements. Assumes nothing.
--   zip_to, zip-none, zip_more, zip-done     the first i elements are changed
--   first, zipped_map                       a function of the first of the two
use mathlib.Core.Path.{◌≡◌, refl, sym, ap, ap₂, ◌∙◌}
use mathlib.Core.List.{List, [], ◌∷◌, map}
use Prim.Native.Nat.{ℕ, zero, suc, ◌+◌, ◌<◌}
use native.Mathlib.Numerals.{add-one}
use native.Mathlib.Omega.{arith}
use lib.ListN.{get_or, length, set}
use Rattle.gf256.specs.Mixing.{zipped}

pub zip_to : (ℕ → ℕ → ℕ) → ℕ → List ℕ → List ℕ → List ℕ
zip_to f zero xs ys = ys
zip_to f (suc i) [] ys = ys
zip_to f (suc i) (x ∷ xs) [] = []
zip_to f (suc i) (x ∷ xs) (y ∷ ys) = f x y ∷ zip_to f i xs ys

pub zip-none : (f : ℕ → ℕ → ℕ) (xs ys : List ℕ) → ys ≡ zip_to f 0 xs ys
unfolding zip_to
zip-none f xs ys = refl

zip-read : (f : ℕ → ℕ → ℕ) (i : ℕ) (xs ys : List ℕ) → get_or (zip_to f i xs ys) i 0 ≡ get_or ys i 0
unfolding zip_to
zip-read f zero xs ys = refl
zip-read f (suc i) [] ys = refl
zip-read f (suc i) (x ∷ xs) [] = refl
zip-read f (suc i) (x ∷ xs) (y ∷ ys) = zip-read f i xs ys

zip-set : (f : ℕ → ℕ → ℕ) (i : ℕ) (xs ys : List ℕ) → i < length xs → length ys ≡ length xs
    → set (zip_to f i xs ys) i (f (get_or xs i 0) (get_or ys i 0)) ≡ zip_to f (suc i) xs ys
unfolding zip_to
zip-set f i [] ys h l = absurd (omega arith)
zip-set f i (x ∷ xs) [] h l = absurd (omega arith)
zip-set f zero (x ∷ xs) (y ∷ ys) h l = refl
zip-set f (suc i) (x ∷ xs) (y ∷ ys) h l = ap (λ (r : List ℕ). f x y ∷ r) (zip-set f i xs ys (omega arith) (omega arith))

zip-all : (f : ℕ → ℕ → ℕ) (xs ys : List ℕ) → length ys ≡ length xs → zip_to f (length xs) xs ys ≡ zipped f xs ys
unfolding zip_to zipped
zip-all f [] [] l = refl
zip-all f [] (y ∷ ys) l = absurd (omega arith)
zip-all f (x ∷ xs) [] l = refl
zip-all f (x ∷ xs) (y ∷ ys) l = ap (λ (r : List ℕ). f x y ∷ r) (zip-all f xs ys (omega arith))

-- one more is changed
pub zip_more : (f : ℕ → ℕ → ℕ) (i r : ℕ) (xs ys zs : List ℕ) → zs ≡ zip_to f i xs ys → i < length xs → length ys ≡ length xs
    → r ≡ f (get_or xs i 0) (get_or zs i 0) → set zs i r ≡ zip_to f (i + 1) xs ys
zip_more f i r xs ys zs e h l q =
    ap₂ (λ (us : List ℕ) (n : ℕ). set us i n) e (q ∙ ap (f (get_or xs i 0)) (ap (λ (us : List ℕ). get_or us i 0) e ∙ zip-read f i xs ys))
    ∙ zip-set f i xs ys h l ∙ ap (λ (n : ℕ). zip_to f n xs ys) (sym (add-one i))

pub zip-done : (f : ℕ → ℕ → ℕ) (i : ℕ) (xs ys zs : List ℕ) → zs ≡ zip_to f i xs ys → i ≡ length xs → length ys ≡ length xs → zs ≡ zipped f xs ys
zip-done f i xs ys zs e h l = e ∙ ap (λ (n : ℕ). zip_to f n xs ys) h ∙ zip-all f xs ys l

abbrev pub first : (ℕ → ℕ) → ℕ → ℕ → ℕ
first f n y = f n

pub zipped_map : (f : ℕ → ℕ) (xs ys : List ℕ) → length ys ≡ length xs → zipped (first f) xs ys ≡ map f xs
unfolding zipped
zipped_map f [] ys h = refl
zipped_map f (x ∷ xs) [] h = absurd (omega arith)
zipped_map f (x ∷ xs) (y ∷ ys) h = ap (λ (l : List ℕ). f x ∷ l) (zipped_map f xs ys (omega arith))
