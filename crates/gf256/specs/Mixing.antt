-- A block's bytes, weighed, added to another's. Assumes nothing.
--   zipped f xs ys     f at each pair of elements, as far as both go
--   mixed_one w b a     a byte a with a block's byte b added, weighed by w
--   doubles_of w        w times 1, 2, 4 and so on to 128, for a byte w
--   spread_by b ms      the sum of those of eight numbers that the bits of b pick
use Rattle.std.specs.Prelude.{List, [], ◌∷◌, ℕ, ◌*◌, ◌/◌, ◌%◌, get_or}
use Rattle.gf256.specs.Field.{plus, times}

unfoldable pub zipped : (ℕ → ℕ → ℕ) → List ℕ → List ℕ → List ℕ
zipped f [] ys = []
zipped f (x ∷ xs) [] = []
zipped f (x ∷ xs) (y ∷ ys) = f x y ∷ zipped f xs ys

unfoldable pub mixed_one : ℕ → ℕ → ℕ → ℕ
mixed_one w b a = plus a (times b w)

unfoldable pub doubles_of : ℕ → List ℕ
doubles_of w = w ∷ times w 2 ∷ times w 4 ∷ times w 8 ∷ times w 16 ∷ times w 32 ∷ times w 64 ∷ times w 128 ∷ []

unfoldable pub spread_by : ℕ → List ℕ → ℕ
spread_by b ms =
    plus (b % 2 * get_or ms 0 0) (plus (b / 2 % 2 * get_or ms 1 0) (plus (b / 4 % 2 * get_or ms 2 0) (plus (b / 8 % 2 * get_or ms 3 0)
    (plus (b / 16 % 2 * get_or ms 4 0) (plus (b / 32 % 2 * get_or ms 5 0) (plus (b / 64 % 2 * get_or ms 6 0) (b / 128 % 2 * get_or ms 7 0)))))))
