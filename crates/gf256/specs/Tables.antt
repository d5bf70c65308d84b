-- The two tables that products use, by their rules; what the calls promise does not rest on them. Assumes nothing.
-- #114: "Products use a table of 512 powers of 2 and a table of their logarithms."
--   doubled n x     x doubled n times
--   powers          the power of 2 at 0 to 511: each is the double of the one before
--   Logged xs       at every number from 1 to 255 of xs stands its logarithm
use Rattle.std.specs.Prelude.{◌≡◌, List, [], ◌∷◌, ℕ, zero, suc, ◌<◌, ◌≤◌, get_or}
use Rattle.gf256.specs.Field.{double}

unfoldable pub doubled : ℕ → ℕ → ℕ
doubled zero x = x
doubled (suc n) x = doubled n (double x)

unfoldable pub doubles : ℕ → ℕ → List ℕ
doubles zero x = []
doubles (suc n) x = x ∷ doubles n (double x)

unfoldable pub powers : List ℕ
powers = doubles 512 1

pub record Logged (xs : List ℕ) : Type 0 where
  pub below : (a : ℕ) → a < 256 → get_or xs a 0 < 255
  pub power : (a : ℕ) → 1 ≤ a → a < 256 → doubled (get_or xs a 0) 1 ≡ a
