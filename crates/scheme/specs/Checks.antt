-- Lists of checks and their tests. Assumes nothing.
--   first none checks   what stands beside the first test that fails, none where all hold
--   if_zero n a b       a where n is 0, else b
--   within lo hi x     whether x is at least lo and at most hi
use Rattle.std.specs.Prelude.{ℕ, zero, suc, List, [], ◌∷◌, Bool, cond, ◌&&◌, leb}

unfoldable pub first : {A : Type 0} → A → List (Bool × A) → A
first none [] = none
first none (check ∷ checks) = cond check.0 (first none checks) check.1

abbrev pub if_zero : {A : Type 0} → ℕ → A → A → A
if_zero zero a b = a
if_zero (suc n) a b = b

abbrev pub within : ℕ → ℕ → ℕ → Bool
within lo hi x = leb lo x && leb x hi
