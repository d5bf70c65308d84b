-- `poly1305::times` meets its contract: a product is at most the product of the bounds.
-- Assumes nothing.
use mathlib.Core.Path.{refl}
use native.Mathlib.Nat.{mul-le-mul, le_of_lt}
use native.Mathlib.Omega.{arith}
use Rattle.poly1305.proofs.times.Goals as goal

pub overflow_mul-result : goal.overflow_mul-result
overflow_mul-result c = omega (arith, mul-le-mul (le_of_lt c.requires.0) (le_of_lt c.requires.1))

pub returns : goal.returns
returns c = (refl, mul-le-mul (le_of_lt c.requires.0) (le_of_lt c.requires.1))
