-- The row is one more than a remainder, which is below `rows`.
use native.Mathlib.Omega.{arith}
use native.Mathlib.Nat.{mod-lt}
use Prim.Native.Nat.{◌-◌}
use Rattle.scheme.specs.Tokens.{row_of}
use Rattle.tokens.proofs.row_of.Goals as goal

pub overflow_add-result : goal.overflow_add-result
overflow_add-result c = omega (arith, mod-lt (c.args.m.0 - 1) {m = c.args.rows} c.requires.0)

pub returns : goal.returns
unfolding row_of
returns c = omega (arith, mod-lt (c.args.m.0 - 1) {m = c.args.rows} c.requires.0)
