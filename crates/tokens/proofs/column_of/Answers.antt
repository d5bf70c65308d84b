-- The column is the quotient, by which the row has as many blocks before.
use native.Mathlib.Omega.{arith}
use native.Mathlib.Nat.{div-mul-le_self}
use Prim.Native.Nat.{◌-◌}
use Rattle.scheme.specs.Tokens.{column_of}
use Rattle.tokens.proofs.column_of.Goals as goal

pub returns : goal.returns
unfolding column_of
returns c = omega (arith, div-mul-le_self (c.args.m.0 - 1) c.args.rows)
