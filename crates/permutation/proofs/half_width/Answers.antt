-- 64 less the leading zeros of d - 1 is its bit length (length-zeros).
use native.Mathlib.Omega.{arith}
use Prim.Native.Nat.{◌-◌}
use lib.Count.{leading_le}
use Rattle.permutation.specs.Rounds.{half}
use Rattle.permutation.proofs.WidthLaws.{length-zeros}
use Rattle.permutation.proofs.half_width.Goals as goal

pub returns : goal.returns
unfolding half
returns c = omega (arith, leading_le 64 (c.args.d - 1), length-zeros 64 (c.args.d - 1) (omega arith), c.max.ensures)
