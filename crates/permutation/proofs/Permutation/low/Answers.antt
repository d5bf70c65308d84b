-- The mask below 2 ^ h takes the remainder (low-is).
use native.Mathlib.Omega.{arith}
use Rattle.permutation.proofs.MachineLaws.{low-is}
use Rattle.permutation.proofs.Permutation.low.Goals as goal

pub returns : goal.returns
returns c = low-is c.args.x c.args.self.h (omega (arith, c.args.self.narrow))
