-- The machine's 1, shifted by h and squared, is 4 ^ h, by side-is.
use native.Mathlib.Omega.{arith}
use Rattle.planning.proofs.CallLaws.{width-most, side-most, ceiling-is}
use Rattle.planning.proofs.Planned.ceiling.Goals as goal

pub overflow_shl-side : goal.overflow_shl-side
overflow_shl-side c = omega (arith, width-most c.args.self.rows c.half_width.result c.args.self.few_rows c.half_width.ensures)

pub overflow_mul-result : goal.overflow_mul-result
overflow_mul-result c = omega (arith, (side-most c.args.self.rows c.half_width.result c.args.self.few_rows c.half_width.ensures).1)

pub overflow_add-result : goal.overflow_add-result
overflow_add-result c = omega (arith, (side-most c.args.self.rows c.half_width.result c.args.self.few_rows c.half_width.ensures).1)

pub overflow_sub-result : goal.overflow_sub-result
overflow_sub-result c = omega (arith, (side-most c.args.self.rows c.half_width.result c.args.self.few_rows c.half_width.ensures).0)

pub returns : goal.returns
returns c = ceiling-is c.args.self.rows c.half_width.result c.args.self.few_rows c.half_width.ensures c.args.self.positions
