-- The weight is the inverse of the sum of the numbers.
use Rattle.gf256.specs.Field.{plus}
use Rattle.cauchy.specs.Solve.{weight}
use Rattle.cauchy.proofs.weight_of.Goals as goal

pub returns : goal.returns
unfolding weight plus
returns c = cc
