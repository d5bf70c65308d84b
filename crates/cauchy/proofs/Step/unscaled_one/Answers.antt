-- The products and the weight are those of the definition.
use Rattle.gf256.specs.Field.{plus}
use Rattle.cauchy.specs.Solve.{unscaled_one}
use Rattle.cauchy.proofs.Step.unscaled_one.Goals as goal

pub returns : goal.returns
unfolding unscaled_one plus
returns c = cc
