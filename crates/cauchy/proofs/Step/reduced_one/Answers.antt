-- The three products and the weight are those of the definition.
use Rattle.gf256.specs.Field.{plus}
use Rattle.cauchy.specs.Solve.{reduced_one}
use Rattle.cauchy.proofs.Step.reduced_one.Goals as goal

pub returns : goal.returns
unfolding reduced_one plus
returns c = cc
