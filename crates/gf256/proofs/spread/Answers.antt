-- The eight parts, summed in the order of the definition.
use Rattle.gf256.specs.Field.{plus}
use Rattle.gf256.specs.Mixing.{spread_by}
use Rattle.gf256.proofs.spread.Goals as goal

pub returns : goal.returns
unfolding spread_by plus
returns c = cc
