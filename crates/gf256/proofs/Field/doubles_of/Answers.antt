-- The seven products in their order.
use Rattle.gf256.specs.Mixing.{doubles_of}
use Rattle.gf256.proofs.Field.doubles_of.Goals as goal

pub returns : goal.returns
unfolding doubles_of
returns c = cc
