-- The sums of the definition, in its order.
use Rattle.sha256.specs.Sha256.{◌⊞◌, t1, t2, round}
use Rattle.sha256.proofs.round.Goals as goal

pub returns : goal.returns
unfolding ◌⊞◌ t1 t2 round
returns c = cc
