-- The sums modulo 2 ^ 32, in their order.
use Rattle.sha256.specs.Sha256.{◌⊞◌}
use Rattle.sha256.proofs.next.Goals as goal

pub returns : goal.returns
unfolding ◌⊞◌
returns c = cc
