-- The inner hash, then the outer, as the definition has them.
use Rattle.hmac.specs.Hmac.{keyed}
use Rattle.hmac.proofs.Key.hmac.Goals as goal

pub returns : goal.returns
unfolding keyed
returns c = cc
