-- The two pads, each compressed.
use Rattle.hmac.specs.Hmac.{prepared}
use Rattle.hmac.proofs.Key.prepare.Goals as goal

pub returns : goal.returns
unfolding prepared
returns c = cc
