-- Resume, absorb, finish, as the definition has it.
use Rattle.hmac.specs.Hmac.{behind}
use Rattle.hmac.proofs.behind.Goals as goal

pub returns : goal.returns
unfolding behind
returns c = cc
