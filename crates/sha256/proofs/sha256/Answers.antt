-- Start, absorb, finish, by whole.
use Rattle.sha256.proofs.FinishLaws.{whole}
use Rattle.sha256.proofs.sha256.Goals as goal

pub returns : goal.returns
returns c = whole _ _ _ _ c.start-s.ensures.2 c.absorb.ensures.2 c.finish.ensures
