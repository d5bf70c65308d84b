-- One role: the test, by or-none.
use Rattle.access.proofs.AmongLaws.{or-none}
use Rattle.access.proofs.is.Goals as goal

pub returns : goal.returns
returns c = or-none _
