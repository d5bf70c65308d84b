-- No byte of the buffer counts.
use Rattle.std.proofs.Common.{refl, rules}
use Rattle.sha256.specs.View.{view}
use Rattle.sha256.proofs.State.behind.Goals as goal

pub returns : goal.returns
unfolding view
returns c = (search rules, refl, refl)
