-- No bytes came yet.
use Rattle.std.proofs.Common.{rules}
use Rattle.sha256.specs.Stream.{started}
use Rattle.sha256.proofs.State.start.Goals as goal

pub returns : goal.returns
unfolding started
returns c = search rules
