-- One block came.
use Rattle.std.proofs.Common.{rules}
use Rattle.sha256.specs.Stream.{resumed}
use Rattle.sha256.proofs.State.resume.Goals as goal

pub returns : goal.returns
unfolding resumed
returns c = search rules
