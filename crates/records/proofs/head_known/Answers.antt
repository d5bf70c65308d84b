-- The two tests are those of head_known.
use Rattle.scheme.specs.Records.{head_known}
use Rattle.records.proofs.head_known.Goals as goal

pub returns : goal.returns
unfolding head_known
returns c = cc
