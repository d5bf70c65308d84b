-- The lane is read and turned into bytes.
use Rattle.std.proofs.Common.{ap, ◌∙◌}
use Rattle.sha256.specs.Sha256 as S
use Rattle.sha256_many.proofs.digest_of.Goals as goal

pub returns : goal.returns
returns c = c.digest.ensures ∙ ap S.digest c.lane.ensures
