-- The length is put behind the bit and the zeros, by padded.
use Rattle.sha256.proofs.DigestLaws.{padded}
use Rattle.std.proofs.Common.{rules}
use Rattle.sha256.proofs.pad.Goals as goal

pub returns : goal.returns
returns c = (search rules, padded c.args.total _ c.put_be.ensures)
