-- The padding is absorbed as a last piece, by finished.
use Rattle.sha256.proofs.FinishLaws.{finished}
use Rattle.sha256.proofs.State.finish.Goals as goal

pub returns : goal.returns
returns c = finished c.args.self c.absorb.new.self _ _ c.digest.ensures c.absorb.ensures.2 c.pad-p.ensures.1
