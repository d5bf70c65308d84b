-- What the three pieces brought, in turn, by three-pieces.
use Rattle.sha256_stream.proofs.PieceLaws.{three-pieces}
use Rattle.sha256_stream.proofs.hash.Goals as goal

pub returns : goal.returns
returns c =
    three-pieces _ _ _ _ _ _ _ _ c.start-s.ensures.2 c.absorb.ensures.2 c.absorb-2.ensures.2 c.absorb-3.ensures.2 c.finish.ensures
