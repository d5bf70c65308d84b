-- Two rotations, a shift and two xors, as the definition has them.
use Rattle.sha256.specs.Sha256.{σ1, rotr, shr}
use Rattle.sha256.proofs.small1.Goals as goal

pub returns : goal.returns
unfolding σ1 rotr shr
returns c = cc
