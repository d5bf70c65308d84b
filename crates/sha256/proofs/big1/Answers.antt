-- Three rotations and two xors, as the definition has them.
use Rattle.sha256.specs.Sha256.{Σ1, rotr}
use Rattle.sha256.proofs.big1.Goals as goal

pub returns : goal.returns
unfolding Σ1 rotr
returns c = cc
