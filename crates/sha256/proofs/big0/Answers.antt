-- Three rotations and two xors, as the definition has them.
use Rattle.sha256.specs.Sha256.{Σ0, rotr}
use Rattle.sha256.proofs.big0.Goals as goal

pub returns : goal.returns
unfolding Σ0 rotr
returns c = cc
