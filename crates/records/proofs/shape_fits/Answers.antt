-- The three tests are those of shape_fits.
use Rattle.scheme.specs.Records.{shape_fits}
use Rattle.records.proofs.shape_fits.Goals as goal

pub returns : goal.returns
unfolding shape_fits
returns c = cc
