-- The two tests.
use Rattle.parity.proofs.group_fits.Goals as goal

pub returns : goal.returns
returns c = cc
