-- `schedule::Time::fits` meets its contract: its tests are those of the definition.
use Rattle.schedule.specs.Calendar.{time_fits}
use Rattle.schedule.proofs.Time.fits.Goals as goal

pub returns : goal.returns
unfolding time_fits
returns c = cc
