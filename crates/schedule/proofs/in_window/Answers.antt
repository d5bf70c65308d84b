-- `schedule::in_window` meets its contract: its tests are those of the definition.
use Rattle.schedule.specs.Hours.{allowed}
use Rattle.schedule.proofs.in_window.Goals as goal

pub returns : goal.returns
unfolding allowed
returns c = cc
