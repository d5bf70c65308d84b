-- `schedule::over` meets its contract: its tests are those of the definition.
use Rattle.schedule.specs.Hours.{over}
use borrow.Author.Rules.{rules}
use Rattle.schedule.proofs.over.Goals as goal

pub returns : goal.returns
unfolding over
returns c = search rules
