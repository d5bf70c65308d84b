-- `schedule::leap` meets its contract: its tests are those of the definition.
use Rattle.schedule.specs.Calendar.{leap}
use borrow.Author.Rules.{rules}
use Rattle.schedule.proofs.leap.Goals as goal

pub returns : goal.returns
unfolding leap
returns c = search rules
