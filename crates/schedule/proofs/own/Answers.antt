-- `schedule::own` meets its contract: its tests are those of the definition.
use Rattle.schedule.specs.Hours.{own}
use borrow.Author.Rules.{rules}
use Rattle.schedule.proofs.own.Goals as goal

pub returns : goal.returns
unfolding own
returns c = search rules
