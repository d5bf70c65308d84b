-- `schedule::start_of` meets its contract: the start is the number in the first two of a weekday's four bytes.
use Rattle.schedule.specs.Hours.{start_of}
use borrow.Author.Rules.{rules}
use Rattle.schedule.proofs.start_of.Goals as goal

pub returns : goal.returns
unfolding start_of
returns c = search rules
