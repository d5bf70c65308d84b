-- `schedule::end_of` meets its contract: the end is the number in the last two of a weekday's four bytes.
use Rattle.schedule.specs.Hours.{end_of}
use borrow.Author.Rules.{rules}
use Rattle.schedule.proofs.end_of.Goals as goal

pub returns : goal.returns
unfolding end_of
returns c = search rules
