-- `schedule::month_days` meets its contract, by the case of the definition that the tests choose.
use Rattle.schedule.proofs.CalendarLaws.{february, other}
use borrow.Author.Rules.{rules}
use Rattle.schedule.proofs.month_days.Goals as goal

pub returns-then-leap : goal.returns-then-leap
returns-then-leap c = (february _ _ c.if-month-eq2.true c.leap.ensures c.if-leap.true, search rules)

pub returns-then-month-eq2 : goal.returns-then-month-eq2
returns-then-month-eq2 c = (february _ _ c.if-month-eq2.true c.leap.ensures c.if-leap.false, search rules)

pub returns-then-month : goal.returns-then-month
returns-then-month c = (other _ _ c.if-month-eq2.false c.if-month.true, search rules)

pub returns : goal.returns
returns c = (other _ _ c.if-month-eq2.false c.if-month.false, search rules)
