-- `schedule::allowed` meets its contract: the date fits, so that its weekday is that of the definition.
use Rattle.schedule.specs.Hours.{allowed_at}
use Rattle.schedule.proofs.CalendarLaws.{date-within}
use Rattle.schedule.proofs.allowed.Goals as goal

pub weekday-requires : goal.weekday-requires
weekday-requires c =
    let t = c.args.time in
    date-within t.year t.month t.day t.minute c.requires

pub returns : goal.returns
unfolding allowed_at
returns c = cc
