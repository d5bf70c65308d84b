-- `schedule::Time::weekday` meets its contract: the days of the years stand in closed form, by weekday-is.
use native.Mathlib.Omega.{arith}
use Rattle.schedule.proofs.CalendarLaws.{weekday-is}
use Rattle.schedule.proofs.Time.weekday.Goals as goal

pub returns : goal.returns
returns c =
    let t = c.args.self in
    (weekday-is t.year t.month t.day _ c.requires.0 c.requires.1 c.days_of_months-months.ensures.0, omega arith)
