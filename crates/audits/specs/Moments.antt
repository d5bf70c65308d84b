-- What the date and minute of the code stand for. Assumes nothing.
--   moment_of t   the moment of the scheme
use Rattle.schedule.specs.declared.Time.{Time}
use Rattle.scheme.specs.Calls.{Moment}

abbrev pub moment_of : Time → Moment
moment_of t = record { year = t.year; month = t.month; day = t.day; minute = t.minute }
