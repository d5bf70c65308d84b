-- Worked examples, computed. Assumes nothing.
--   weekdays        the first and the last date, 29 February 2000 and the days beside it, and a Sunday before a Monday
--   dates           dates and minutes at the limits
--   nights          a plan of nights, from 22:00 to 6:00
--   sunday-night    one window, from Sunday 23:00 to Monday 1:00: it runs from the last day of the week into the first
--   edges           the first and the last minute of a window; a window until midnight; an empty one
--   called          the call on two dates
--   small-inputs    each refusal, and pairs of faults in their order
use Prim.Native.Nat.{ℕ, ◌*◌}
use mathlib.Core.Path.{◌≡◌, refl}
use mathlib.Core.List.{List, ◌++◌}
use mathlib.Core.Bool.{true, false}
use lib.ListN.{replicate}
use Rattle.octets.specs.Octets.{le, be, of_le, of_be}
use Rattle.schedule.specs.Calendar.{leap, year_days, month_days, days_of_years, days_of_months, day_number, weekday, time_fits}
use Rattle.schedule.specs.Hours.{start_of, end_of, all_below, plan_fits, own, over, allowed, allowed_in, first_from, wait_from, wait_at, wait_call}

-- 1 January 2000 was a Saturday, 29 February 2000 a Tuesday, 15 November 2026 is a Sunday, 31 December 2099 a Thursday, day 36,524
pub weekdays : (weekday 2000 1 1 ≡ 5) × (weekday 2000 2 28 ≡ 0) × (weekday 2000 2 29 ≡ 1) × (weekday 2000 3 1 ≡ 2) × (weekday 2026 11 15 ≡ 6)
    × (weekday 2026 11 16 ≡ 0) × (weekday 2099 12 31 ≡ 3) × (day_number 2099 12 31 ≡ 36524)
unfolding weekday day_number days_of_years days_of_months year_days month_days leap
weekdays = (refl, refl, refl, refl, refl, refl, refl, refl)

pub dates : (time_fits 2000 1 1 0 ≡ true) × (time_fits 2099 12 31 1439 ≡ true) × (time_fits 2000 2 29 0 ≡ true) × (time_fits 2001 2 29 0 ≡ false) × (time_fits 2004 4 31 0 ≡ false)
    × (time_fits 1999 12 31 0 ≡ false) × (time_fits 2100 1 1 0 ≡ false) × (time_fits 2026 0 1 0 ≡ false) × (time_fits 2026 13 1 0 ≡ false) × (time_fits 2026 1 0 0 ≡ false)
    × (time_fits 2026 1 1 1440 ≡ false)
unfolding time_fits month_days leap
dates = (refl, refl, refl, refl, refl, refl, refl, refl, refl, refl, refl)

-- a window, a plan with one window for six days and another for Sunday, and a plan with the same for every day
abbrev window : ℕ → ℕ → List ℕ
window s e = be 2 s ++ be 2 e

abbrev days : List ℕ → List ℕ → List ℕ
days week sunday = week ++ week ++ week ++ week ++ week ++ week ++ sunday

abbrev daily : ℕ → ℕ → List ℕ
daily s e = days (window s e) (window s e)

-- on a Sunday: at 10:00 the wait is twelve hours; at 0:30 and at 5:59 the window of Saturday is open, and at 6:00 it has ended
pub nights : (wait_from (daily 1320 360) 6 600 ≡ 720) × (wait_from (daily 1320 360) 6 30 ≡ 0) × (wait_from (daily 1320 360) 6 359 ≡ 0)
    × (wait_from (daily 1320 360) 6 360 ≡ 960)
unfolding wait_from first_from allowed_in allowed own over start_of end_of be le of_be of_le
nights = (refl, refl, refl, refl)

-- Saturday 23:00 waits a day, and Sunday 22:59 a minute; the window is open until Monday 0:59
pub sunday-night : (wait_from (days (window 0 0) (window 1380 60)) 5 1380 ≡ 1440) × (wait_from (days (window 0 0) (window 1380 60)) 6 1379 ≡ 1)
    × (wait_from (days (window 0 0) (window 1380 60)) 6 1380 ≡ 0) × (wait_from (days (window 0 0) (window 1380 60)) 0 59 ≡ 0)
    × (allowed (days (window 0 0) (window 1380 60)) 0 60 ≡ false)
unfolding wait_from first_from allowed_in allowed own over start_of end_of be le of_be of_le
sunday-night = (refl, refl, refl, refl, refl)

-- "start included, end excluded, empty when equal"; a window that ends at minute 0 of the next day ends at midnight
pub edges : (wait_from (daily 540 600) 2 539 ≡ 1) × (wait_from (daily 540 600) 2 540 ≡ 0) × (wait_from (daily 540 600) 2 599 ≡ 0) × (wait_from (daily 540 600) 2 600 ≡ 1380)
    × (wait_from (daily 1380 0) 2 1439 ≡ 0) × (wait_from (daily 1380 0) 3 0 ≡ 1380) × (allowed (daily 600 600) 2 600 ≡ false)
unfolding wait_from first_from allowed_in allowed own over start_of end_of be le of_be of_le
edges = (refl, refl, refl, refl, refl, refl, refl)

-- the call on 29 February 2000, with a window on Tuesday alone, and on 31 December 2099, with one on Thursday alone
pub called : (wait_call (replicate 4 0 ++ window 600 660 ++ replicate 20 0) 2000 2 29 590 ≡ 256 * 10)
    × (wait_call (replicate 12 0 ++ window 600 660 ++ replicate 12 0) 2099 12 31 590 ≡ 256 * 10)
unfolding wait_call wait_at wait_from first_from allowed_in allowed own over plan_fits all_below start_of end_of be le of_be of_le
    weekday day_number days_of_years days_of_months year_days month_days leap time_fits
called = (refl, refl)

-- a month 13; a plan of 27 bytes; a plan minute of 1,440; and each with the faults behind it
pub small-inputs : (wait_call (daily 600 660) 2026 13 1 0 ≡ 16) × (wait_call (replicate 27 0) 2026 13 1 0 ≡ 16) × (wait_call (daily 600 1440) 2026 13 1 0 ≡ 16)
    × (wait_call (replicate 27 0) 2026 11 15 0 ≡ 1) × (wait_call (replicate 27 255) 2026 11 15 0 ≡ 1) × (wait_call (daily 600 1440) 2026 11 15 0 ≡ 3)
    × (wait_call (daily 1440 600) 2026 11 15 0 ≡ 3)
unfolding wait_call plan_fits all_below start_of end_of be le of_be of_le month_days leap time_fits
small-inputs = (refl, refl, refl, refl, refl, refl, refl)
