-- The weekly plan of windows that allow draws, and the wait for the first allowed minute (request #106). Assumes nothing.
--   start_of plan w, end_of plan w    the start and the end minute of weekday w's window
--   all_below n f                    whether f holds at every number below n
--   plan_fits plan                   whether every minute of the plan is one of a day
--   own s e m                       whether minute m of a day is in the window from s to e of that day
--   over s e m                      whether it is in the window from s to e of the day before
--   allowed plan w m                whether minute m of weekday w is in a window
--   allowed_in plan w m k            the same of the minute that comes k minutes later
--   first_from f i n                 the first of the n numbers from i on at which f holds, i + n where there is none
--   wait_from plan w m               the wait from minute m of weekday w
--   wait_at, allowed_at               the wait from a date and a minute, and whether that very minute is allowed
--   wait_call                        what the call returns
use Rattle.std.specs.Prelude.{ℕ, zero, suc, ◌+◌, ◌*◌, ◌/◌, ◌%◌, List, Bool, true, false, cond, ◌&&◌, ◌||◌, eqb, leb, ltb, length}
use Rattle.octets.specs.Octets.{of_be, part}
use Rattle.counts.specs.Codes.{wrong_length, out_of_limits, bad_time}
use Rattle.counts.specs.Sizes.{plan_size}
use Rattle.counts.specs.Limits.{last_minute, day_minutes, week_minutes}
use Rattle.schedule.specs.Calendar.{weekday, time_fits}

-- "for each weekday from Monday one window that allows draws, start and end minute in 2 bytes each"
unfoldable pub start_of : List ℕ → ℕ → ℕ
start_of plan w = of_be (part (4 * w) 2 plan)

unfoldable pub end_of : List ℕ → ℕ → ℕ
end_of plan w = of_be (part (4 * w + 2) 2 plan)

-- whether a test holds at 0, 1, .. n - 1
unfoldable pub all_below : ℕ → (ℕ → Bool) → Bool
all_below zero f = true
all_below (suc n) f = all_below n f && f n

-- "Plan minutes above 1,439 are code 3.": both of a weekday, and those of all seven
abbrev pub day_fits : List ℕ → ℕ → Bool
day_fits plan w = leb (start_of plan w) last_minute && leb (end_of plan w) last_minute

unfoldable pub plan_fits : List ℕ → Bool
plan_fits plan = all_below 7 (day_fits plan)

-- "start included, end excluded, empty when equal, running past midnight when the end is smaller"
unfoldable pub own : ℕ → ℕ → ℕ → Bool
own s e m = leb s m && (ltb m e || ltb e s)

-- "A window past midnight belongs to the day it starts."
unfoldable pub over : ℕ → ℕ → ℕ → Bool
over s e m = ltb e s && ltb m e

-- the day's own window, or that of the day before; before Monday comes Sunday
unfoldable pub allowed : List ℕ → ℕ → ℕ → Bool
allowed plan w m = own (start_of plan w) (end_of plan w) m || over (start_of plan ((w + 6) % 7)) (end_of plan ((w + 6) % 7)) m

-- k minutes after minute m of weekday w it is minute m + k, from that day's midnight on: a day has 1,440
unfoldable pub allowed_in : List ℕ → ℕ → ℕ → ℕ → Bool
allowed_in plan w m k = allowed plan ((w + (m + k) / day_minutes) % 7) ((m + k) % day_minutes)

-- "the first .. one among" n that start with i
unfoldable pub first_from : (ℕ → Bool) → ℕ → ℕ → ℕ
first_from f i zero = i
first_from f i (suc n) = elim (f i) [ true ↦ i | false ↦ first_from f (suc i) n ]

-- "the wait in minutes for the first allowed one among the 10,080 that start with the given one, 10,080 for none"
unfoldable pub wait_from : List ℕ → ℕ → ℕ → ℕ
wait_from plan w m = first_from (allowed_in plan w m) 0 week_minutes

-- "Given a Gregorian date (year, month, day) .. and a minute .., a call gives the wait"
unfoldable pub wait_at : List ℕ → ℕ → ℕ → ℕ → ℕ → ℕ
wait_at plan year month day minute = wait_from plan (weekday year month day) minute

-- "after 3 a draw outside every window (17)": what draw asks of its minute
unfoldable pub allowed_at : List ℕ → ℕ → ℕ → ℕ → ℕ → Bool
allowed_at plan year month day minute = allowed plan (weekday year month day) minute

-- "It refuses, before everything else, a date or minute outside these (16)"; then a plan of another length (1) and "Plan minutes above 1,439 are code 3";
-- "One number given stands in the token's place beside code 0"
unfoldable pub wait_call : List ℕ → ℕ → ℕ → ℕ → ℕ → ℕ
wait_call plan year month day minute =
    cond (time_fits year month day minute)
    (cond (eqb (length plan) plan_size) (cond (plan_fits plan) (256 * wait_at plan year month day minute) out_of_limits) wrong_length)
    bad_time
