-- `schedule::days_of_months` meets its contract. The loop's invariant: the sum is that of the first i months.
use mathlib.Core.Path.{◌≡◌}
use Rattle.schedule.specs.Calendar.{days_of_months}
use Rattle.schedule.proofs.days_of_months.Given as goal

abbrev pub invariant-loop-i : goal.invariant-loop-i
invariant-loop-i l = l.days ≡ days_of_months l.year l.i
