-- `schedule::days_of_months` meets its contract. The loop's invariant: the sum is that of the first i months.
use mathlib.Core.Path.{◌≡◌, refl, ap, ◌∙◌}
use native.Mathlib.Omega.{arith}
use Rattle.schedule.specs.Calendar.{days_of_months}
use Rattle.schedule.proofs.CalendarLaws.{months-most, months-more}
use Rattle.schedule.proofs.days_of_months.Goals as goal

pub loop-i-init : goal.loop-i-init
unfolding days_of_months
loop-i-init c = refl

pub overflow_add-days : goal.overflow_add-days
overflow_add-days c = omega (arith, months-most c.args.year c.loop-i.i)

pub loop-i-preserved : goal.loop-i-preserved
loop-i-preserved c = months-more c.args.year c.loop-i.i _ _ c.loop-i.invariant c.month_days-days.ensures.0

pub returns : goal.returns
returns c =
    let all : c.loop-i.i ≡ c.args.months = omega arith in (
      c.loop-i.invariant ∙ ap (days_of_months c.args.year) all,
      omega (arith, c.loop-i.invariant, months-most c.args.year c.loop-i.i),
    )
