-- `schedule::plan_fits` meets its contract. The loop's invariant: the answer so far is that of the weekdays passed.
use mathlib.Core.Path.{◌≡◌}
use Rattle.schedule.specs.Hours.{all_below, day_fits}
use Rattle.schedule.proofs.plan_fits.Given as goal

abbrev pub invariant-loop-w : goal.invariant-loop-w
invariant-loop-w l = l.fits ≡ all_below l.w (day_fits l.plan)
