-- `schedule::plan_fits` meets its contract. The loop's invariant: the answer so far is that of the weekdays passed.
use mathlib.Core.Path.{◌≡◌, refl, ap, ◌∙◌}
use native.Mathlib.Omega.{arith}
use Rattle.schedule.specs.Hours.{all_below, day_fits, plan_fits}
use Rattle.schedule.proofs.TestLaws.{all_more}
use Rattle.schedule.proofs.plan_fits.Goals as goal

pub loop-w-init : goal.loop-w-init
unfolding all_below
loop-w-init c = refl

pub loop-w-preserved : goal.loop-w-preserved
loop-w-preserved c = all_more c.loop-w.w (day_fits c.args.plan.now) c.loop-w.invariant (cc)

pub returns : goal.returns
unfolding plan_fits
returns c =
    let all : c.loop-w.w ≡ 7 = omega arith in
    c.loop-w.invariant ∙ ap (λ n. all_below n (day_fits c.args.plan.now)) all
