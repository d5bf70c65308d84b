-- `schedule::wait` meets its contract: what it returns by its three tests, by call-is.
use Prim.Native.Nat.{◌*◌}
use mathlib.Core.Path.{refl, sym, ap, ap₂, ◌∙◌}
use native.Mathlib.Omega.{arith}
use borrow.Author.Tests.{eq-eqb, ne_eqb}
use lib.ListN.{length}
use Rattle.schedule.specs.Hours.{wait_from, wait_at, plan_fits}
use Rattle.schedule.proofs.CalendarLaws.{date-limits, date-within}
use Rattle.schedule.proofs.WaitLaws.{call-is}
use Rattle.schedule.proofs.wait.Goals as goal

pub returns-then-not-fits-clause-value : goal.returns-then-not-fits-clause-value
returns-then-not-fits-clause-value c =
    let t = c.args.time in
    call-is c.args.plan.now t.year t.month t.day t.minute (sym c.fits.ensures ∙ c.if-not-fits.true) refl refl

pub returns-in_default-clause-value : goal.returns-in_default-clause-value
returns-in_default-clause-value c =
    let t = c.args.time in
    call-is c.args.plan.now t.year t.month t.day t.minute (sym c.fits.ensures ∙ c.if-not-fits.false)
    (ne_eqb (length c.args.plan.now) 28 c.in_default.ensures.cases) refl

pub returns-then-not-plan_fits-clause-value : goal.returns-then-not-plan_fits-clause-value
returns-then-not-plan_fits-clause-value c =
    let t = c.args.time in
    let whole = c.in-Some.ensures.cases in
    call-is c.args.plan.now t.year t.month t.day t.minute (sym c.fits.ensures ∙ c.if-not-fits.false)
    (eq-eqb (length c.args.plan.now) 28 whole.long)
    (ap plan_fits (sym whole.same) ∙ sym c.plan_fits.ensures ∙ c.if-not-plan_fits.true)

pub weekday-requires : goal.weekday-requires
weekday-requires c =
    let t = c.args.time in
    date-within t.year t.month t.day t.minute (sym c.fits.ensures ∙ c.if-not-fits.false)

pub wait_from-requires : goal.wait_from-requires
wait_from-requires c =
    let t = c.args.time in
    let limits = date-limits t.year t.month t.day t.minute (sym c.fits.ensures ∙ c.if-not-fits.false) in
    (c.weekday.ensures.1, omega (arith, limits.minute_most), sym c.plan_fits.ensures ∙ c.if-not-plan_fits.false)

pub returns-clause-value : goal.returns-clause-value
unfolding wait_at
returns-clause-value c =
    let t = c.args.time in
    let whole = c.in-Some.ensures.cases in
    let wait =
    c.wait_from.ensures.0
    ∙ ap₂ (λ p w. wait_from p w t.minute) whole.same c.weekday.ensures.0 in
    ap (λ x. 256 * x) wait ∙ call-is c.args.plan.now t.year t.month t.day t.minute (sym c.fits.ensures ∙ c.if-not-fits.false)
    (eq-eqb (length c.args.plan.now) 28 whole.long)
    (ap plan_fits (sym whole.same) ∙ sym c.plan_fits.ensures ∙ c.if-not-plan_fits.false)
