-- The code before the hours from its tests, by early-of.
use mathlib.Core.Path.{refl, sym, ap, ◌∙◌}
use mathlib.Core.Bool.{true, false}
use borrow.Author.Tests.{eq-eqb, ne_eqb}
use lib.ListN.{length}
use Rattle.counts.specs.Refused.{number, code_of}
use Rattle.counts.proofs.RefusedLaws.{refuses, err-on}
use Rattle.schedule.specs.Hours.{plan_fits}
use Rattle.audits.specs.Moments.{moment_of}
use Rattle.audits.proofs.AuditLaws.{early-of, card-refused, plan-checked}
use Rattle.audits.proofs.early.Goals as goal

pub returns-then-not-fits-clause-code : goal.returns-then-not-fits-clause-code
returns-then-not-fits-clause-code c =
    early-of c.args.master.now c.args.card.now c.args.message.now c.args.plan.now (moment_of c.args.time) (sym c.fits.ensures ∙ c.if-not-fits.true) refl refl

pub returns-then-not-lent_fits-clause-code : goal.returns-then-not-lent_fits-clause-code
returns-then-not-lent_fits-clause-code c =
    let h = sym c.lent_fits.ensures ∙ c.if-not-lent_fits.true in
    early-of c.args.master.now c.args.card.now c.args.message.now c.args.plan.now (moment_of c.args.time) {b₂ = false} (sym c.fits.ensures ∙ c.if-not-fits.false) (rw h) refl

pub returns-in_default-clause-code : goal.returns-in_default-clause-code
returns-in_default-clause-code c =
    let h = sym c.lent_fits.ensures ∙ c.if-not-lent_fits.false in
    early-of c.args.master.now c.args.card.now c.args.message.now c.args.plan.now (moment_of c.args.time) {b₂ = false} (sym c.fits.ensures ∙ c.if-not-fits.false)
    (rw (h, ne_eqb (length c.args.plan.now) 28 c.in_default.ensures.1)) refl

pub returns-in_err-check_card-clause-code : goal.returns-in_err-check_card-clause-code
returns-in_err-check_card-clause-code c =
    let h = sym c.lent_fits.ensures ∙ c.if-not-lent_fits.false in
    let e = c.in_err-check_card.field-0.0 in
    ap code_of (err-on _ e c.from_residual.ensures)
    ∙ early-of c.args.master.now c.args.card.now c.args.message.now c.args.plan.now (moment_of c.args.time) {b₂ = true} (sym c.fits.ensures ∙ c.if-not-fits.false)
    (rw (h, eq-eqb (length c.args.plan.now) 28 c.in-Ok.ensures.1.long))
    (card-refused c.args.master.now c.args.card.now c.args.message.now c.args.plan.now (moment_of c.args.time) (number e) c.in_err-check_card.ensures (refuses e))

pub returns-then-not-plan_fits-clause-code : goal.returns-then-not-plan_fits-clause-code
returns-then-not-plan_fits-clause-code c =
    let h = sym c.lent_fits.ensures ∙ c.if-not-lent_fits.false in
    early-of c.args.master.now c.args.card.now c.args.message.now c.args.plan.now (moment_of c.args.time) {b₂ = true} (sym c.fits.ensures ∙ c.if-not-fits.false)
    (rw (h, eq-eqb (length c.args.plan.now) 28 c.in-Ok.ensures.1.long))
    (plan-checked c.args.master.now c.args.card.now c.args.message.now c.args.plan.now (moment_of c.args.time) (sym c.in_ok-check_card.ensures)
    (ap plan_fits (sym c.in-Ok.ensures.1.same) ∙ sym c.plan_fits.ensures ∙ c.if-not-plan_fits.true))

pub returns-clause-code : goal.returns-clause-code
returns-clause-code c =
    let h = sym c.lent_fits.ensures ∙ c.if-not-lent_fits.false in
    early-of c.args.master.now c.args.card.now c.args.message.now c.args.plan.now (moment_of c.args.time) {b₂ = true} (sym c.fits.ensures ∙ c.if-not-fits.false)
    (rw (h, eq-eqb (length c.args.plan.now) 28 c.in-Ok.ensures.1.long))
    (plan-checked c.args.master.now c.args.card.now c.args.message.now c.args.plan.now (moment_of c.args.time) (sym c.in_ok-check_card.ensures)
    (ap plan_fits (sym c.in-Ok.ensures.1.same) ∙ sym c.plan_fits.ensures ∙ c.if-not-plan_fits.false))
