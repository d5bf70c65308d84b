-- The ways out of the checks, by check-of.
use mathlib.Core.Path.{refl, sym, ap, ◌∙◌}
use Rattle.scheme.specs.Checks.{first}
use Rattle.scheme.specs.Records.{Card}
use Rattle.scheme.specs.Changes.{late_checks}
use Rattle.scheme.proofs.laws.CheckLaws.{refusal-kept}
use Rattle.counts.specs.Refused.{number}
use Rattle.counts.proofs.RefusedLaws.{refuses, passed-on}
use Rattle.cards.proofs.FaultLaws.{card-read, card-held}
use Rattle.changes.specs.Kinds.{change_of}
use Rattle.changes.proofs.CheckLaws.{check-of}
use Rattle.changes.proofs.check.Goals as goal

pub returns-then-not-lent : goal.returns-then-not-lent
returns-then-not-lent c =
    let a = c.args in
    let change = change_of a.change in
    check-of a.master.now a.card.now a.table.now change a.totals.now (sym c.lent_fits-lent.ensures ∙ c.if-not-lent.true) refl refl

pub returns-in_err-check_card : goal.returns-in_err-check_card
returns-in_err-check_card c =
    let a = c.args in
    let change = change_of a.change in
    let refused = c.in_err-check_card in
    passed-on _ _ c.from_residual.ensures
    ∙ refusal-kept (number refused.field-0.0) _ (number refused.field-0.0) _ refl (refuses refused.field-0.0)
    ∙ check-of a.master.now a.card.now a.table.now change a.totals.now (sym c.lent_fits-lent.ensures ∙ c.if-not-lent.false) (sym refused.ensures) refl

pub read_card-c-requires : goal.read_card-c-requires
read_card-c-requires c = card-read c.args.card.now (sym c.in_ok-check_card.ensures)

pub late-requires : goal.late-requires
late-requires c =
    let l = card-held c.args.card.now _ c.read_card-c.ensures (sym c.in_ok-check_card.ensures) in
    (l.tmost, l.shape.B1, l.shape.Bmost, l.nmost)

pub returns : goal.returns
returns c =
    let a = c.args in
    let change = change_of a.change in
    check-of a.master.now a.card.now a.table.now change a.totals.now (sym c.lent_fits-lent.ensures ∙ c.if-not-lent.false) (sym c.in_ok-check_card.ensures)
    (sym (c.late.ensures ∙ ap (λ (x : Card). first 0 (late_checks x a.table.now change)) c.read_card-c.ensures))
