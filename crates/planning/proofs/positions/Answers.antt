-- The ways out, by asked-out, many-out and given_out.
use borrow.Author.Rules.{rules}
use native.Mathlib.Omega.{arith}
use mathlib.Core.Path.{sym, ◌∙◌}
use Rattle.planning.proofs.PositionLaws.{asked-out, many-out, given_out}
use Rattle.planning.proofs.positions.Goals as goal

pub returns-then-not-asked_fits-clause-value : goal.returns-then-not-asked_fits-clause-value
returns-then-not-asked_fits-clause-value c =
    let a = c.args in
    asked-out a.positions a.planned a.present (sym c.asked_fits.ensures ∙ c.if-not-asked_fits.true)

pub returns-then-given-gt-MOST_POSITIONS-clause-value : goal.returns-then-given-gt-MOST_POSITIONS-clause-value
returns-then-given-gt-MOST_POSITIONS-clause-value c =
    let a = c.args in
    many-out a.positions a.planned a.present _
    (sym c.asked_fits.ensures ∙ c.if-not-asked_fits.false) (search rules) c.if-given-gt-MOST_POSITIONS.true

pub returns-clause-value : goal.returns-clause-value
returns-clause-value c =
    let a = c.args in
    given_out a.positions a.planned a.present _
    (sym c.asked_fits.ensures ∙ c.if-not-asked_fits.false) (search rules) (omega arith)
