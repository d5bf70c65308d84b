-- No mark so far was above 1 and the rest fit, by fit-again.
use borrow.Author.Rules.{rules}
use Rattle.records.proofs.MarkLaws.{fit_none, fit-again, fit-done}
use Rattle.records.proofs.marks_fit.Goals as goal

pub loop-mark-init : goal.loop-mark-init
loop-mark-init c = fit_none _

pub loop-mark-preserved : goal.loop-mark-preserved
loop-mark-preserved c =
    let l = c.loop-mark in
    fit-again _ _ l.high l.mark-index (search rules) l.invariant

pub returns : goal.returns
returns c = fit-done _ _ c.loop-mark.high c.loop-mark.mark-index (search rules) c.loop-mark.invariant
