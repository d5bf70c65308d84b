-- The search that is left finds what the whole one does, by bad-step and bad-found.
use native.Mathlib.Omega.{arith}
use mathlib.Core.Path.{sym, ◌∙◌}
use Rattle.scheme.proofs.laws.TableLaws.{bad-none, bad-step, bad-found}
use Rattle.standard.specs.Standard.{standard}
use Rattle.seals.proofs.first_bad.Goals as goal

pub loop-i-preserved : goal.loop-i-preserved
loop-i-preserved c =
    let l = c.loop-i in
    sym (bad-step standard c.args.key c.args.version c.args.counter c.args.tokens l.i c.args.table.now (omega arith)
    (sym c.opens.ensures ∙ c.if-not-opens.false))
    ∙ l.invariant

pub returns-then-not-opens-clause-found : goal.returns-then-not-opens-clause-found
returns-then-not-opens-clause-found c =
    let l = c.loop-i in
    sym (bad-found standard c.args.key c.args.version c.args.counter c.args.tokens l.i c.args.table.now (omega arith)
    (sym c.opens.ensures ∙ c.if-not-opens.true))
    ∙ l.invariant

pub returns-clause-found : goal.returns-clause-found
returns-clause-found c =
    sym (bad-none standard c.args.key c.args.version c.args.counter c.args.tokens c.loop-i.i c.args.table.now (omega arith)) ∙ c.loop-i.invariant
