-- The list of checks from its tests, by refused, other-master, other-head and drawn.
use mathlib.Core.Path.{sym, ap, ◌∙◌}
use borrow.Author.Tests.{ne_eqb}
use lib.ListN.{length}
use Rattle.counts.specs.Refused.{number, code_of}
use Rattle.counts.proofs.RefusedLaws.{refuses, err-on}
use Rattle.pools.proofs.PoolLaws.{refused, other-master, other-head, drawn}
use Rattle.pools.proofs.lent.Goals as goal

pub returns-in_err-check_cut-clause-code : goal.returns-in_err-check_cut-clause-code
returns-in_err-check_cut-clause-code c =
    let e = c.in_err-check_cut.field-0.0 in
    ap code_of (err-on _ e c.from_residual.ensures) ∙ refused c.args.master.now c.args.bytes.now (number e) c.in_err-check_cut.ensures (refuses e)

pub returns-in_default-clause-code : goal.returns-in_default-clause-code
returns-in_default-clause-code c =
    other-master c.args.master.now c.args.bytes.now (sym c.in_ok-check_cut.ensures) (ne_eqb (length c.args.master.now) 32 c.in_default.ensures.1)

pub returns-then-not-heads_fit-clause-code : goal.returns-then-not-heads_fit-clause-code
returns-then-not-heads_fit-clause-code c =
    other-head c.args.master.now c.args.bytes.now (sym c.in_ok-check_cut.ensures) c.in-Ok.ensures.1.long (sym c.heads_fit.ensures ∙ c.if-not-heads_fit.true)

pub returns-in_err-check_drawn-clause-code : goal.returns-in_err-check_drawn-clause-code
returns-in_err-check_drawn-clause-code c =
    let e = c.in_err-check_drawn.field-0.0 in
    ap code_of (err-on _ e c.from_residual-in_err-check_drawn.ensures) ∙ c.in_err-check_drawn.ensures
    ∙ drawn c.args.master.now c.args.bytes.now (sym c.in_ok-check_cut.ensures) c.in-Ok.ensures.1.long (sym c.heads_fit.ensures ∙ c.if-not-heads_fit.false)

pub returns-clause-code : goal.returns-clause-code
returns-clause-code c =
    c.in_ok-check_drawn.ensures
    ∙ drawn c.args.master.now c.args.bytes.now (sym c.in_ok-check_cut.ensures) c.in-Ok.ensures.1.long (sym c.heads_fit.ensures ∙ c.if-not-heads_fit.false)
