-- The code of a judging from its tests, by judge-of.
use mathlib.Core.Path.{sym, ap, ◌∙◌}
use native.Mathlib.Omega.{arith}
use borrow.Author.Tests.{ne_eqb, lt-ltb, le-ltb}
use lib.ListN.{length}
use Rattle.counts.specs.Refused.{number, code_of}
use Rattle.counts.proofs.RefusedLaws.{refuses, err-on}
use Rattle.cards.proofs.FaultLaws.{card-read}
use Rattle.judging.proofs.JudgeLaws.{judge-short, judge-refused, judge-of}
use Rattle.judging.proofs.lent.Goals as goal

pub returns-in_default-clause-code : goal.returns-in_default-clause-code
returns-in_default-clause-code c = judge-short c.args.master.now c.args.card.now (ne_eqb (length c.args.master.now) 32 c.in_default.ensures.1)

pub returns-in_err-check_card-clause-code : goal.returns-in_err-check_card-clause-code
returns-in_err-check_card-clause-code c =
    let e = c.in_err-check_card.field-0.0 in
    ap code_of (err-on _ e c.from_residual.ensures)
    ∙ judge-refused c.args.master.now c.args.card.now (number e) c.in_err-check_card.ensures (omega (arith, c.in-Ok.ensures.1)) (refuses e)

pub read_card-c-requires : goal.read_card-c-requires
read_card-c-requires c = card-read c.args.card.now (sym c.in_ok-check_card.ensures)

pub returns-then-c-eq0-clause-code : goal.returns-then-c-eq0-clause-code
returns-then-c-eq0-clause-code c =
    judge-of c.args.master.now c.args.card.now c.read_card-c.result (omega (arith, c.in-Ok.ensures.1))
    (sym c.in_ok-check_card.ensures) c.read_card-c.ensures
    (le-ltb 0 c.read_card-c.result.open_token (omega arith))

pub returns-clause-code : goal.returns-clause-code
returns-clause-code c =
    judge-of c.args.master.now c.args.card.now c.read_card-c.result (omega (arith, c.in-Ok.ensures.1))
    (sym c.in_ok-check_card.ensures) c.read_card-c.ensures
    (lt-ltb 0 c.read_card-c.result.open_token (omega arith))
