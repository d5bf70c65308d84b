-- The code from its three tests, by sheet-code-is; where it is 0 the numbers are within their limits, by sheet-held.
use mathlib.Core.Path.{refl, sym, ◌∙◌}
use borrow.Author.Tests.{eq-eqb, ne_eqb, le-leb, lt-leb}
use lib.ListN.{length}
use Rattle.planning.proofs.CallLaws.{sheet-code-is, sheet-held}
use Rattle.planning.proofs.Numbers.planned.Goals as goal

pub returns-then-out-ne-SHEET-clause-code : goal.returns-then-out-ne-SHEET-clause-code
returns-then-out-ne-SHEET-clause-code c =
    let a = c.args.self in
    sheet-code-is a.block_bytes a.rows a.positions a.tokens a.blocks a.damaged c.args.out.now
    (ne_eqb (length c.args.out.now) 40 c.if-out-ne-SHEET.true) refl refl

pub returns-then-not-fit-clause-code : goal.returns-then-not-fit-clause-code
returns-then-not-fit-clause-code c =
    let a = c.args.self in
    sheet-code-is a.block_bytes a.rows a.positions a.tokens a.blocks a.damaged c.args.out.now
    (eq-eqb (length c.args.out.now) 40 c.if-out-ne-SHEET.false) (sym c.fit.ensures ∙ c.if-not-fit.true) refl

pub returns-then-self-clause-code : goal.returns-then-self-clause-code
returns-then-self-clause-code c =
    let a = c.args.self in
    sheet-code-is a.block_bytes a.rows a.positions a.tokens a.blocks a.damaged c.args.out.now
    (eq-eqb (length c.args.out.now) 40 c.if-out-ne-SHEET.false) (sym c.fit.ensures ∙ c.if-not-fit.false) (lt-leb a.damaged a.rows c.if-self.true)

pub returns-clause-code : goal.returns-clause-code
returns-clause-code c =
    let a = c.args.self in
    sheet-code-is a.block_bytes a.rows a.positions a.tokens a.blocks a.damaged c.args.out.now
    (eq-eqb (length c.args.out.now) 40 c.if-out-ne-SHEET.false) (sym c.fit.ensures ∙ c.if-not-fit.false) (le-leb a.damaged a.rows c.if-self.false)

pub invariant_of-result : goal.invariant_of-result
invariant_of-result c =
    let a = c.args.self in
    let code = sheet-code-is a.block_bytes a.rows a.positions a.tokens a.blocks a.damaged c.args.out.now
    (eq-eqb (length c.args.out.now) 40 c.if-out-ne-SHEET.false) (sym c.fit.ensures ∙ c.if-not-fit.false) (le-leb a.damaged a.rows c.if-self.false) in
    let held = sheet-held a.block_bytes a.rows a.positions a.tokens a.blocks a.damaged c.args.out.now (sym code) in
    record {
      some_row = held.shape.d1;
      few_rows = held.shape.dmost;
      few_positions = held.shape.rmost;
      positions_in_rows = held.shape.rd;
      few_tokens = held.t-most;
      few_blocks = held.n-most;
      damaged_in_rows = held.m_most;
    }
