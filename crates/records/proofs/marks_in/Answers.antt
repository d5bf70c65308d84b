-- The one test is that of marks_in.
use native.Mathlib.Omega.{arith}
use borrow.Author.Tests.{eq-eqb, ne_eqb}
use Rattle.scheme.specs.Marks.{marks_in}
use Rattle.records.proofs.marks_in.Goals as goal

pub returns-then-version-eq1 : goal.returns-then-version-eq1
unfolding marks_in
returns-then-version-eq1 c = (rw (eq-eqb c.args.version 1 c.if-version-eq1.true), omega arith)

pub returns : goal.returns
unfolding marks_in
returns c = (rw (ne_eqb c.args.version 1 c.if-version-eq1.false), omega arith)
