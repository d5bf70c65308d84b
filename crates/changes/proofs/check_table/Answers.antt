-- The code of the table, by fault-of.
use native.Mathlib.Omega.{arith}
use borrow.Author.Tests.{eq-eqb, ne_eqb}
use mathlib.Core.Path.{refl}
use Rattle.changes.proofs.LateLaws.{fault-of}
use Rattle.changes.proofs.check_table.Goals as goal

pub returns-in-Some : goal.returns-in-Some
returns-in-Some c =
    let a = c.args in
    let i = c.in-Some.bad.0 in
    fault-of a.keys.k a.c a.table.now i c.in-Some.ensures.found (ne_eqb i 0 (λ e. omega (arith, c.in-Some.ensures.from_one.0)))

pub returns-in-None : goal.returns-in-None
returns-in-None c =
    let a = c.args in
    fault-of a.keys.k a.c a.table.now 0 c.in-None.ensures.found (eq-eqb 0 0 refl)
