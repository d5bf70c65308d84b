-- The first unknown and the rest, by solve-none, rest-solved and solve-split.
use Rattle.std.proofs.Common.{arith, ◌∙◌}
use Rattle.cauchy.proofs.RowLaws.{solve-none, solve-split, rest-solved}
use Rattle.cauchy.proofs.+solve_for.Goals as goal

pub returns-in_default : goal.returns-in_default
returns-in_default t c = solve-none c.args.us.now c.args.vs.now c.args.s.now (omega arith) (omega arith)

pub returns : goal.returns
returns t c =
    rest-solved _ _ _ _ _ _ c.reduce.ensures c.solve_for.ensures c.unscale.ensures c.row_of.ensures c.product.ensures
    ∙ solve-split c.args.us.now c.args.vs.now c.args.s.now _ _ (omega (arith, c.in-Some.ensures.cases.1)) (omega arith) c.in-Some.ensures.cases.0
