-- The cards that are left, and those counted before them.
use Rattle.std.proofs.Common.{arith, sym, ap, ◌∙◌, length}
use borrow.Author.Tests.{eqb-true}
use Rattle.scheme.specs.Pools.{cut}
use Rattle.pools.proofs.CutLaws.{read-none, count-read, count-least}
use Rattle.pools.proofs.count_of.Goals as goal

pub overflow_add-count : goal.overflow_add-count
overflow_add-count c =
    omega (arith, ap length c.split_first.ensures.parts, c.loop-rest.invariant.1, c.ranges, count-least c.args.cards.bytes.now)

pub loop-rest-preserved : goal.loop-rest-preserved
loop-rest-preserved c = (c.split_first.ensures.whole, omega (arith, ap length c.split_first.ensures.parts, c.loop-rest.invariant.1))

pub returns : goal.returns
returns c = omega (arith, c.loop-rest.invariant.1, sym (count-read (cut c.loop-rest.rest.now)) ∙ ap length (read-none c.loop-rest.rest.now (eqb-true _ 0 (sym c.loop-rest-test.ensures))))
