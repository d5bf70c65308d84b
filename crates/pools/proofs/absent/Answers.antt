-- What is left to ask stays, card by card.
use borrow.Author.Tests.{eqb-true}
use Rattle.std.proofs.Common.{sym, ap, ◌∙◌}
use Rattle.scheme.specs.Records.{read_card}
use Rattle.scheme.specs.Pools as P
use Rattle.pools.proofs.CutLaws.{read-none, read-first}
use Rattle.pools.proofs.absent.Goals as goal

pub returns-then-same : goal.returns-then-same
unfolding P.absent read_card
returns-then-same c =
    let h = sym c.same.ensures ∙ c.if-same.true in
    sym (c.loop-left.invariant.1 ∙ ap (P.absent c.args.id) (read-first _ _ _ c.split_first.ensures.parts) ∙ rw h)

pub loop-left-preserved : goal.loop-left-preserved
unfolding P.absent read_card
loop-left-preserved c =
    let h = sym c.same.ensures ∙ c.if-same.false in
    (c.split_first.ensures.whole, c.loop-left.invariant.1 ∙ ap (P.absent c.args.id) (read-first _ _ _ c.split_first.ensures.parts) ∙ rw h)

pub returns : goal.returns
unfolding P.absent
returns c = sym (c.loop-left.invariant.1 ∙ ap (P.absent c.args.id) (read-none c.loop-left.left.now (eqb-true _ 0 (sym c.loop-left-test.ensures))))
