-- What is left to ask stays, card by card.
use borrow.Author.Tests.{eqb-true}
use Rattle.std.proofs.Common.{sym, ap, ◌∙◌}
use Rattle.scheme.specs.Records.{read_card}
use Rattle.scheme.specs.Pools as P
use Rattle.pools.proofs.CutLaws.{read-none, read-first}
use Rattle.pools.proofs.distinct.Goals as goal

pub returns-then-not-absent : goal.returns-then-not-absent
unfolding P.distinct read_card
returns-then-not-absent c =
    let h = sym (c.absent.ensures ∙ ap (λ i. P.absent i (P.read_all (P.cut c.split_first.result.1.now))) c.bytes.ensures) ∙ c.if-not-absent.true in
    sym (c.loop-rest.invariant.1 ∙ ap P.distinct (read-first _ _ _ c.split_first.ensures.parts) ∙ rw h)

pub loop-rest-preserved : goal.loop-rest-preserved
unfolding P.distinct read_card
loop-rest-preserved c =
    let h = sym (c.absent.ensures ∙ ap (λ i. P.absent i (P.read_all (P.cut c.split_first.result.1.now))) c.bytes.ensures) ∙ c.if-not-absent.false in
    (c.split_first.ensures.whole, c.loop-rest.invariant.1 ∙ ap P.distinct (read-first _ _ _ c.split_first.ensures.parts) ∙ rw h)

pub returns : goal.returns
unfolding P.distinct
returns c = sym (c.loop-rest.invariant.1 ∙ ap P.distinct (read-none c.loop-rest.rest.now (eqb-true _ 0 (sym c.loop-rest-test.ensures))))
