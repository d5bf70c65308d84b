-- What is left to ask stays, card by card, by every-first.
use borrow.Author.Tests.{eqb-true}
use Rattle.std.proofs.Common.{sym, ◌∙◌}
use Rattle.scheme.specs.Records.{card_head}
use Rattle.pools.proofs.CutLaws.{every-none, every-first}
use Rattle.pools.proofs.heads_fit.Goals as goal

pub returns-then-not-head_fits : goal.returns-then-not-head_fits
returns-then-not-head_fits c =
    let h = sym c.head_fits.ensures ∙ c.if-not-head_fits.true in
    sym (c.loop-rest.invariant.1 ∙ every-first card_head c.loop-rest.rest.now _ _ c.split_first.ensures.parts ∙ rw h)

pub loop-rest-preserved : goal.loop-rest-preserved
loop-rest-preserved c =
    let h = sym c.head_fits.ensures ∙ c.if-not-head_fits.false in
    (c.split_first.ensures.whole, c.loop-rest.invariant.1 ∙ every-first card_head c.loop-rest.rest.now _ _ c.split_first.ensures.parts ∙ rw h)

pub returns : goal.returns
returns c = sym (c.loop-rest.invariant.1 ∙ every-none card_head c.loop-rest.rest.now (eqb-true _ 0 (sym c.loop-rest-test.ensures)))
