-- The code of what is left stays, card by card, by fault-next.
use borrow.Author.Tests.{eqb-true, eqb-false}
use Rattle.std.proofs.Common.{arith, sym, ap, ◌∙◌, ◌+◌}
use Rattle.scheme.specs.Pools.{cut_fault}
use Rattle.pools.proofs.CutLaws.{fault-end, fault-short, fault-field, fault-rest, fault-next}
use Rattle.pools.proofs.check_cut.Goals as goal

pub returns-then-rest-lt2 : goal.returns-then-rest-lt2
returns-then-rest-lt2 c =
    fault-short c.loop-rest.rest.now (omega (arith, eqb-false _ 0 (sym c.loop-rest-test.ensures))) c.if-rest-lt2.true ∙ sym c.loop-rest.invariant

pub returns-then-not-known : goal.returns-then-not-known
returns-then-not-known c =
    fault-field c.loop-rest.rest.now (omega arith) _ (ap (λ n. 2 + n) c.be.ensures.0) (omega arith) c.if-not-known.true ∙ sym c.loop-rest.invariant

pub returns-then-rest-long : goal.returns-then-rest-long
returns-then-rest-long c =
    fault-rest c.loop-rest.rest.now (omega arith) _ (ap (λ n. 2 + n) c.be.ensures.0) (omega arith) c.if-not-known.false c.if-rest-long.true ∙ sym c.loop-rest.invariant

pub loop-rest-preserved : goal.loop-rest-preserved
loop-rest-preserved c =
    c.loop-rest.invariant
    ∙ fault-next c.loop-rest.rest.now (omega arith) _ (ap (λ n. 2 + n) c.be.ensures.0) (omega arith) c.if-not-known.false c.if-rest-long.false
    ∙ ap cut_fault (sym c.split_at.ensures.back)

pub returns : goal.returns
returns c = fault-end c.loop-rest.rest.now (eqb-true _ 0 (sym c.loop-rest-test.ensures)) ∙ sym c.loop-rest.invariant
