-- What version 3 tells, and what the others read as, by cond-three and untold.
use native.Mathlib.Omega.{arith}
use mathlib.Core.Path.{◌∙◌}
use Rattle.cards.proofs.CardLaws.{cond-three, untold}
use Rattle.cards.proofs.read_asks.Goals as goal

pub be-requires : goal.be-requires
be-requires c = omega (arith, c.requires c.if-version-eq3.true)

pub be-requires-then-version-eq3 : goal.be-requires-then-version-eq3
be-requires-then-version-eq3 c = omega (arith, c.requires c.if-version-eq3.true)

pub be-requires-then-version-eq3-2 : goal.be-requires-then-version-eq3-2
be-requires-then-version-eq3-2 c = omega (arith, c.requires c.if-version-eq3.true)

pub returns-then-version-eq3 : goal.returns-then-version-eq3
returns-then-version-eq3 c =
    let a = c.args in
    let three = c.if-version-eq3.true in record {
      last_value = c.be.ensures.0 ∙ cond-three a.version _ a.counter three;
      pending_value = (c.be-then-version-eq3.ensures.0 ∙ cond-three a.version _ 0 three, c.be-then-version-eq3-2.ensures.0 ∙ cond-three a.version _ 0 three);
    }

pub returns : goal.returns
returns c =
    let a = c.args in record {
      last_value = untold a.version _ a.counter c.if-version-eq3.false;
      pending_value = (untold a.version _ 0 c.if-version-eq3.false, untold a.version _ 0 c.if-version-eq3.false);
    }
