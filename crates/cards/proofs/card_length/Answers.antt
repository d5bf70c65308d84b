-- What the length field says, by length_three and length-other.
use native.Mathlib.Omega.{arith}
use mathlib.Core.Path.{sym}
use Rattle.cards.proofs.CardLaws.{length_three, length-other}
use Rattle.cards.proofs.card_length.Goals as goal

pub returns-then-version-eq3 : goal.returns-then-version-eq3
returns-then-version-eq3 c = (sym (length_three c.args.version c.if-version-eq3.true), omega arith)

pub returns : goal.returns
returns c = (sym (length-other c.args.version c.if-version-eq3.false), omega arith)
