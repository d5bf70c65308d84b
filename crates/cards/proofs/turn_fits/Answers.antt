-- The tests of next and open, by turn-none and turn_is.
use Rattle.cards.proofs.CardLaws.{turn-none, turn_is}
use Rattle.cards.proofs.turn_fits.Goals as goal

pub returns-then-next-lt1 : goal.returns-then-next-lt1
returns-then-next-lt1 c = turn-none c.args.tokens c.args.next _ c.if-next-lt1.true

pub returns : goal.returns
returns c = turn_is c.args.tokens c.args.next _ c.if-next-lt1.false
