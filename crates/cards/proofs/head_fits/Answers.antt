-- The tests are those of card_head, by head-is.
use Rattle.cards.proofs.CardLaws.{head-is}
use Rattle.cards.proofs.head_fits.Goals as goal

pub returns : goal.returns
returns c = head-is c.args.s.now c.version_in.ensures c.card_length-long.ensures.0 c.head_known-known.ensures
