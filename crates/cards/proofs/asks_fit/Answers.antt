-- The tests are those of asks_fit, by asks-fit-is.
use Rattle.cards.specs.Fields.{card_of}
use Rattle.cards.proofs.CardLaws.{asks-fit-is}
use Rattle.cards.proofs.asks_fit.Goals as goal

pub returns : goal.returns
unfolding card_of
returns c = asks-fit-is (card_of c.args.c) c.within-issued.ensures c.within-kept.ensures
