-- The tests are those of card_fits, by card-fits-is.
use Rattle.cards.specs.Fields.{card_of}
use Rattle.cards.proofs.CardLaws.{card-fits-is}
use Rattle.cards.proofs.card_fits.Goals as goal

pub returns : goal.returns
unfolding card_of
returns c =
    card-fits-is (card_of c.args.c) c.shape_fits-shape.ensures c.token_fits-tokens.ensures c.blocks_fit-blocks.ensures
    c.turn_fits-turn.ensures c.asks_fit-asks.ensures
