-- Every field but the pending ones is the card's own.
use Rattle.scheme.specs.Changes.{dropped_card}
use Rattle.cards.specs.Fields.{card_of}
use Rattle.cards.proofs.dropped.Goals as goal

pub returns : goal.returns
unfolding card_of dropped_card
returns c = c.with_asks.ensures
