-- The counter behind the last issued, which is the pending one.
use Rattle.scheme.specs.Changes.{asked_card}
use Rattle.cards.specs.Fields.{card_of}
use Rattle.cards.proofs.asked.Goals as goal

pub returns : goal.returns
unfolding card_of asked_card
returns c = c.with_asks.ensures
