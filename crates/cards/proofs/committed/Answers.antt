-- The pending counter and count stand.
use Rattle.scheme.specs.Changes.{committed_card}
use Rattle.cards.specs.Fields.{card_of}
use Rattle.cards.proofs.committed.Goals as goal

pub returns : goal.returns
unfolding card_of committed_card
returns c = c.with_asks.ensures
