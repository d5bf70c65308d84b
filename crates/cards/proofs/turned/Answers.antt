-- The fields but two are the card's.
use mathlib.Core.Path.{refl}
use Rattle.scheme.specs.Calls.{turned_card}
use Rattle.cards.specs.Fields.{card_of}
use Rattle.cards.proofs.turned.Goals as goal

pub returns : goal.returns
unfolding card_of turned_card
returns c = refl
