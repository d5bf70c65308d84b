-- The fields but three are the card's.
use mathlib.Core.Path.{refl}
use Rattle.cards.specs.Fields.{card_of}
use Rattle.cards.proofs.with_asks.Goals as goal

pub returns : goal.returns
unfolding card_of
returns c = refl
