-- The tests are those of card_sized.
use mathlib.Core.Path.{refl}
use Rattle.scheme.specs.Records.{card_sized}
use Rattle.cards.proofs.sized.Goals as goal

pub returns : goal.returns
unfolding card_sized
returns c = refl
