-- `poly1305::clamp` meets its contract: the words as limbs.
-- Assumes nothing.
use mathlib.Core.Path.{sym}
use native.Mathlib.Omega.{arith}
use Rattle.poly1305.proofs.Words.{limbs}
use Rattle.poly1305.proofs.clamp.Goals as goal

pub returns : goal.returns
returns c = record { small = omega arith; same = sym (limbs _ _ _ _ 0) }
