-- `chacha20::quarter` meets its contract: its eight lines, by `quarter-is` of `BlockLaws`.
-- Assumes nothing.
use Rattle.std.proofs.Common.{refl}
use Rattle.chacha20.specs.ChaCha20.{◌⊞◌, rotl}
use Rattle.chacha20.proofs.BlockLaws.{quarter-is}
use Rattle.chacha20.proofs.quarter.Goals as goal

pub returns : goal.returns
unfolding ◌⊞◌ rotl
returns c =
    quarter-is _ _ _ _ _ _ _ _ _ _ _ _ refl c.rotate_left-d1.ensures refl c.rotate_left-b1.ensures
    refl c.rotate_left-d2.ensures refl c.rotate_left-b2.ensures
