-- `chacha20::block` meets its contract: the nonce's words, the block's words, their bytes, by `block-is` of `BlockLaws`.
-- Assumes nothing.
use Rattle.chacha20.proofs.BlockLaws.{block-is}
use Rattle.chacha20.proofs.block.Goals as goal

pub returns : goal.returns
returns c =
    block-is _ _ _ _ _ _ _ _
    c.le-n0.ensures.0 c.le-n1.ensures.0 c.le-n2.ensures.0
    c.block_words.ensures c.serial.ensures
