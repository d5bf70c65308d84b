-- `chacha20::block_words` meets its contract: the state, ten double rounds and the sums, by `words-is` of `BlockLaws`.
-- Assumes nothing.
use Rattle.chacha20.proofs.BlockLaws.{words-is}
use Rattle.chacha20.proofs.block_words.Goals as goal

pub returns : goal.returns
returns c = words-is _ _ _ _ _ _ c.state-s.ensures c.doubles-v.ensures c.sums.ensures
