-- `chacha20::state` meets its contract: sixteen words, by `state_is` of `BlockLaws`.
-- Assumes nothing.
use Rattle.std.proofs.Common.{rules}
use Rattle.chacha20.proofs.BlockLaws.{state_is}
use Rattle.chacha20.proofs.state.Goals as goal

pub returns : goal.returns
returns c = state_is _ _ _ (search rules)
