-- `chacha20::sums` meets its contract: each word is a sum, by `sums-is` of `BlockLaws`.
-- Assumes nothing.
use Rattle.std.proofs.Common.{rules}
use Rattle.chacha20.specs.ChaCha20.{◌⊞◌}
use Rattle.chacha20.proofs.BlockLaws.{sums-is}
use Rattle.chacha20.proofs.sums.Goals as goal

pub returns : goal.returns
unfolding ◌⊞◌
returns c = sums-is _ _ _ c.from_fn.ensures.items.long (λ i h. search rules)
