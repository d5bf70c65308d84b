-- `chacha20::key_words` meets its contract: eight words, by `key-is` of `BlockLaws`.
-- Assumes nothing.
use Rattle.std.proofs.Common.{rules}
use Rattle.chacha20.proofs.BlockLaws.{key-is}
use Rattle.chacha20.proofs.key_words.Goals as goal

pub returns : goal.returns
returns c =
    key-is _ _ c.from_fn.ensures.items.long
    (search rules) (search rules) (search rules) (search rules) (search rules) (search rules) (search rules) (search rules)
