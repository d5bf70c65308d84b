-- The key, the index's four bytes with the mark behind them, and the block are hashed one after the other, by hash-whole.
use Rattle.tokens.proofs.KeyLaws.{hash-whole}
use Rattle.tokens.proofs.block_hash.Goals as goal

pub returns : goal.returns
returns c =
    let a = c.args in
    hash-whole a.c a.content.mark.now a.content.block.now _ _ _ a.index a.content.lone c.put_be.ensures c.copy.ensures c.hash.ensures
