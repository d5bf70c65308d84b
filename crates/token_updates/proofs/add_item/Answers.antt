-- The block's position is the one of its row, and its hashes come, by hashed-drawn.
use Rattle.tokens.specs.Keyed.{token_key}
use Rattle.token_updates.proofs.ItemLaws.{hashed-drawn}
use Rattle.token_updates.proofs.add_item.Goals as goal

pub returns-clause-by_index : goal.returns-clause-by_index
returns-clause-by_index c =
    let a = c.args in
    let b = a.several.now in
    λ k x place before.
    hashed-drawn b.changes b.bytes.now k (token_key a.z a.i.0) a.e a.j0 _ _ _ _ _ x _ _ _
    c.requires.several.1
    c.key_of-c.ensures
    c.number_of-m.ensures.0
    c.column_of-column.ensures.0
    c.index_of-index.ensures
    c.add_contents.ensures.1
    (c.hashes_of.ensures.0 a.e)
    place
    before
