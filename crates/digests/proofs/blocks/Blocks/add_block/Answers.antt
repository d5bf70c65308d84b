-- What is hashed is the key, the index, the mark and the block, by hashed-at.
use borrow.Author.Rules.{rules}
use mathlib.Core.Path.{◌≡◌}
use lib.ListN.{length}
use Rattle.digests.proofs.TurnLaws.{hashed-at}
use Rattle.digests.proofs.blocks.Blocks.add_block.Goals.{After-index_of-index}
use Rattle.digests.proofs.blocks.Blocks.add_block.Goals as goal

key-long : (c : After-index_of-index) → length c.args.c ≡ 32
key-long c = search rules

pub returns : goal.returns
returns c =
    let a = c.args in
    let b = a.self.now in (
      c.add.ensures.0,
      hashed-at a.c c.head_of-head.result b.bytes.now b.marks.now _ _ b.span b.before a.row.0 a.j.0 a.column c.index_of-index.result
          c.place_of-e.result c.mark_of-mark.result b.kind.head (key-long (goal.at.returns c).After-index_of-index)
          c.index_of-index.ensures
          c.place_of-e.ensures.0
          c.mark_of-mark.ensures
          c.head_of-head.ensures
          b.cut.0
          (rw b.cut.1 at c.add.ensures.1),
    )
