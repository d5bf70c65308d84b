-- The key, the index and the mark stand before the block, by hash-said.
use borrow.Author.Rules.{rules}
use mathlib.Core.Path.{◌≡◌, ap, ◌∙◌}
use lib.ListN.{length}
use Rattle.octets.specs.Octets.{xors}
use Rattle.scheme.specs.Marks.{marks_in}
use Rattle.hash_queue.specs.Waiting.{held}
use Rattle.block_changes.proofs.ContentLaws.{hash-said}
use Rattle.block_changes.proofs.several.Several.add_block.Goals.{After-head_of-head}
use Rattle.block_changes.proofs.several.Several.add_block.Goals as goal

key-long : (c : After-head_of-head) → length c.args.c ≡ 32
key-long c = search rules

pub returns : goal.returns
returns c =
    let a = c.args in
    let b = a.self.now in (
      c.add.ensures.0,
      (rw b.cut.2 at c.add.ensures.1)
          ∙ ap (xors (held a.queue.now b.kind.form b.bytes.now))
          (hash-said a.c c.head_of-head.result a.index a.mark (marks_in b.changes.version) b.kind.head a.a b.changes.size
          b.bytes.now (key-long (goal.at.returns c).After-head_of-head) c.head_of-head.ensures b.cut.0),
    )
