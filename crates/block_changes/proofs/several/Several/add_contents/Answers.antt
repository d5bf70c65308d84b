-- The items of a batch are add_correction's; an added block by added-mixed.
use native.Mathlib.Omega.{arith}
use mathlib.Core.Path.{refl, ◌∙◌}
use Rattle.hash_queue.specs.Waiting.{held}
use Rattle.batches.proofs.ItemLaws.{item-within}
use Rattle.block_changes.proofs.ContentLaws.{piece-few, added-mixed}
use Rattle.block_changes.proofs.several.Several.add_contents.Goals as goal

pub overflow_mul-a : goal.overflow_mul-a
overflow_mul-a c =
    let a = c.args in
    let b = a.self.now in
    omega (arith, piece-few a.e b.changes.count b.changes.size c.requires.1 c.args.self.now.known.few c.args.self.now.known.small)

pub add_block-requires : goal.add_block-requires
add_block-requires c =
    let a = c.args in
    let b = a.self.now in
    (c.requires.0, omega (arith, item-within a.e b.changes.count b.changes.size c.requires.1, (c.args.self.now.known.added c.if-self.false).whole))

pub returns : goal.returns
returns c =
    let a = c.args in
    let b = a.self.now in (
      c.add_block.ensures.0,
      c.add_block.ensures.1
          ∙ added-mixed b.changes b.bytes.now a.c (held a.queue.now b.kind.form b.bytes.now) a.index a.e _ c.if-self.false
          (c.args.self.now.known.added c.if-self.false).fresh refl,
    )
