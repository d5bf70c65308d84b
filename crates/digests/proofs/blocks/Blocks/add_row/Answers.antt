-- After each column the queue is what it was with the xor of that column's hash and all newer ones (`row_from`), by column-turn.
use borrow.Author.Rules.{rules}
use native.Mathlib.Omega.{arith}
use Prim.Native.Nat.{◌+◌, ◌-◌, ◌≤◌, ◌<◌}
use Rattle.scheme.specs.Tokens.{columns_of}
use Rattle.hash_queue.proofs.WaitingLaws.{length-held}
use Rattle.digests.proofs.BlockLaws.{located}
use Rattle.digests.proofs.TurnLaws.{row-none, column-turn}
use Rattle.digests.proofs.blocks.Blocks.add_row.Goals as goal

pub loop-q-init : goal.loop-q-init
loop-q-init c =
    let a = c.args in
    let b = a.self.now in (
      omega (arith, c.columns_of-newest.ensures, c.requires.4),
      c.requires.0,
      row-none a.c b.span b.before a.row.0 a.j.0 b.bytes.now b.marks.now b.lies b.few c.requires.1 _ _ c.columns_of-newest.ensures
          (length-held a.queue.now.places b.kind.form b.bytes.now a.queue.now.sum a.queue.now.at c.requires.0.long),
    )

pub add_block-requires : goal.add_block-requires
add_block-requires c =
    let l = c.loop-q in
    let a = c.args in
    let b = a.self.now in
    let older : columns_of b.span.rows b.before a.row.0 ≤ l.q - 1 = omega arith in
    let there : l.q - 1 < columns_of b.span.rows (b.before + b.span.count) a.row.0 = omega arith in (
      l.invariant.1,
      located b.span b.before a.row.0 _ b.bytes.now b.marks.now b.lies b.few c.requires.1 older there,
      c.requires.2,
    )

pub loop-q-preserved : goal.loop-q-preserved
loop-q-preserved c =
    let l = c.loop-q in
    let a = c.args in
    let b = a.self.now in (
      omega arith,
      c.add_block.ensures.0,
      column-turn a.c b.span b.before a.row.0 a.j.0 b.bytes.now b.marks.now b.lies b.few c.requires.1 l.q _ _ _ (omega arith) (omega arith) l.invariant.2 c.add_block.ensures.1,
    )
