-- An item's size as its definition has it.
use native.Mathlib.Omega.{arith}
use Rattle.batches.proofs.ItemLaws.{item-long}
use Rattle.batches.proofs.item_bytes.Goals as goal

pub returns : goal.returns
returns c =
    let a = c.args in
    (omega (arith, c.marks_in.ensures.0, item-long a.version a.size), omega arith)
