-- The number is in the four bytes after the kind, by number_read.
use native.Mathlib.Omega.{arith}
use mathlib.Core.Path.{◌∙◌}
use Rattle.batches.proofs.ItemLaws.{item-long, item_room, number_read}
use Rattle.batches.proofs.Items.number.Goals as goal

pub be-requires : goal.be-requires
be-requires c =
    let a = c.args.self in
    omega (arith, item-long a.version a.size, item_room c.args.e a.count a.version a.size _ c.requires a.whole)

pub returns : goal.returns
returns c =
    let a = c.args.self in
    c.be.ensures.0 ∙ number_read a.version a.size c.args.e _ a.bytes.now c.at-a.ensures
