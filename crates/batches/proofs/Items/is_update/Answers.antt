-- The kind is the item's first byte, by kind-read.
use native.Mathlib.Omega.{arith}
use Prim.Native.Nat.{ℕ}
use mathlib.Core.Path.{ap}
use lib.Dec.{eqb}
use Rattle.batches.proofs.ItemLaws.{item-long, item_room, kind-read}
use Rattle.batches.proofs.Items.is_update.Goals as goal

pub bounds-self-a : goal.bounds-self-a
bounds-self-a c =
    let a = c.args.self in
    omega (arith, item-long a.version a.size, item_room c.args.e a.count a.version a.size _ c.requires a.whole)

pub returns : goal.returns
returns c =
    let a = c.args.self in
    ap (λ (x : ℕ). eqb x 1) (kind-read a.version a.size c.args.e _ a.bytes.now c.at-a.ensures)
