-- No mark, by mark-none, or the byte after the old block, by mark-byte.
use native.Mathlib.Omega.{arith}
use mathlib.Core.Path.{sym, ◌∙◌}
use Rattle.batches.proofs.ItemLaws.{item-long, item_room, mark-none, mark-byte}
use Rattle.batches.proofs.Items.mark.Goals as goal

pub returns-then-marks_in-eq0 : goal.returns-then-marks_in-eq0
returns-then-marks_in-eq0 c =
    let a = c.args.self in
    mark-none a.version a.size c.args.e a.bytes.now _ (sym c.marks_in.ensures.0 ∙ c.if-marks_in-eq0.true)

pub bounds-self-a : goal.bounds-self-a
bounds-self-a c =
    let a = c.args.self in
    omega (arith, item-long a.version a.size, item_room c.args.e a.count a.version a.size _ c.requires a.whole)

pub returns : goal.returns
returns c =
    let a = c.args.self in
    mark-byte a.version a.size c.args.e _ a.bytes.now c.at-a.ensures (λ z. c.if-marks_in-eq0.false (c.marks_in.ensures.0 ∙ z))
    (omega (arith, item_room c.args.e a.count a.version a.size _ c.requires a.whole))
