-- The mark lies after the old block, by mark-read.
use native.Mathlib.Omega.{arith}
use Prim.Native.Nat.{ℕ, ◌+◌, ◌-◌}
use mathlib.Core.Path.{◌≡◌, ap, ◌∙◌}
use Rattle.octets.specs.Octets.{part}
use Rattle.scheme.specs.Marks.{marks_in, marks_fit}
use Rattle.batches.proofs.ItemLaws.{item-long, item_room, mark-read}
use Rattle.batches.proofs.Items.mark_fits.Goals as goal

pub slice_bounds-marks_fit-end : goal.slice_bounds-marks_fit-end
slice_bounds-marks_fit-end c =
    let a = c.args.self in
    omega (arith, c.marks_in.ensures.0, item-long a.version a.size, item_room c.args.e a.count a.version a.size _ c.requires a.whole)

pub returns : goal.returns
returns c =
    let a = c.args.self in
    let b = c.at.result + 5 + a.size in
    let long : b + c.marks_in.result - b ≡ marks_in a.version = omega (arith, c.marks_in.ensures.0) in
    c.marks_fit.ensures
    ∙ ap marks_fit (ap (λ (k : ℕ). part b k a.bytes.now) long ∙ mark-read a.version a.size c.args.e _ a.bytes.now c.at.ensures)
