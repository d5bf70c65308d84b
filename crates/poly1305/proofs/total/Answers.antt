-- `poly1305::total` meets its contract: the whole blocks by `from_start` of `Chunks`, the last block by `ended` of `Padding`.
-- Assumes nothing.
use mathlib.Core.Path.{◌≡◌, refl, ap, ◌∙◌}
use Prim.Native.Nat.{suc, ◌+◌, ◌/◌}
use native.Mathlib.Omega.{arith}
use lib.ListN.{length}
use Rattle.poly1305.specs.Poly1305.{accum}
use Rattle.poly1305.specs.Limbs.{value}
use Rattle.poly1305.proofs.Chunks.{from_start}
use Rattle.poly1305.proofs.Padding.{ended}
use Rattle.poly1305.proofs.total.Goals as goal

pub returns-then-n-at : goal.returns-then-n-at
returns-then-n-at c =
    let r = value c.args.r in
    let s = c.args.s.now in
    let k : length c.args.s.now / 16 ≡ (length c.args.s.now + 15) / 16 = omega arith in
    record {
      small = c.run-h.ensures.small;
      same = from_start _ r _ s c.start-zero.ensures.0 c.run-h.ensures.same ∙ ap (accum r s) k;
    }

pub returns : goal.returns
returns c =
    let run = c.run-h in
    let r = value c.args.r in
    let s = c.args.s.now in
    let k : suc (length c.args.s.now / 16) ≡ (length c.args.s.now + 15) / 16 = omega arith in
    record {
      small = c.run.ensures.small;
      same = c.run.ensures.same
          ∙ ended (value run.result) r s c.last-b.result _
          (from_start _ r _ s c.start-zero.ensures.0 run.ensures.same) refl
          c.last-b.ensures
          ∙ ap (accum r s) k;
    }
