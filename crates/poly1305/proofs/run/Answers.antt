-- `poly1305::run` meets its contract: a turn is `step` of `Chunks`.
-- Assumes nothing.
use mathlib.Core.Path.{◌≡◌, refl, sym, ap, ◌∙◌}
use Prim.Native.Nat.{ℕ, ◌*◌}
use native.Mathlib.Numerals.{add-one}
use native.Mathlib.Omega.{arith}
use Rattle.poly1305.specs.Limbs.{value, block_at, runs}
use Rattle.poly1305.proofs.Chunks.{step}
use Rattle.poly1305.proofs.run.Goals as goal

pub loop-i-init : goal.loop-i-init
unfolding runs
loop-i-init c = record { small = c.requires.from_below; same = refl }

pub block-h-requires : goal.block-h-requires
block-h-requires c = record {
  h_below = c.loop-i.invariant.small;
  r_below = c.requires.r_below;
  block_in = omega arith;
  top_is_bit = c.requires.top_is_bit;
}

pub loop-i-preserved : goal.loop-i-preserved
loop-i-preserved c =
    let l = c.loop-i in
    let e : l.i * 16 ≡ 16 * l.i = omega arith in
    record {
      small = c.block-h.ensures.small;
      same = step (value c.args.from) (value l.h) (value c.block-h.result) (value c.args.r) c.args.s.now c.args.top l.i
          l.invariant.same (ap (λ (j : ℕ). block_at c.args.s.now j c.args.top) e) c.block-h.ensures.same
          ∙ ap (runs (value c.args.from) (value c.args.r) c.args.s.now c.args.top) (sym (add-one l.i));
    }
