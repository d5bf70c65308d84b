-- `poly1305::block` meets its contract: four words of the message, absorbed.
-- Assumes nothing.
use mathlib.Core.Path.{refl, ap, ◌∙◌}
use Prim.Native.Nat.{ℕ, ◌+◌, ◌*◌, ◌%◌, ◌^◌}
use Rattle.poly1305.specs.Poly1305.{prime}
use Rattle.poly1305.specs.Limbs.{value}
use Rattle.poly1305.proofs.Ring.{cong5}
use Rattle.poly1305.proofs.block.Goals as goal

pub returns : goal.returns
returns c =
    record {
      small = c.absorb.ensures.small;
      same = c.absorb.ensures.same ∙ ap (λ (x : ℕ). ((value c.args.h + x) * value c.args.r) % prime)
          (cong5 (2 ^ 32) _ _ _ _ _ _ _ _ _ _ c.word-t0.ensures.0 c.word-t1.ensures.0
          c.word-t2.ensures.0 c.word-t3.ensures.0 refl);
    }
