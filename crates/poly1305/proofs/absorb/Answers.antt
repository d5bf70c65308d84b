-- `poly1305::absorb` meets its contract: the words as limbs, and a sum limb by limb.
-- Assumes nothing.
use mathlib.Core.Path.{ap, ◌∙◌}
use Prim.Native.Nat.{ℕ, ◌*◌, ◌%◌}
use Rattle.poly1305.specs.Poly1305.{prime}
use Rattle.poly1305.specs.Limbs.{value}
use Rattle.poly1305.proofs.Words.{added}
use Rattle.poly1305.proofs.absorb.Goals as goal

pub returns : goal.returns
returns c = record {
  small = c.mul.ensures.small;
  same = c.mul.ensures.same ∙
      ap (λ (x : ℕ). (x * value c.args.r) % prime) (added _ _ _ _ _ _ _ _ _ _);
}
