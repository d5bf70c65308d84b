-- `poly1305::Acc::mul` meets its contract: `columns` of `Ring`.
-- Assumes nothing.
use mathlib.Core.Path.{ap, ◌∙◌}
use Prim.Native.Nat.{ℕ, ◌%◌, ◌^◌}
use Rattle.poly1305.specs.Poly1305.{prime}
use Rattle.poly1305.proofs.Ring.{cong5, columns}
use Rattle.poly1305.proofs.Acc.mul.Goals as goal

pub returns : goal.returns
returns c = record {
  small = c.carry.ensures.small;
  same =
      c.carry.ensures.same
      ∙ ap (λ (x : ℕ). x % prime)
      (cong5 (2 ^ 26) _ _ _ _ _ _ _ _ _ _ c.dot-d0.ensures.0 c.dot-d1.ensures.0
      c.dot-d2.ensures.0 c.dot-d3.ensures.0 c.dot-d4.ensures.0)
      ∙ columns _ _ _ _ _ _ _ _ _ _;
}
