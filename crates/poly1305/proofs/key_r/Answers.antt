-- `poly1305::key_r` meets its contract: the clamped words are the RFC's mask, by `clamped` of `Keys`.
-- Assumes nothing.
use mathlib.Core.Path.{refl, ap, ◌∙◌}
use Prim.Native.Nat.{ℕ, ◌*◌, ◌/◌, ◌%◌, ◌^◌}
use Rattle.std.proofs.Common.{rules}
use Rattle.poly1305.proofs.Ring.{cong5}
use Rattle.poly1305.proofs.Keys.{clamped}
use Rattle.poly1305.proofs.key_r.Goals as goal

pub returns : goal.returns
returns c =
    let k = c.args.key.now in
    record {
      small = c.clamp.ensures.small;
      same = c.clamp.ensures.same
          ∙ cong5 (2 ^ 32) _ _ _ _ _ _ _ _ _ _ (ap (λ (z : ℕ). z % 2 ^ 28) c.word.ensures.0) (ap (λ (z : ℕ). z % 2 ^ 28 / 4 * 4) c.word-2.ensures.0)
          (ap (λ (z : ℕ). z % 2 ^ 28 / 4 * 4) c.word-3.ensures.0) (ap (λ (z : ℕ). z % 2 ^ 28 / 4 * 4) c.word-4.ensures.0) refl
          ∙ clamped k (search rules) (rw c.word.ensures.0 at c.word.ensures.1) (rw c.word-2.ensures.0 at c.word-2.ensures.1) (rw c.word-3.ensures.0 at c.word-3.ensures.1) (rw c.word-4.ensures.0 at c.word-4.ensures.1);
    }
