-- The power at the sum of the logarithms, by product-from; 0 apart.
use mathlib.Core.Path.{◌≡◌, sym, ap, ◌∙◌}
use Prim.Native.Nat.{ℕ}
use native.Mathlib.Omega.{arith}
use Rattle.gf256.specs.Field.{times}
use Rattle.gf256.proofs.FieldLaws.{product-from, times_zero, zero-times}
use Rattle.gf256.proofs.Field.product.Goals as goal

pub returns-then-a-eq0 : goal.returns-then-a-eq0
returns-then-a-eq0 c =
    let e : c.args.a ≡ 0 = omega arith in
    sym (ap (λ (z : ℕ). times z c.args.b) e ∙ zero-times c.args.b)

pub returns-then-b-eq0 : goal.returns-then-b-eq0
returns-then-b-eq0 c =
    let e : c.args.b ≡ 0 = omega arith in
    sym (ap (times c.args.a) e ∙ times_zero c.args.a)

pub returns : goal.returns
returns c =
    product-from c.log_of-i.result c.log_of-j.result c.args.a c.args.b
    c.args.self.now.raised c.log_of-i.ensures.0 c.log_of-j.ensures.0 (c.log_of-i.ensures.1 (omega arith)) (c.log_of-j.ensures.1 (omega arith)) (omega arith)
