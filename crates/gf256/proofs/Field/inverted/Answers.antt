-- The power at 255 less the logarithm, by inverse-from.
use mathlib.Core.Path.{◌≡◌, sym, ap, ◌∙◌}
use native.Mathlib.Omega.{arith}
use Rattle.gf256.specs.Field.{inverse}
use Rattle.gf256.proofs.FieldLaws.{inverse-zero, inverse-from}
use Rattle.gf256.proofs.Field.inverted.Goals as goal

pub returns-then-a-eq0 : goal.returns-then-a-eq0
returns-then-a-eq0 c =
    let e : c.args.a ≡ 0 = omega arith in
    sym (ap inverse e ∙ inverse-zero)

pub returns : goal.returns
returns c =
    inverse-from c.log_of-i.result c.args.a c.args.self.now.raised c.log_of-i.ensures.0 (c.log_of-i.ensures.1 (omega arith)) (omega arith) c.if-a-eq0.false
