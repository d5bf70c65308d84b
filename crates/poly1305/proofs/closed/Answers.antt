-- `poly1305::closed` meets its contract: the accumulator below the prime and s, by `closing` of `Keys`.
-- Assumes nothing.
use mathlib.Core.Path.{refl, ◌∙◌}
use Prim.Native.Nat.{◌^◌}
use Rattle.poly1305.specs.Limbs.{value}
use Rattle.std.proofs.Common.{rules}
use Rattle.poly1305.proofs.Ring.{cong5}
use Rattle.poly1305.proofs.Keys.{closing, second}
use Rattle.poly1305.proofs.closed.Goals as goal

pub returns : goal.returns
returns c =
    let freeze = c.freeze in
    c.tag.ensures
    ∙ closing c.args.key.now (value freeze.result) (value c.args.h) _ freeze.ensures.same
    (cong5 (2 ^ 32) _ _ _ _ _ _ _ _ _ _ c.word.ensures.0 c.word-2.ensures.0
    c.word-3.ensures.0 c.word-4.ensures.0 refl
    ∙ second c.args.key.now (search rules))
