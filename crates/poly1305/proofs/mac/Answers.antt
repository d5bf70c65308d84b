-- `poly1305::mac` meets its contract: r, the accumulator and the tag, put together by `tagged` of `Keys`.
-- Assumes nothing.
use mathlib.Core.Path.{refl, ◌∙◌}
use Rattle.poly1305.specs.Limbs.{value}
use Rattle.poly1305.proofs.Keys.{tagged}
use Rattle.poly1305.proofs.mac.Goals as goal

pub returns : goal.returns
returns c =
    c.closed.ensures
    ∙ tagged c.args.key.now c.args.msg.now _ (value c.key_r-r.result) _ c.key_r-r.ensures.same refl
    c.total-h.ensures.same
