-- `poly1305::tag` meets its contract: `total` of `Tags`.
-- Assumes nothing.
use mathlib.Core.Path.{refl, sym, ap, ◌∙◌}
use Rattle.octets.specs.Octets.{le}
use Rattle.poly1305.proofs.Tags.{total}
use Rattle.poly1305.proofs.tag.Goals as goal

pub returns : goal.returns
returns c = c.spread.ensures ∙ ap (le 16) (sym (total c.args.h.a0 c.args.h.a1 c.args.h.a2 c.args.h.a3 c.args.h.a4
    c.args.s0 c.args.s1 c.args.s2 c.args.s3 _ _ _ _ refl refl refl refl))
