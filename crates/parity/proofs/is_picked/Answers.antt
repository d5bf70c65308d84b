-- By cases of want.
use mathlib.Core.Path.{sym, ap, ◌∙◌}
use mathlib.Core.Bool.{Bool, not}
use Rattle.parity.specs.Choice.{picks}
use Rattle.parity.proofs.is_picked.Goals as goal

pub returns-then-want : goal.returns-then-want
returns-then-want c =
    c.is_named-hit.ensures ∙ sym (ap (λ (w : Bool). picks w c.args.lost.now c.args.n) c.if-want.true)

pub returns-else-want : goal.returns-else-want
returns-else-want c =
    ap not c.is_named-hit.ensures ∙ sym (ap (λ (w : Bool). picks w c.args.lost.now c.args.n) c.if-want.false)
