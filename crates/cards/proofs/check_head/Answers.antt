-- A code from its two tests, by head-code.
use native.Mathlib.Omega.{arith}
use mathlib.Core.Path.{refl, sym, ◌∙◌}
use Rattle.cards.proofs.CardLaws.{sized-least}
use Rattle.cards.proofs.FaultLaws.{head-code}
use Rattle.cards.proofs.check_head.Goals as goal

pub returns-then-not-some : goal.returns-then-not-some
returns-then-not-some c = head-code c.args.s.now (sym c.sized-some.ensures ∙ c.if-not-some.true) refl

pub head_fits-head-requires : goal.head_fits-head-requires
head_fits-head-requires c = omega (arith, sized-least c.args.s.now (sym c.sized-some.ensures ∙ c.if-not-some.false))

pub returns-then-not-head : goal.returns-then-not-head
returns-then-not-head c = head-code c.args.s.now (sym c.sized-some.ensures ∙ c.if-not-some.false) (sym c.head_fits-head.ensures ∙ c.if-not-head.true)

pub returns : goal.returns
returns c = head-code c.args.s.now (sym c.sized-some.ensures ∙ c.if-not-some.false) (sym c.head_fits-head.ensures ∙ c.if-not-head.false)
