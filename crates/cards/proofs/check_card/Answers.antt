-- The refusal of the head, then that of the limits, by card-refused and card-of.
use mathlib.Core.Path.{refl, sym, ◌∙◌}
use Rattle.counts.proofs.RefusedLaws.{refuses, passed-on}
use Rattle.cards.proofs.FaultLaws.{card-refused, card-of, head_read}
use Rattle.cards.proofs.check_card.Goals as goal

pub returns-in_err-check_head : goal.returns-in_err-check_head
returns-in_err-check_head c =
    let refused = c.in_err-check_head in
    passed-on _ _ c.from_residual.ensures ∙ card-refused c.args.s.now _ refused.ensures (refuses refused.field-0.0)

pub read_card-c-requires : goal.read_card-c-requires
read_card-c-requires c = head_read c.args.s.now (sym c.in_ok-check_head.ensures)

pub returns-then-not-fits : goal.returns-then-not-fits
returns-then-not-fits c =
    card-of c.args.s.now 0 c.in_ok-check_head.ensures c.read_card-c.result refl c.read_card-c.ensures
    (sym c.card_fits-fits.ensures ∙ c.if-not-fits.true)

pub returns : goal.returns
returns c =
    card-of c.args.s.now 0 c.in_ok-check_head.ensures c.read_card-c.result refl c.read_card-c.ensures
    (sym c.card_fits-fits.ensures ∙ c.if-not-fits.false)
