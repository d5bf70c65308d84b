-- Each field is read from its bytes, by card-is.
use mathlib.Core.Path.{sym, ◌∙◌}
use Rattle.cards.specs.Fields.{card_of}
use Rattle.cards.proofs.CardLaws.{card-is}
use Rattle.cards.proofs.read_card.Goals as goal

pub read_asks-asks-requires : goal.read_asks-asks-requires
read_asks-asks-requires c = λ three. c.requires.1 (sym c.version_in-version.ensures ∙ three)

pub returns : goal.returns
unfolding card_of
returns c =
    card-is c.args.s.now c.version_in-version.ensures c.bytes.ensures c.be.ensures.0 c.be-2.ensures.0 c.be-3.ensures.0
    c.be-4.ensures.0 c.be-5.ensures.0 c.be-counter.ensures.0 c.be-6.ensures.0 c.be-7.ensures.0 c.read_asks-asks.ensures.last_value c.read_asks-asks.ensures.pending_value.0 c.read_asks-asks.ensures.pending_value.1
