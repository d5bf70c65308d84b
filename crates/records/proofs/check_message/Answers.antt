-- A code from its three tests, by message-code.
use mathlib.Core.Path.{refl, sym, ap, ◌∙◌}
use borrow.Author.Tests.{eq-eqb, ne_eqb}
use lib.ListN.{length}
use Rattle.scheme.specs.Records.{message_fits}
use Rattle.records.proofs.FaultLaws.{message-code}
use Rattle.records.proofs.check_message.Goals as goal

pub returns-then-s-ne-MESSAGE : goal.returns-then-s-ne-MESSAGE
returns-then-s-ne-MESSAGE c =
    let xs = c.args.s.now in
    message-code xs (ne_eqb (length xs) 91 c.if-s-ne-MESSAGE.true) refl refl

pub returns-then-not-head_known : goal.returns-then-not-head_known
returns-then-not-head_known c =
    let xs = c.args.s.now in
    message-code xs (eq-eqb (length xs) 91 c.if-s-ne-MESSAGE.false) (sym c.head_known.ensures ∙ c.if-not-head_known.true) refl

pub returns-then-not-message_fits : goal.returns-then-not-message_fits
returns-then-not-message_fits c =
    let xs = c.args.s.now in
    message-code xs (eq-eqb (length xs) 91 c.if-s-ne-MESSAGE.false)
    (sym c.head_known.ensures ∙ c.if-not-head_known.false)
    (sym (c.message_fits.ensures ∙ ap message_fits c.read_message.ensures) ∙ c.if-not-message_fits.true)

pub returns : goal.returns
returns c =
    let xs = c.args.s.now in
    message-code xs (eq-eqb (length xs) 91 c.if-s-ne-MESSAGE.false)
    (sym c.head_known.ensures ∙ c.if-not-head_known.false)
    (sym (c.message_fits.ensures ∙ ap message_fits c.read_message.ensures) ∙ c.if-not-message_fits.false)
