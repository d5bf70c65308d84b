-- The refusal of the card, then whether something is pending, by settle-refused and settle-of.
use native.Mathlib.Omega.{arith}
use mathlib.Core.Path.{refl, sym, ◌∙◌}
use borrow.Author.Tests.{lt-ltb, le-ltb}
use Rattle.counts.proofs.RefusedLaws.{refuses, passed-on}
use Rattle.cards.proofs.FaultLaws.{card-read}
use Rattle.asks.proofs.SettleLaws.{settle-refused, settle-of}
use Rattle.asks.proofs.check_pending.Goals as goal

pub returns-in_err-check_card : goal.returns-in_err-check_card
returns-in_err-check_card c =
    let refused = c.in_err-check_card in
    passed-on _ _ c.from_residual.ensures ∙ settle-refused c.args.card.now _ refused.ensures (refuses refused.field-0.0)

pub read_card-c-requires : goal.read_card-c-requires
read_card-c-requires c = card-read c.args.card.now (sym c.in_ok-check_card.ensures)

pub returns-then-c-eq0 : goal.returns-then-c-eq0
returns-then-c-eq0 c =
    let read = c.read_card-c in
    settle-of c.args.card.now 0 c.in_ok-check_card.ensures read.result refl read.ensures (le-ltb 0 read.result.pending (omega arith))

pub returns : goal.returns
returns c =
    let read = c.read_card-c in
    settle-of c.args.card.now 0 c.in_ok-check_card.ensures read.result refl read.ensures (lt-ltb 0 read.result.pending (omega arith))
