-- The ways out of the checks, by check-short, check-refused and check-of.
use native.Mathlib.Omega.{arith}
use Prim.Native.Nat.{◌*◌}
use mathlib.Core.Path.{◌≡◌, refl, sym, ◌∙◌}
use mathlib.Core.Bool.{true}
use borrow.Author.Tests.{eq-eqb, ne_eqb}
use lib.ListN.{length}
use Rattle.counts.proofs.RefusedLaws.{refuses, passed-on}
use Rattle.scheme.proofs.laws.LimitLaws.{Limits}
use Rattle.cards.proofs.FaultLaws.{head_read, card-of, card-held}
use Rattle.changes.specs.Kinds.{change_of}
use Rattle.asks.proofs.AskLaws.{check-short, check-refused, check-of}
use Rattle.asks.proofs.check.Goals.{After-card_fits-fits}
use Rattle.asks.proofs.check.Goals as goal

-- the limits of a card that fits
limits : (c : After-card_fits-fits) → c.card_fits-fits.result ≡ true
    → let r = c.read_card-c.result in Limits r.block_bytes r.rows r.positions r.tokens r.blocks r.counter r.next r.open_token
limits c f =
    let card = c.args.card.now in
    card-held card c.read_card-c.result c.read_card-c.ensures
    (sym (card-of card 0 c.in_ok-check_head.ensures c.read_card-c.result refl c.read_card-c.ensures (sym c.card_fits-fits.ensures ∙ f)))

pub returns-then-not-lent : goal.returns-then-not-lent
returns-then-not-lent c =
    let a = c.args in
    let change = change_of a.change in
    check-short a.master.now a.card.now a.table.now a.second.now change a.totals.now (sym c.lent_fits-lent.ensures ∙ c.if-not-lent.true)

pub returns-in_err-check_head : goal.returns-in_err-check_head
returns-in_err-check_head c =
    let a = c.args in
    let refused = c.in_err-check_head in
    passed-on _ _ c.from_residual.ensures
    ∙ check-refused a.master.now a.card.now a.table.now a.second.now (change_of a.change) a.totals.now _ (sym c.lent_fits-lent.ensures ∙ c.if-not-lent.false)
    refused.ensures (refuses refused.field-0.0)

pub read_card-c-requires : goal.read_card-c-requires
read_card-c-requires c = head_read c.args.card.now (sym c.in_ok-check_head.ensures)

pub returns-then-c-ne3 : goal.returns-then-c-ne3
returns-then-c-ne3 c =
    let a = c.args in
    let change = change_of a.change in
    check-of a.master.now a.card.now a.table.now a.second.now change a.totals.now 0 (sym c.lent_fits-lent.ensures ∙ c.if-not-lent.false) c.in_ok-check_head.ensures
    c.read_card-c.result refl c.read_card-c.ensures
    (ne_eqb c.read_card-c.result.version 3 c.if-c-ne3.true) refl refl refl refl

pub returns-then-not-fits : goal.returns-then-not-fits
returns-then-not-fits c =
    let a = c.args in
    let change = change_of a.change in
    check-of a.master.now a.card.now a.table.now a.second.now change a.totals.now 0 (sym c.lent_fits-lent.ensures ∙ c.if-not-lent.false) c.in_ok-check_head.ensures
    c.read_card-c.result refl c.read_card-c.ensures
    (eq-eqb c.read_card-c.result.version 3 c.if-c-ne3.false) c.card_fits-fits.ensures (c.if-not-fits.true) refl refl

pub overflow_mul-c : goal.overflow_mul-c
overflow_mul-c c =
    let l = limits (goal.at.overflow_mul-c c).After-card_fits-fits (c.if-not-fits.false) in
    omega (arith, l.tmost)

pub returns-then-second-c : goal.returns-then-second-c
returns-then-second-c c =
    let a = c.args in
    let change = change_of a.change in
    check-of a.master.now a.card.now a.table.now a.second.now change a.totals.now 0 (sym c.lent_fits-lent.ensures ∙ c.if-not-lent.false) c.in_ok-check_head.ensures
    c.read_card-c.result refl c.read_card-c.ensures
    (eq-eqb c.read_card-c.result.version 3 c.if-c-ne3.false) c.card_fits-fits.ensures (c.if-not-fits.false)
    (ne_eqb (length a.second.now) (c.read_card-c.result.tokens * 63) c.if-second-c.true) refl

pub late-requires : goal.late-requires
late-requires c =
    let l = limits (goal.at.late-requires c).After-card_fits-fits (c.if-not-fits.false) in
    (l.tmost, l.shape.B1, l.shape.Bmost, l.nmost)

pub returns : goal.returns
returns c =
    let a = c.args in
    let change = change_of a.change in
    check-of a.master.now a.card.now a.table.now a.second.now change a.totals.now 0 (sym c.lent_fits-lent.ensures ∙ c.if-not-lent.false) c.in_ok-check_head.ensures
    c.read_card-c.result refl c.read_card-c.ensures
    (eq-eqb c.read_card-c.result.version 3 (omega arith)) c.card_fits-fits.ensures (c.if-not-fits.false)
    (eq-eqb (length a.second.now) (c.read_card-c.result.tokens * 63) c.if-second-c.false) c.late.ensures
