-- The code of a set-up from its tests, by set-up-of.
use mathlib.Core.Path.{refl, sym, ◌∙◌}
use Rattle.set_ups.proofs.SetUpLaws.{set-up-of, numbers-limits}
use Rattle.set_ups.proofs.check.Goals as goal

pub returns-then-not-lent_fits : goal.returns-then-not-lent_fits
returns-then-not-lent_fits c =
    let a = c.args in
    set-up-of a.master.now a.id.now a.numbers.version a.numbers.block_bytes a.numbers.rows a.numbers.positions a.numbers.tokens a.numbers.blocks a.blocks.now a.card.now a.table.now a.totals.now
    (sym c.lent_fits.ensures ∙ c.if-not-lent_fits.true)
    refl
    refl

pub returns-then-not-fit : goal.returns-then-not-fit
returns-then-not-fit c =
    let a = c.args in
    set-up-of a.master.now a.id.now a.numbers.version a.numbers.block_bytes a.numbers.rows a.numbers.positions a.numbers.tokens a.numbers.blocks a.blocks.now a.card.now a.table.now a.totals.now
    (sym c.lent_fits.ensures ∙ c.if-not-lent_fits.false)
    (sym c.fit.ensures ∙ c.if-not-fit.true)
    refl

pub sizes_fit-requires : goal.sizes_fit-requires
sizes_fit-requires c =
    let a = c.args in
    numbers-limits a.numbers.version a.numbers.block_bytes a.numbers.rows a.numbers.positions a.numbers.tokens a.numbers.blocks (sym c.fit.ensures ∙ c.if-not-fit.false)

pub returns-then-not-sizes_fit : goal.returns-then-not-sizes_fit
returns-then-not-sizes_fit c =
    let a = c.args in
    set-up-of a.master.now a.id.now a.numbers.version a.numbers.block_bytes a.numbers.rows a.numbers.positions a.numbers.tokens a.numbers.blocks a.blocks.now a.card.now a.table.now a.totals.now
    (sym c.lent_fits.ensures ∙ c.if-not-lent_fits.false)
    (sym c.fit.ensures ∙ c.if-not-fit.false)
    (sym c.sizes_fit.ensures ∙ c.if-not-sizes_fit.true)

pub returns : goal.returns
returns c =
    let a = c.args in
    set-up-of a.master.now a.id.now a.numbers.version a.numbers.block_bytes a.numbers.rows a.numbers.positions a.numbers.tokens a.numbers.blocks a.blocks.now a.card.now a.table.now a.totals.now
    (sym c.lent_fits.ensures ∙ c.if-not-lent_fits.false)
    (sym c.fit.ensures ∙ c.if-not-fit.false)
    (sym c.sizes_fit.ensures ∙ c.if-not-sizes_fit.false)
