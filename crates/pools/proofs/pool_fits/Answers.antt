-- The reply's own head, then its parts, by fits-of.
use mathlib.Core.Path.{refl, sym, ◌∙◌}
use borrow.Author.Tests.{eq-eqb, ne_eqb}
use Rattle.pools.proofs.PoolLaws.{fits-of}
use Rattle.pools.proofs.pool_fits.Goals as goal

pub returns-then-reply-long : goal.returns-then-reply-long
returns-then-reply-long c =
    fits-of c.args.master.now c.args.cards.bytes.now c.args.reply.now _ c.count_of-count.ensures (ne_eqb _ _ c.if-reply-long.true) refl refl

pub returns-then-not-head_fits : goal.returns-then-not-head_fits
returns-then-not-head_fits c =
    fits-of c.args.master.now c.args.cards.bytes.now c.args.reply.now _ c.count_of-count.ensures (eq-eqb _ _ c.if-reply-long.false) (sym c.head_fits.ensures ∙ c.if-not-head_fits.true) refl

pub returns-then-be-count : goal.returns-then-be-count
returns-then-be-count c =
    fits-of c.args.master.now c.args.cards.bytes.now c.args.reply.now _ c.count_of-count.ensures (eq-eqb _ _ c.if-reply-long.false) (sym c.head_fits.ensures ∙ c.if-not-head_fits.false)
    (ne_eqb _ _ (λ z. c.if-be-count.true (c.be.ensures.0 ∙ z)))

pub returns : goal.returns
returns c =
    c.all_pass.ensures
    ∙ fits-of c.args.master.now c.args.cards.bytes.now c.args.reply.now _ c.count_of-count.ensures (eq-eqb _ _ c.if-reply-long.false) (sym c.head_fits.ensures ∙ c.if-not-head_fits.false)
    (eq-eqb _ _ (sym c.be.ensures.0 ∙ c.if-be-count.false))
