-- Head, counter and number are tested in turn.
use borrow.Author.Tests.{eq-eqb, ne_eqb}
use Rattle.seals.proofs.SealLaws.{fits_head, fits-counter, fits_all}
use Rattle.seals.proofs.clear_fits.Goals as goal

pub returns-then-be-counter : goal.returns-then-be-counter
returns-then-be-counter c =
    fits_all c.args.r.now c.args.version c.args.counter c.args.i.0 c.head_fits.ensures
    c.if-head_fits.true c.be.ensures.0 _ (eq-eqb _ _ c.if-be-counter.true)
    c.be-then-be-counter.ensures.0

pub returns-else-be-counter : goal.returns-else-be-counter
returns-else-be-counter c =
    fits-counter c.args.r.now c.args.version c.args.counter c.args.i.0 c.head_fits.ensures c.if-head_fits.true
    c.be.ensures.0 (ne_eqb _ _ c.if-be-counter.false)

pub returns-else-head_fits : goal.returns-else-head_fits
returns-else-head_fits c =
    fits_head c.args.r.now c.args.version c.args.counter c.args.i.0 c.head_fits.ensures c.if-head_fits.false
