-- The clear bytes, then the tag, by opens-yes and opens-no.
use Rattle.seals.proofs.SealLaws.{opens-no, opens-yes}
use Rattle.seals.proofs.opens.Goals as goal

pub returns-then-clear_fits : goal.returns-then-clear_fits
returns-then-clear_fits c =
    opens-yes c.args.key c.args.table.now c.args.version c.args.counter c.args.i.0 _ c.requires.0 c.requires.2
    c.start_of-a.ensures _ c.clear_fits.ensures _ c.if-clear_fits.true c.tag_holds.ensures

pub returns : goal.returns
returns c =
    opens-no c.args.key c.args.table.now c.args.version c.args.counter c.args.i.0 _ c.requires.0 c.requires.2
    c.start_of-a.ensures _ c.clear_fits.ensures c.if-clear_fits.false
