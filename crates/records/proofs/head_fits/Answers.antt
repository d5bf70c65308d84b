-- The two tests are those of head_fits, by head-fits-is.
use Rattle.records.proofs.FieldLaws.{head-fits-is}
use Rattle.records.proofs.head_fits.Goals as goal

pub returns : goal.returns
returns c =
    head-fits-is c.args.s.now c.args.len c.args.version c.be.ensures.0 c.version_in.ensures
