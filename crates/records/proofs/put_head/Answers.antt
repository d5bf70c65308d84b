-- The version is stored behind the length, by head-put.
use Rattle.records.proofs.FieldLaws.{head-put}
use Rattle.records.proofs.put_head.Goals as goal

pub returns : goal.returns
returns c =
    head-put c.args.len c.args.version _ c.args.s.now _ c.requires.0 c.requires.1 c.low.ensures
    c.put_be.ensures
