-- The third label under the master prepared, by sealing-keyed.
use Rattle.tokens.proofs.KeyLaws.{sealing-keyed}
use Rattle.tokens.proofs.sealing_key.Goals as goal

pub returns : goal.returns
returns c =
    sealing-keyed c.args.master.now c.args.id _ _ c.requires c.prepare-p.ensures c.labelled.ensures
