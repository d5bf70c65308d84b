-- Three labels under the master prepared, by file-keyed.
use Rattle.tokens.proofs.KeyLaws.{file-keyed}
use Rattle.tokens.proofs.file_keys.Goals as goal

pub returns : goal.returns
returns c =
    file-keyed c.args.master.now c.args.id _ _ _ _ _ _ c.requires
    c.prepare-p.ensures
    c.labelled-drawing.ensures
    c.prepare-w.ensures
    c.labelled-hashing.ensures
    c.prepare-z.ensures
    c.labelled-k.ensures
