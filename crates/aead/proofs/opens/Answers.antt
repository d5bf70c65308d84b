-- `aead::opens` meets its contract: the tag and the comparison, by `opens-is` of `CodeLaws`.
-- Assumes nothing.
use Rattle.aead.proofs.CodeLaws.{opens-is}
use Rattle.aead.proofs.opens.Goals as goal

pub returns : goal.returns
returns c = opens-is _ _ _ _ _ _ _ c.tag-t.ensures c.same.ensures
