-- `aead::seal` meets its contract: the cipher and the tag, by `seal-is` of `CodeLaws`.
-- Assumes nothing.
use Rattle.aead.proofs.CodeLaws.{seal-is}
use Rattle.aead.proofs.seal.Goals as goal

pub returns : goal.returns
returns c = seal-is _ _ _ _ _ _ c.cipher.ensures c.tag.ensures
