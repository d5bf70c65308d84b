-- `aead::seal_record` meets its contract: the sealed text and the tag after it, by `record-sealed` of `CodeLaws`.
-- Assumes nothing.
use Rattle.aead.proofs.CodeLaws.{record-sealed}
use borrow.Author.Rules.{rules}
use Rattle.aead.proofs.seal_record.Goals as goal

pub returns : goal.returns
returns c =
    let seal = c.seal-t in
    record-sealed _ _ _ c.args.r.now seal.new.text _ _ c.requires (search rules) seal.ensures c.copy.ensures
