-- `aead::seal_at` meets its contract: the part that is lent comes back sealed, by `sealed-at` of `CodeLaws`.
-- Assumes nothing.
use Rattle.aead.proofs.CodeLaws.{sealed-at}
use Rattle.aead.proofs.seal_at.Goals as goal

pub returns : goal.returns
returns c =
    sealed-at _ _ _ c.args.table.now _ c.args.at c.requires c.seal_record.ensures
