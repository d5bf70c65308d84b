-- `aead::ends` meets its contract: two lengths one after another, by `ends_is` of `CodeLaws`.
-- Assumes nothing.
use Rattle.aead.proofs.CodeLaws.{ends_is}
use Rattle.aead.proofs.ends.Goals as goal

pub returns : goal.returns
returns c =
    let le8 = c.put_le in
    ends_is le8.new.s c.put_le-2.new.s _ _ le8.ensures c.put_le-2.ensures
