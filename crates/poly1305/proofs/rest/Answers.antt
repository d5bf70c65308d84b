-- `poly1305::rest` meets its contract: the copied bytes and the zeros that stay, by `rest-is` of `Padding`.
-- Assumes nothing.
use borrow.Author.Rules.{rules}
use Rattle.poly1305.proofs.Padding.{rest-is}
use Rattle.poly1305.proofs.rest.Goals as goal

pub returns : goal.returns
returns c =
    rest-is c.args.s.now c.copy.new.dst c.args.at (search rules) (search rules) c.copy.ensures
