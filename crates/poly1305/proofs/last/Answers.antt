-- `poly1305::last` meets its contract: the byte 1 after the bytes of `rest`, by `last-is` of `Padding`.
-- Assumes nothing.
use mathlib.Core.Path.{refl}
use borrow.Author.Rules.{rules}
use Rattle.poly1305.proofs.Padding.{last-is}
use Rattle.poly1305.proofs.last.Goals as goal

pub returns : goal.returns
returns c = last-is c.args.s.now c.rest-b.result c.args.at _ (search rules) (search rules) refl c.rest-b.ensures
