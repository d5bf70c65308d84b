-- Key and index are written before the mark, by head-whole.
use borrow.Author.Rules.{rules}
use Rattle.tokens.proofs.KeyLaws.{head-whole}
use Rattle.tokens.proofs.head_of.Goals as goal

pub returns : goal.returns
returns c =
    head-whole c.args.c _ _ c.args.index c.args.mark (search rules) c.copy.ensures c.put_be.ensures
