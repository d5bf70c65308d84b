-- The definition, as it stands.
use Rattle.scheme.specs.Tokens.{index_of}
use borrow.Author.Rules.{rules}
use Rattle.tokens.proofs.index_of.Goals as goal

pub returns : goal.returns
unfolding index_of
returns c = search rules
