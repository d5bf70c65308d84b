-- The definition, as it stands.
use Rattle.scheme.specs.Tokens.{columns_of}
use borrow.Author.Rules.{rules}
use Rattle.tokens.proofs.columns_of.Goals as goal

pub returns : goal.returns
unfolding columns_of
returns c = search rules
