-- The definition, as it stands.
use Rattle.scheme.specs.Tokens.{block_in}
use borrow.Author.Rules.{rules}
use Rattle.tokens.proofs.block_in.Goals as goal

pub returns : goal.returns
unfolding block_in
returns c = search rules
