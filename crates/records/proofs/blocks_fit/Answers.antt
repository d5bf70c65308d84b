-- The one test is that of blocks_fit.
use Rattle.scheme.specs.Records.{blocks_fit}
use borrow.Author.Rules.{rules}
use Rattle.records.proofs.blocks_fit.Goals as goal

pub returns : goal.returns
unfolding blocks_fit
returns c = search rules
