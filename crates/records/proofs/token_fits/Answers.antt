-- The one test is that of token_fits.
use Rattle.scheme.specs.Records.{token_fits}
use borrow.Author.Rules.{rules}
use Rattle.records.proofs.token_fits.Goals as goal

pub returns : goal.returns
unfolding token_fits
returns c = search rules
