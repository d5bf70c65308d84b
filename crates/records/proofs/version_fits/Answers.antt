-- The one test is that of version_fits.
use Rattle.scheme.specs.Marks.{version_fits}
use borrow.Author.Rules.{rules}
use Rattle.records.proofs.version_fits.Goals as goal

pub returns : goal.returns
unfolding version_fits
returns c = search rules
