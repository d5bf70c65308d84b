-- The three tests are those of message_fits.
use Rattle.records.specs.Fields.{message_of}
use Rattle.scheme.specs.Records.{message_fits}
use Rattle.records.proofs.message_fits.Goals as goal

pub returns : goal.returns
unfolding message_fits message_of
returns c = cc
