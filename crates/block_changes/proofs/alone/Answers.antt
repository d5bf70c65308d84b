-- The items of a batch never come alone.
use Rattle.block_changes.proofs.ContentLaws.{alone-listed, alone-counted}
use Rattle.block_changes.proofs.alone.Goals as goal

pub returns-then-changes : goal.returns-then-changes
returns-then-changes c = alone-listed c.args.changes c.if-changes.true

pub returns : goal.returns
returns c = alone-counted c.args.changes c.if-changes.false
