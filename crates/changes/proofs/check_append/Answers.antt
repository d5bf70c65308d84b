-- The file has room for one more block, or not.
use borrow.Author.Tests.{lt-ltb, le-ltb}
use Rattle.scheme.specs.Checks.{first}
use Rattle.changes.proofs.check_append.Goals as goal

pub returns-then-c-lt-MOST_BLOCKS : goal.returns-then-c-lt-MOST_BLOCKS
unfolding first
returns-then-c-lt-MOST_BLOCKS c = rw (lt-ltb c.args.c.blocks 16777216 c.if-c-lt-MOST_BLOCKS.true)

pub returns : goal.returns
unfolding first
returns c = rw (le-ltb c.args.c.blocks 16777216 c.if-c-lt-MOST_BLOCKS.false)
