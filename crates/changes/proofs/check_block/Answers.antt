-- The block's number is one of the file's, or not.
use mathlib.Core.Path.{sym, ◌∙◌}
use Rattle.scheme.specs.Checks.{first}
use Rattle.changes.proofs.check_block.Goals as goal

pub returns-then-within : goal.returns-then-within
unfolding first
returns-then-within c = rw (sym c.within.ensures ∙ c.if-within.true)

pub returns : goal.returns
unfolding first
returns c = rw (sym c.within.ensures ∙ c.if-within.false)
