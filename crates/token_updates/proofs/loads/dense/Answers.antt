-- The way is taken with added blocks alone.
use mathlib.Core.Bool.{false≢true}
use Rattle.token_updates.proofs.loads.dense.Goals as goal

pub returns-then-changes : goal.returns-then-changes
returns-then-changes c = λ h. absurd (false≢true h)
