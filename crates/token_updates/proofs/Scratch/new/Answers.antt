-- Arrays of zeros, and a queue that starts.
use borrow.Author.Rules.{rules}
use mathlib.Core.Path.{refl}
use Rattle.token_updates.proofs.Scratch.new.Goals as goal

pub returns : goal.returns
returns c = record { no_table = refl; no_starts = refl; no_ends = refl; empty = λ f far. (c.new.ensures f far).0 }
