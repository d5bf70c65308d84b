-- After each walk those so far have come home, and their turns are counted (turns_more).
use mathlib.Core.Path.{◌≡◌}
use lib.ListN.{length}
use Rattle.cycle_walks.specs.Each.{Backed, turns_of}
use Rattle.cycle_walks.proofs.one_by_one.Given as goal

abbrev pub invariant-loop-i : goal.invariant-loop-i
invariant-loop-i l = (length l.ends ≡ length l.initial.ends) × (l.turns ≡ turns_of l.p.key l.p.d l.i l.xs) × Backed l.p.key l.p.d l.i l.xs l.ends
