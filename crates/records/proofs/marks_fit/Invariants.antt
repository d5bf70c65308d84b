-- No mark so far was above 1 and the rest fit, by fit-again.
use mathlib.Core.Path.{◌≡◌}
use mathlib.Core.Bool.{◌&&◌}
use lib.Dec.{eqb}
use lib.ListN.{drop}
use Rattle.scheme.specs.Marks.{marks_fit}
use Rattle.records.proofs.marks_fit.Given as goal

abbrev pub invariant-loop-mark : goal.invariant-loop-mark
invariant-loop-mark l = (eqb l.high 0 && marks_fit (drop l.mark-index l.marks)) ≡ marks_fit l.marks
