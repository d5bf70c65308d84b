-- Nothing differed so far and the rest is the same, by same-again.
use mathlib.Core.Path.{◌≡◌}
use mathlib.Core.Bool.{◌&&◌}
use lib.Dec.{eqb}
use lib.ListN.{drop}
use Rattle.octets.specs.Octets.{same}
use Rattle.octets.proofs.same.Given as goal

abbrev pub invariant-loop-i : goal.invariant-loop-i
invariant-loop-i l = (eqb l.d 0 && same (drop l.i l.a) (drop l.i l.b)) ≡ same l.a l.b
