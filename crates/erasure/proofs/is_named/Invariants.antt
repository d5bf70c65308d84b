-- After i turns what is left of the list decides, by named_past.
use mathlib.Core.Path.{◌≡◌}
use lib.ListN.{drop}
use Rattle.erasure.specs.Group.{named}
use Rattle.erasure.proofs.is_named.Given as goal

abbrev pub invariant-loop-i : goal.invariant-loop-i
invariant-loop-i l = named (drop l.i l.lost) l.n ≡ named l.lost l.n
