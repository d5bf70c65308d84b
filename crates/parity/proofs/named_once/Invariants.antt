-- After i turns what is left of the lost decides, by once_more.
use mathlib.Core.Path.{◌≡◌}
use lib.ListN.{drop}
use Rattle.parity.specs.Calls.{named_once}
use Rattle.parity.proofs.named_once.Given as goal

abbrev pub invariant-loop-i : goal.invariant-loop-i
invariant-loop-i l = named_once l.n (drop l.i l.lost) ≡ named_once l.n l.lost
