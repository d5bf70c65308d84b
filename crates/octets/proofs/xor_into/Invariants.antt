-- What is done and what is left give the xor, by xor-again.
use mathlib.Core.Path.{◌≡◌}
use mathlib.Core.List.{◌++◌}
use lib.ListN.{take, drop}
use Rattle.octets.specs.Octets.{xors}
use Rattle.octets.proofs.xor_into.Given as goal

abbrev pub invariant-loop-i : goal.invariant-loop-i
invariant-loop-i l = take l.i l.dst ++ xors (drop l.i l.dst) (drop l.i l.src) ≡ xors l.initial.dst l.src
