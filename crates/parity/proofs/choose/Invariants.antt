-- What is chosen, and what is still to choose from, are all the chosen.
use mathlib.Core.Path.{◌≡◌}
use mathlib.Core.List.{◌++◌}
use Prim.Native.Nat.{◌+◌, ◌-◌, ◌≤◌}
use lib.ListN.{length, take}
use Rattle.erasure.specs.Group.{chosen}
use Rattle.parity.specs.Choice.{picks}
use Rattle.parity.proofs.choose.Given as goal

abbrev pub invariant-loop-i : goal.invariant-loop-i
invariant-loop-i l = (l.r + (l.end - l.i) ≤ length l.out) × (take l.r l.out ++ chosen (picks l.want l.lost) l.i (l.end - l.i) ≡ chosen (picks l.want l.lost) l.n l.c)
