-- After each walk the turns of those so far are counted (along_one), and the next row is at hand (row_next).
use Prim.Native.Nat.{◌+◌, ◌%◌}
use mathlib.Core.Path.{◌≡◌}
use Rattle.cycle_walks.specs.Along.{turns_along}
use Rattle.cycle_walks.proofs.turns_alone.Given as goal

abbrev pub invariant-loop-i : goal.invariant-loop-i
invariant-loop-i l = (l.row ≡ (l.from + l._i) % l.p.d) × (l.turns ≡ turns_along l.p.key l.p.d l.from l._i)
