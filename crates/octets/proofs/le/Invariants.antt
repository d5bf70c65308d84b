-- What is read is the number in the bytes from `i` on, and fits in as many.
use Prim.Native.Nat.{◌+◌, ◌-◌, ◌<◌, ◌^◌}
use mathlib.Core.Path.{◌≡◌}
use Rattle.octets.specs.Octets.{of_le, part}
use Rattle.octets.proofs.le.Given as goal

abbrev pub invariant-loop-i : goal.invariant-loop-i
invariant-loop-i g l = (l.x ≡ of_le (part (l.at + l.i) (g.row.N - l.i) l.s)) × (l.x < 256 ^ (g.row.N - l.i))
