-- The bytes from `i` on are in place, and `left` has the others.
use Prim.Native.Nat.{◌+◌, ◌-◌, ◌/◌, ◌^◌}
use mathlib.Core.Path.{◌≡◌}
use Rattle.octets.specs.Octets.{be, put}
use Rattle.octets.proofs.put_be.Given as goal

abbrev pub invariant-loop-i : goal.invariant-loop-i
invariant-loop-i g l = (l.s ≡ put (l.at + l.i) (be (g.row.N - l.i) l.x) l.initial.s) × (l.left ≡ l.x / 256 ^ (g.row.N - l.i))
