-- The first bytes are in place, and `rest` has the others.
use Prim.Native.Nat.{◌/◌, ◌^◌}
use mathlib.Core.Path.{◌≡◌}
use Rattle.octets.specs.Octets.{le, put}
use Rattle.octets.proofs.put_le.Given as goal

abbrev pub invariant-loop-i : goal.invariant-loop-i
invariant-loop-i g l = (l.s ≡ put l.at (le l.i l.x) l.initial.s) × (l.rest ≡ l.x / 256 ^ l.i)
