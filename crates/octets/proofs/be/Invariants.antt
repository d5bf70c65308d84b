-- What is read is the number in the bytes so far, and fits in as many.
use Prim.Native.Nat.{◌<◌, ◌^◌}
use mathlib.Core.Path.{◌≡◌}
use Rattle.octets.specs.Octets.{of_be, part}
use Rattle.octets.proofs.be.Given as goal

abbrev pub invariant-loop-i : goal.invariant-loop-i
invariant-loop-i g l = (l.x ≡ of_be (part l.at l.i l.s)) × (l.x < 256 ^ l.i)
