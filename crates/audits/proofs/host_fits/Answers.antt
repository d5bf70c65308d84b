-- The products fit, by the limits; marks have a byte at most.
use native.Mathlib.Omega.{arith}
use native.Mathlib.Nat.{mul-le-mul}
use Prim.Native.Nat.{ℕ, ◌*◌}
use mathlib.Core.Path.{ap}
use mathlib.Core.Bool.{◌&&◌}
use lib.Dec.{eqb, leb}
use lib.ListN.{length}
use Rattle.audits.proofs.host_fits.Goals as goal

pub overflow_mul-whole : goal.overflow_mul-whole
overflow_mul-whole c = omega (arith, mul-le-mul c.requires.1 c.requires.0)

pub overflow_mul-each : goal.overflow_mul-each
overflow_mul-each c = omega (arith, mul-le-mul c.requires.1 c.marks_in.ensures.1)

pub overflow_mul-result : goal.overflow_mul-result
overflow_mul-result c = omega (arith, c.requires.2)

pub returns : goal.returns
returns c =
    let a = c.args in
    ap (λ (n : ℕ). eqb (length a.blocks.now) (a.m.blocks * a.m.block_bytes) && eqb (length a.marks.now) (a.m.blocks * n) && leb (a.m.token * 63) (length a.table.now))
    c.marks_in.ensures.0
