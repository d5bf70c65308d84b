-- The products fit, by the limits.
use native.Mathlib.Omega.{arith}
use native.Mathlib.Nat.{mul-le-mul}
use Prim.Native.Nat.{ℕ, ◌+◌, ◌*◌}
use mathlib.Core.Path.{ap}
use mathlib.Core.Bool.{◌&&◌}
use lib.Dec.{eqb}
use lib.ListN.{length}
use Rattle.set_ups.proofs.Numbers.sizes_fit.Goals as goal

pub overflow_mul-whole : goal.overflow_mul-whole
overflow_mul-whole c = omega (arith, mul-le-mul c.requires.1 c.requires.0)

pub returns : goal.returns
returns c =
    let a = c.args in
    ap (λ (n : ℕ). eqb (length a.blocks.now) (a.self.blocks * a.self.block_bytes) && eqb (length a.card.now) (2 + n) && eqb (length a.table.now) (a.self.tokens * 63))
    c.card_length.ensures.0
