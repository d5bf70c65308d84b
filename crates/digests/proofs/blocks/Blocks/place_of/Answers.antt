-- The block's number, less those of the blocks before.
use native.Mathlib.Omega.{arith}
use mathlib.Core.Path.{ap}
use Prim.Native.Nat.{ℕ, ◌-◌}
use Rattle.digests.specs.Layout.{place}
use Rattle.digests.proofs.blocks.Blocks.place_of.Goals as goal

pub returns : goal.returns
unfolding place
returns c =
    (ap (λ (k : ℕ). k - c.args.self.now.before - 1) c.block_in-m.ensures.0, omega (arith, c.block_in-m.ensures.1, c.requires.0, c.requires.1))
