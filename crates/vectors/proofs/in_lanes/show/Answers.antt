-- All lanes read what lies elsewhere from its first byte on.
use native.Mathlib.Omega.{arith}
use Prim.Native.Nat.{ℕ}
use lib.ListN.{get_or-replicate}
use Rattle.vectors.proofs.in_lanes.show.Goals as goal

pub hash_each-s-requires : goal.hash_each-s-requires
hash_each-s-requires g c =
    (omega arith, c.requires.0, c.requires.1, c.requires.2, c.requires.3, record { fits = λ i h. omega (arith, get_or-replicate {A = ℕ} 16 i 0 0 h, c.requires.4) })
