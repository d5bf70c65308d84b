-- After k turns every lane is k blocks on, by chained-turn.
use mathlib.Core.Path.{◌≡◌}
use Prim.Native.Nat.{◌*◌, ◌-◌, ◌≤◌}
use lib.ListN.{length}
use Rattle.sha256_many.specs.Split.{Chained}
use Rattle.sha256_many.proofs.blocks_each.Given as goal

abbrev pub invariant-loop-k : goal.invariant-loop-k
invariant-loop-k l = (length l.v ≡ 128) × (length l.w ≡ 256) × Chained l.p l.at l.a (l.blocks * 64) l.l l.k l.initial.v l.v
