-- The walks are read first, and have taken their turns one after the other (passed-further).
use Prim.Native.Nat.{ℕ, ◌+◌, ◌≤◌, ◌<◌}
use mathlib.Core.Path.{◌≡◌}
use lib.ListN.{length, get_or}
use Rattle.cycle_walks.specs.Along.{Onward}
use Rattle.cycle_walks.proofs.turn_some.Given as goal

abbrev pub invariant-loop-k : goal.invariant-loop-k
invariant-loop-k g l = (length l.us ≡ g.row.N) × ((j : ℕ) → j < l.k → get_or l.us j 0 ≡ get_or l.vs (l.at + j) 0)

abbrev pub invariant-loop-u : goal.invariant-loop-u
invariant-loop-u g l =
    (length l.vs ≡ length l.fn.vs)
    × (l.next ≤ l.still + l.u-index)
    × Onward l.t.of.key l.t.of.d l.n l.fn.vs l.still l.at l.next (l.at + l.u-index) l.vs
