-- After i turns the first i rows stand, and the next is at hand (row_next).
use Prim.Native.Nat.{ℕ, ◌+◌, ◌%◌, ◌<◌}
use mathlib.Core.Path.{◌≡◌}
use lib.ListN.{get_or}
use Rattle.cycle_walks.proofs.lay_rows.Given as goal

abbrev pub invariant-loop-v : goal.invariant-loop-v
invariant-loop-v l = (l.row ≡ (l.from + l.v-index) % l.d) × ((j : ℕ) → j < l.v-index → get_or l.vs j 0 ≡ (l.from + j) % l.d)
