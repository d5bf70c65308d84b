-- The numbers are split (Split), the rounds undone one after the other on each (Left), and the halves joined.
use mathlib.Core.Path.{◌≡◌}
use Prim.Native.Nat.{ℕ, ◌+◌, ◌≤◌, ◌<◌}
use lib.ListN.{length, get_or}
use Rattle.permutation.specs.Permutation.{round_function, eight_undone}
use Rattle.permutation.proofs.HalfLaws.{Undoing}
use Rattle.permutation.proofs.EachLaws.{at, Split, Left}
use Rattle.permutation.proofs.unrounds_each.Given as goal

abbrev pub invariant-loop-k : goal.invariant-loop-k
invariant-loop-k g l = (length l.vs ≡ g.row.N) × Split (g.V.Values.under l.f) l.k l.xs l.vs

abbrev pub invariant-loop-v : goal.invariant-loop-v
invariant-loop-v g l =
    let p = g.V.Values.under l.f in
    (length l.v-items ≡ g.row.N)
    × Left p l.v-index l.xs l.v-items l.q
    × ((k : ℕ) → l.v-index ≤ k → k < g.row.N → Undoing (round_function p.key p.h) p.h (get_or l.xs k 0) (l.q + 1) (at l.v-items k).high (at l.v-items k).low)

abbrev pub invariant-loop-q : goal.invariant-loop-q
invariant-loop-q g l = (length l.vs ≡ g.row.N) × Left (g.V.Values.under l.f) g.row.N l.xs l.vs l.q

abbrev pub invariant-loop-k-2 : goal.invariant-loop-k-2
invariant-loop-k-2 g l =
    let p = g.V.Values.under l.fn.f in
    (length l.ys ≡ g.row.N) × ((k : ℕ) → k < l.k → get_or l.ys k 0 ≡ eight_undone p.key p.d (get_or l.fn.xs k 0))
