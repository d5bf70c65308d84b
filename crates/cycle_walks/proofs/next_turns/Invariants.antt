-- The places of the walks that went on and go on still come first, and behind them those of the walks whose turn is not taken yet (places-next); each
-- turn brings its walk further (walking-next).
use Prim.Native.Nat.{ℕ, ◌+◌, ◌^◌, ◌≤◌}
use mathlib.Core.Path.{◌≡◌}
use mathlib.Core.List.{List, ◌++◌}
use lib.ListN.{length, take}
use lib.Seq.{slice}
use Rattle.cycle_walks.specs.Each.{Below, Walking, going}
use Rattle.cycle_walks.proofs.next_turns.Given as goal

abbrev pub invariant-loop-at : goal.invariant-loop-at
invariant-loop-at l =
    let p = l.t.of in
    let n = length l.initial.ends in
    (l.still ≤ l.at)
    × (length l.ends ≡ n)
    × (length l.places ≡ 256)
    × (take l.still l.places ++ slice l.at l.left l.places ≡ going p.d l.ends n 0)
    × Below (4 ^ p.h) n l.ends
    × ((xs : List ℕ) (m : ℕ) → Below p.d n xs → Walking p.key p.d n xs l.initial.ends m → Walking p.key p.d n xs l.ends (m + l.at))
