-- After each walk those so far have taken their first turn, by walking-first, and the places of those that go on come first, by places-first.
use Prim.Native.Nat.{◌^◌, ◌≤◌}
use mathlib.Core.Path.{◌≡◌}
use lib.ListN.{length, take}
use Rattle.cycle_walks.specs.Each.{Below, Walking, going}
use Rattle.cycle_walks.proofs.first_turns.Given as goal

abbrev pub invariant-loop-i : goal.invariant-loop-i
invariant-loop-i l =
    let p = l.t.of in
    (l.left ≤ l.i)
    × (length l.ends ≡ length l.initial.ends)
    × (length l.places ≡ 256)
    × (take l.left l.places ≡ going p.d l.ends l.i 0)
    × Below (4 ^ p.h) l.i l.ends
    × Walking p.key p.d l.i l.xs l.ends l.i
