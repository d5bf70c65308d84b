-- Turn after turn the walks come further, by what first_turns and next_turns ensure; where none goes on all have come home (walking-end). The measure is
-- how many turns are ahead.
use Prim.Native.Nat.{◌^◌, ◌≤◌}
use mathlib.Core.Path.{◌≡◌}
use lib.ListN.{length, take}
use Rattle.cycle_walks.specs.Each.{Below, Walking, ahead_of, going}
use Rattle.cycle_walks.proofs.side_by_side.Given as goal

abbrev pub invariant-loop-left : goal.invariant-loop-left
invariant-loop-left l =
    let p = l.t.of in
    let n = length l.fn.ends in
    (l.left ≤ n)
    × (length l.ends ≡ n)
    × (length l.places ≡ 256)
    × (take l.left l.places ≡ going p.d l.ends n 0)
    × Below (4 ^ p.h) n l.ends
    × Walking p.key p.d n l.xs l.ends l.turns

abbrev pub decreases-loop-left : goal.decreases-loop-left
decreases-loop-left l = ahead_of l.t.of.key l.t.of.d (length l.fn.ends) l.ends
