-- After j turns the array holds the first j words of the lane, by get-turn.
use Rattle.std.proofs.Common.{◌≡◌, length, take}
use Rattle.lanes.specs.Lanes.{lane}
use Rattle.lanes.proofs.lane.Given as goal

abbrev pub invariant-loop-j : goal.invariant-loop-j
invariant-loop-j g l = (length l.x ≡ g.row.W) × (take l.j l.x ≡ lane l.k l.s l.j)
