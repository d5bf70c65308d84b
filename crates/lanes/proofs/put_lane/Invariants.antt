-- After j turns the first j words are put, by put-turn.
use Rattle.std.proofs.Common.{◌≡◌, take}
use Rattle.lanes.specs.Lanes.{put_lane}
use Rattle.lanes.proofs.put_lane.Given as goal

abbrev pub invariant-loop-j : goal.invariant-loop-j
invariant-loop-j g l = l.s ≡ put_lane l.initial.s l.k (take l.j l.x)
