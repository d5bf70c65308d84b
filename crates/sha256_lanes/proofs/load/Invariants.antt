-- After j turns the first j words of the schedule are put, by load-turn.
use mathlib.Core.Path.{◌≡◌}
use Rattle.sha256.specs.Sha256 as S
use Rattle.lanes.specs.Lanes.{put_lane}
use Rattle.sha256_lanes.proofs.load.Given as goal

abbrev pub invariant-loop-j : goal.invariant-loop-j
invariant-loop-j l = l.w ≡ put_lane l.initial.w l.k (S.schedule l.m l.j)
