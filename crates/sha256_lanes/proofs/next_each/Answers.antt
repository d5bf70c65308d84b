-- After k turns the first k lanes are sixteen words on, by moved-turn.
use Rattle.std.proofs.Common.{arith}
use Rattle.sha256_lanes.proofs.LoopLaws.{moved_none, moved-turn, moved-done}
use Rattle.sha256_lanes.proofs.next_each.Goals as goal

pub loop-k-init : goal.loop-k-init
loop-k-init c = moved_none _

pub loop-k-preserved : goal.loop-k-preserved
loop-k-preserved c = moved-turn c.loop-k.k _ _ _ _ _ c.loop-k.invariant c.lane.ensures c.next16-x.ensures c.put_lane.ensures

pub returns : goal.returns
returns c = moved-done c.loop-k.k _ _ _ (omega arith) (omega arith) c.loop-k.invariant
