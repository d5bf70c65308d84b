-- A turn is `each_turn` of `FirstLaws`.
use Rattle.chacha20_lanes.proofs.FirstLaws.{each_none, each_turn}
use Rattle.chacha20_lanes.proofs.double_each.Goals as goal

pub loop-k-init : goal.loop-k-init
loop-k-init c = each_none _

pub loop-k-preserved : goal.loop-k-preserved
loop-k-preserved c = each_turn _ _ _ _ _ c.loop-k.k c.loop-k.invariant c.lane-x.ensures c.double.ensures c.put_lane.ensures
