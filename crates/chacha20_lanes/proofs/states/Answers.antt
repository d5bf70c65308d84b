-- A turn is `states-turn` of `FirstLaws`.
use Rattle.chacha20_lanes.proofs.FirstLaws.{states-none, states-turn}
use Rattle.chacha20_lanes.proofs.states.Goals as goal

pub loop-k-init : goal.loop-k-init
loop-k-init c = states-none _ _ _ _

pub loop-k-preserved : goal.loop-k-preserved
loop-k-preserved c = states-turn _ _ _ _ _ _ _ c.loop-k.k c.loop-k.invariant c.state-x.ensures c.put_lane.ensures
