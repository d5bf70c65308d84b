-- A turn is `doubles-turn` of `FirstLaws`.
use Rattle.chacha20_lanes.proofs.FirstLaws.{doubles-none, doubles-turn}
use Rattle.chacha20_lanes.proofs.doubles_each.Goals as goal

pub loop-i-init : goal.loop-i-init
loop-i-init c = doubles-none _

pub loop-i-preserved : goal.loop-i-preserved
loop-i-preserved c = doubles-turn _ _ _ c.loop-i._i c.loop-i.invariant c.double_each.ensures
