-- After k turns the first k lanes hold the initial hash value, by filled-turn.
use Rattle.std.proofs.Common.{refl, arith}
use Rattle.sha256_many.proofs.ManyLaws.{filled_none, filled-turn, filled-lane}
use Rattle.sha256_many.proofs.initial_each.Goals as goal

pub loop-k-init : goal.loop-k-init
loop-k-init c = filled_none _ _

pub loop-k-preserved : goal.loop-k-preserved
loop-k-preserved c = filled-turn _ _ _ _ c.loop-k.k c.loop-k.invariant c.put_lane.ensures

pub returns : goal.returns
returns c = filled-lane _ _ _ c.loop-k.k c.initial-h.ensures refl (omega arith) (omega arith) c.loop-k.invariant
