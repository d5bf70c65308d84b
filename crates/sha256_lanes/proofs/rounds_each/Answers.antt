-- After k turns the first k lanes are sixteen rounds on, by ran-turn.
use Rattle.std.proofs.Common.{arith}
use Rattle.sha256_lanes.proofs.LoopLaws.{words-are, sixteen, ran-none, ran-turn, ran-done}
use Rattle.sha256_lanes.proofs.rounds_each.Goals as goal

pub loop-k-init : goal.loop-k-init
loop-k-init c = ran-none _ _ _

pub loop-k-preserved : goal.loop-k-preserved
loop-k-preserved c = ran-turn _ c.loop-k.k _ _ _ _ _ _ _ _ c.loop-k.invariant (words-are c.args.t) c.lane-v.ensures c.lane-x.ensures (sixteen _ _ _ _ _ c.rounds8.ensures c.rounds8-in-loop-k.ensures) c.put_lane.ensures

pub returns : goal.returns
returns c = ran-done _ c.loop-k.k _ _ _ _ (omega arith) (omega arith) c.loop-k.invariant
