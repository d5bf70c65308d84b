-- After j turns the first j words are put, by put-turn.
use Rattle.std.proofs.Common.{arith}
use Rattle.lanes.proofs.LaneLaws.{put-none, put-turn, put-done}
use Rattle.lanes.proofs.put_lane.Goals as goal

pub loop-j-init : goal.loop-j-init
loop-j-init g c = put-none _ c.args.x _

pub loop-j-preserved : goal.loop-j-preserved
loop-j-preserved g c = put-turn _ _ _ _ c.loop-j.j (omega arith) c.loop-j.invariant

pub returns : goal.returns
returns g c = put-done _ _ _ _ c.loop-j.j (omega arith) c.loop-j.invariant
