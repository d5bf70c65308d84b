-- After j turns the first j words of the schedule are put, by load-turn.
use Rattle.std.proofs.Common.{arith}
use Rattle.sha256.specs.Sha256 as S
use Rattle.sha256_lanes.proofs.LoopLaws.{load-none, load-turn, load-done}
use Rattle.sha256_lanes.proofs.load.Goals as goal

pub loop-j-init : goal.loop-j-init
loop-j-init c = load-none _ _ _

pub loop-j-preserved : goal.loop-j-preserved
unfolding S.word
loop-j-preserved c = load-turn _ _ _ _ c.loop-j.j _ c.loop-j-test.true c.loop-j.invariant c.be.ensures.0

pub returns : goal.returns
returns c = load-done _ _ _ _ c.loop-j.j (omega arith) (omega arith) c.loop-j.invariant
