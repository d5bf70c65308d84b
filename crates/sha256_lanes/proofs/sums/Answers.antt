-- After j turns the first j words are sums, by sums-turn.
use Rattle.std.proofs.Common.{refl, arith}
use Rattle.sha256.specs.Sha256.{◌⊞◌}
use Rattle.sha256_lanes.proofs.LoopLaws.{sums_none, sums-turn, sums-done}
use Rattle.sha256_lanes.proofs.sums.Goals as goal

pub loop-j-init : goal.loop-j-init
loop-j-init c = sums_none _ _

pub loop-j-preserved : goal.loop-j-preserved
unfolding ◌⊞◌
loop-j-preserved c = sums-turn c.loop-j.j _ _ _ _ c.loop-j.invariant refl

pub returns : goal.returns
returns c = sums-done c.loop-j.j _ _ _ (omega arith) (omega arith) c.loop-j.invariant
