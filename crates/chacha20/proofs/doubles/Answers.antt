-- `chacha20::doubles` meets its contract: a turn is `doubles-more` of `BlockLaws`.
-- Assumes nothing.
use Rattle.chacha20.proofs.BlockLaws.{doubles-none, doubles-more}
use Rattle.chacha20.proofs.doubles.Goals as goal

pub loop-i-init : goal.loop-i-init
loop-i-init c = doubles-none _

pub loop-i-preserved : goal.loop-i-preserved
loop-i-preserved c = doubles-more _ _ _ c.loop-i._i c.loop-i.invariant c.double-u.ensures
