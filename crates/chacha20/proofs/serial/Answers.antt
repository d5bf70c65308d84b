-- `chacha20::serial` meets its contract: a turn is `serial-again` of `BlockLaws`.
-- Assumes nothing.
use Rattle.std.proofs.Common.{refl, rules}
use Rattle.chacha20.proofs.BlockLaws.{serial-none, serial-again}
use Rattle.chacha20.proofs.serial.Goals as goal

pub loop-i-init : goal.loop-i-init
loop-i-init c = (refl, serial-none c.args.h)

pub loop-i-preserved : goal.loop-i-preserved
loop-i-preserved c =
    let l = c.loop-i in (
      search rules,
      serial-again c.args.h l.out _ l.i _ (search rules) (search rules) l.invariant.0
          l.invariant.1 c.from.ensures c.put_le.ensures,
    )
