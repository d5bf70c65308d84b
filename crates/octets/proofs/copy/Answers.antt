-- After i turns the first i bytes are in place, by copy-again.
use borrow.Author.Rules.{rules}
use mathlib.Core.Path.{refl}
use lib.ListN.{length-set}
use Rattle.octets.proofs.LoopLaws.{copy-none, copy-again, copy_done}
use Rattle.octets.proofs.copy.Goals as goal

pub loop-i-init : goal.loop-i-init
loop-i-init c = (refl, copy-none c.args.dst.now c.args.src.now c.args.at)

pub loop-i-preserved : goal.loop-i-preserved
loop-i-preserved c =
    let l = c.loop-i in
    (simp length-set l.invariant.0, copy-again c.args.dst.now c.args.src.now c.args.at _ l.i c.requires (search rules) l.invariant.1)

pub returns : goal.returns
returns c = copy_done c.args.dst.now c.args.src.now c.args.at _ c.loop-i.i (search rules) c.loop-i.invariant.1
