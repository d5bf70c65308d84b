-- What is done and what is left give the xor, by xor-again.
use borrow.Author.Rules.{rules}
use Rattle.octets.proofs.LoopLaws.{xor-again, xor-done}
use Rattle.octets.proofs.xor_into.Goals as goal

pub loop-i-preserved : goal.loop-i-preserved
loop-i-preserved c = xor-again c.loop-i.dst _ _ c.loop-i.i (search rules) (search rules) c.loop-i.invariant

pub returns : goal.returns
returns c = xor-done c.loop-i.dst _ _ c.loop-i.i (search rules) c.loop-i.invariant
