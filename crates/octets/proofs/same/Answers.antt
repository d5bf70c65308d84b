-- Nothing differed so far and the rest is the same, by same-again.
use borrow.Author.Rules.{rules}
use Rattle.octets.proofs.LoopLaws.{same-again, same-done}
use Rattle.octets.proofs.same.Goals as goal

pub loop-i-preserved : goal.loop-i-preserved
loop-i-preserved c = same-again _ _ _ c.loop-i.d c.loop-i.i (search rules) (search rules) c.loop-i.invariant

pub returns : goal.returns
returns c = same-done _ _ _ c.loop-i.d c.loop-i.i (search rules) (search rules) c.loop-i.invariant
