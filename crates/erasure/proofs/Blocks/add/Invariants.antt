-- After j turns the first j blocks are added, by going_more.
use Rattle.erasure.proofs.BlockLaws.{Going}
use Rattle.erasure.proofs.Blocks.add.Given as goal

abbrev pub invariant-loop-j : goal.invariant-loop-j
invariant-loop-j l = Going l.self.size l.j l.ns l.ws l.self.bytes.now l.initial.acc l.acc
