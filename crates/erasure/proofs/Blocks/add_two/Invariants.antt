-- After j turns the first j blocks are added to both, by going_more.
use Rattle.erasure.proofs.BlockLaws.{Going}
use Rattle.erasure.proofs.Blocks.add_two.Given as goal

abbrev pub invariant-loop-j : goal.invariant-loop-j
invariant-loop-j l =
    Going l.self.size l.j l.ns l.vs l.self.bytes.now l.initial.one l.one × Going l.self.size l.j l.ns l.ws l.self.bytes.now l.initial.two l.two
