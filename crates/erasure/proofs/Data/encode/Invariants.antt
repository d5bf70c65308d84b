-- After i turns the first 2 * i parity blocks are in place, by filled_more.
use Prim.Native.Nat.{◌*◌}
use Rattle.erasure.proofs.ListLaws.{Filled}
use Rattle.erasure.proofs.ParityLaws.{parity_at}
use Rattle.erasure.proofs.Data.encode.Given as goal

abbrev pub invariant-loop-i : goal.invariant-loop-i
invariant-loop-i l =
    let b = l.self.blocks in
    Filled (2 * l.i * b.size) (parity_at b.size l.self.k l.self.k b.bytes.now) l.parity
