-- What is left to ask stays, card by card.
use Rattle.std.proofs.Common.{◌≡◌, length}
use Rattle.scheme.specs.Pools.{cut_fault, cut, read_all}
use Rattle.scheme.specs.Pools as P
use Rattle.pools.proofs.absent.Given as goal

abbrev pub invariant-loop-left : goal.invariant-loop-left
invariant-loop-left l = (cut_fault l.left ≡ 0) × (P.absent l.id (read_all (cut l.bytes)) ≡ P.absent l.id (read_all (cut l.left)))

abbrev pub decreases-loop-left : goal.decreases-loop-left
decreases-loop-left l = length l.left
