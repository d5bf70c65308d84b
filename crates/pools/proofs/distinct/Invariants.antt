-- What is left to ask stays, card by card.
use Rattle.std.proofs.Common.{◌≡◌, length}
use Rattle.scheme.specs.Pools.{cut_fault, cut, read_all}
use Rattle.scheme.specs.Pools as P
use Rattle.pools.proofs.distinct.Given as goal

abbrev pub invariant-loop-rest : goal.invariant-loop-rest
invariant-loop-rest l = (cut_fault l.rest ≡ 0) × (P.distinct (read_all (cut l.cards.bytes.now)) ≡ P.distinct (read_all (cut l.rest)))

abbrev pub decreases-loop-rest : goal.decreases-loop-rest
decreases-loop-rest l = length l.rest
