-- What is left to ask stays, card by card.
use Rattle.std.proofs.Common.{◌≡◌, length}
use Rattle.scheme.specs.Pools.{cut_fault, cut, every}
use Rattle.scheme.specs.Records.{card_head}
use Rattle.pools.proofs.heads_fit.Given as goal

abbrev pub invariant-loop-rest : goal.invariant-loop-rest
invariant-loop-rest l = (cut_fault l.rest ≡ 0) × (every card_head (cut l.bytes) ≡ every card_head (cut l.rest))

abbrev pub decreases-loop-rest : goal.decreases-loop-rest
decreases-loop-rest l = length l.rest
