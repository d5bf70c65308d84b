-- The code of what is left stays, card by card.
use Rattle.std.proofs.Common.{◌≡◌, length}
use Rattle.scheme.specs.Pools.{cut_fault}
use Rattle.pools.proofs.check_cut.Given as goal

abbrev pub invariant-loop-rest : goal.invariant-loop-rest
invariant-loop-rest l = cut_fault l.bytes ≡ cut_fault l.rest

abbrev pub decreases-loop-rest : goal.decreases-loop-rest
decreases-loop-rest l = length l.rest
