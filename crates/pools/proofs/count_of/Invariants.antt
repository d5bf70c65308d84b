-- The cards that are left, and those counted before them.
use Rattle.std.proofs.Common.{◌≡◌, ◌+◌, length}
use Rattle.scheme.specs.Pools.{cut_fault, cut}
use Rattle.pools.proofs.count_of.Given as goal

abbrev pub invariant-loop-rest : goal.invariant-loop-rest
invariant-loop-rest l = (cut_fault l.rest ≡ 0) × (l.count + length (cut l.rest) ≡ length (cut l.cards.bytes.now))

abbrev pub decreases-loop-rest : goal.decreases-loop-rest
decreases-loop-rest l = length l.rest
