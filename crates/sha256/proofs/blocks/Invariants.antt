-- The blocks that are left give, from the hash value so far, what all of them give.
use Rattle.std.proofs.Common.{◌≡◌, ◌/◌, length}
use Rattle.std.specs.Slice.Iter.{chunks_exact_rest, chunks_exact_size}
use Rattle.sha256.specs.Sha256.{chain}
use Rattle.sha256.proofs.blocks.Given as goal

abbrev pub invariant-loop-block : goal.invariant-loop-block
invariant-loop-block l =
    let rest = chunks_exact_rest l.block-iterator in
    (chunks_exact_size l.block-iterator ≡ 64) × (chain (length rest / 64) l.h rest ≡ chain (length l.piece / 64) l.initial.h l.piece)
