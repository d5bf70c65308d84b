-- The words of the nonce are 0, 0 and q as a highest byte, and the first word of the block is its first four bytes (round-function-is).
use mathlib.Core.Path.{ap, ◌∙◌}
use Prim.Native.Nat.{ℕ, ◌%◌, ◌^◌}
use Rattle.permutation.proofs.MachineLaws.{round-function-is}
use Rattle.permutation.proofs.PermutationValues.value.Goals as goal

pub returns : goal.returns
returns c =
    let p = c.args.self in
    c.low.ensures
    ∙ ap (λ (w : ℕ). w % 2 ^ p.h) c.from.ensures
    ∙ round-function-is p.key _ p.h c.args.q c.args.r c.block_words-words.ensures
