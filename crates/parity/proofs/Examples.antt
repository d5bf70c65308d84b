-- Worked examples, computed. Assumes nothing.
--   weighed         products, the weights of the first parity of two data blocks, and both parity bytes of two data bytes
--   mended          a lost data byte from the other and the lowest parity byte left, whatever stands in its place
--   small-inputs    each refusal of both calls, and pairs of faults in their order
use mathlib.Core.Path.{◌≡◌, refl}
use mathlib.Core.List.{[], ◌∷◌}
use lib.ListN.{replicate}
use Rattle.scheme.specs.Checks.{first}
use Rattle.gf256.specs.Field.{plus, modulus, double, bits_times, times, sought, inverse}
use Rattle.gf256.specs.Mixing.{zipped}
use Rattle.cauchy.specs.Solve.{weight, row, reduced_one, reduced, unscaled_one, unscaled, front, solve}
use Rattle.erasure.specs.Group.{tabulate_from, tabulate, count, parity_byte, named, chosen, sum_of, recovered, encoded}
use Rattle.parity.specs.Rebuilt.{rebuilt_byte, rebuilt}
use Rattle.parity.specs.Calls.{named_once, encode_code, encode_parity, rebuild_code, rebuild_data}

-- 2 × 128 is 0x1D; parity 0 of two data blocks weighs them by the inverses of 2 and of 3
pub weighed : (times 2 128 ≡ 0x1D) × (times 2 142 ≡ 1) × (weight 2 0 ≡ 142) × (weight 2 1 ≡ 244) × (encode_parity 1 2 2 (3 ∷ 5 ∷ []) (0 ∷ 0 ∷ []) ≡ 140 ∷ 141 ∷ [])
unfolding times bits_times double modulus plus weight inverse sought row count parity_byte tabulate_from tabulate encoded encode_parity encode_code first
weighed = (refl, refl, refl, refl, refl)

pub mended : (rebuild_data 1 2 2 (99 ∷ 5 ∷ 140 ∷ 141 ∷ []) (0 ∷ []) (0 ∷ 0 ∷ []) ≡ 3 ∷ 5 ∷ []) × (rebuild_data 1 2 2 (3 ∷ 99 ∷ 99 ∷ 141 ∷ []) (2 ∷ 1 ∷ []) (0 ∷ 0 ∷ []) ≡ 3 ∷ 5 ∷ [])
unfolding times bits_times double modulus plus weight inverse sought row count tabulate_from tabulate named chosen zipped reduced_one reduced unscaled_one unscaled front solve sum_of recovered rebuilt_byte rebuilt rebuild_data rebuild_code named_once first
mended = (refl, refl)

-- B 0 and 4,097; no data block, 49, 17 parity blocks; a lost block named twice and one not in the group; three lost, p 2; lengths; and each with the faults behind it
pub small-inputs : (encode_code 0 0 2 [] [] ≡ 3) × (encode_code 4097 3 2 [] [] ≡ 3) × (encode_code 1 0 2 [] [] ≡ 24) × (encode_code 1 49 2 [] [] ≡ 24) × (encode_code 1 3 17 [] [] ≡ 24)
    × (encode_code 1 3 2 (replicate 2 0) (replicate 2 0) ≡ 1) × (encode_code 1 3 2 (replicate 3 0) (replicate 3 0) ≡ 1) × (encode_code 1 3 2 (replicate 3 0) (replicate 2 0) ≡ 0)
    × (rebuild_code 0 0 2 [] (9 ∷ []) [] ≡ 3) × (rebuild_code 1 3 0 [] (0 ∷ 1 ∷ 2 ∷ []) [] ≡ 24) × (rebuild_code 1 3 2 [] (5 ∷ []) [] ≡ 24) × (rebuild_code 1 3 2 [] (0 ∷ 1 ∷ 2 ∷ 1 ∷ []) [] ≡ 24)
    × (rebuild_code 1 3 2 [] (0 ∷ 1 ∷ 2 ∷ []) [] ≡ 25) × (rebuild_code 1 3 2 (replicate 4 0) (4 ∷ 0 ∷ []) (replicate 3 0) ≡ 1) × (rebuild_code 1 3 2 (replicate 5 0) (4 ∷ 0 ∷ []) (replicate 2 0) ≡ 1)
    × (rebuild_code 1 3 2 (replicate 5 0) (4 ∷ 0 ∷ []) (replicate 3 0) ≡ 0) × (rebuild_code 1 3 2 (replicate 5 0) [] (replicate 3 0) ≡ 0)
unfolding encode_code rebuild_code named_once named first
small-inputs = (refl, refl, refl, refl, refl, refl, refl, refl, refl, refl, refl, refl, refl, refl, refl, refl, refl)
