-- Worked examples, computed. Assumes nothing.
--   quoted          a sheet of 12 blocks in five rows, and its bytes
--   rows-of-nine    nine, ten and one blocks in five rows: the least and the most are one where n is a multiple of d, or all rows are read
--   risks           the chance with no damaged row, with all, and with more positions than sound rows
--   small-inputs    each refusal, and pairs of faults in their order
use Prim.Native.Nat.{◌^◌}
use mathlib.Core.Path.{◌≡◌, refl}
use mathlib.Core.List.{[], ◌∷◌, ◌++◌}
use lib.Count.{count_leading_zeros}
use lib.ListN.{replicate}
use Rattle.octets.specs.Octets.{le, be}
use Rattle.permutation.specs.Rounds.{bit_length, half}
use Rattle.scheme.specs.Checks.{first}
use Rattle.scheme.specs.Records.{shape_fits, token_fits, blocks_fit}
use Rattle.planning.specs.Sheet.{table_bytes, ceiling, least, most, up, figure, escape, sheet_fits, sheet_code, sheet_bytes, sheet_out}

-- d 5, r 3, t 3, n 12, m 1: "Three tokens need 189 table bytes"; 3 + 4^2 - 5 turns; rows 1 and 2 have three blocks and the others two; the chance is 2 / 5
pub quoted : (table_bytes 3 ≡ 189) × (ceiling 5 3 ≡ 14) × (least 5 3 12 ≡ 6) × (most 5 3 12 ≡ 8) × (figure 5 1 1 ≡ 3435973837) × (figure 5 1 2 ≡ 2576980378)
    × (escape 5 3 1 ≡ 1717986919)
    × (sheet_out 9 5 3 3 12 1 (replicate 40 0) ≡ replicate 7 0 ++ (189 ∷ []) ++ replicate 7 0 ++ (14 ∷ []) ++ replicate 7 0 ++ (6 ∷ []) ++ replicate 7 0 ++ (8 ∷ [])
    ++ replicate 4 0 ++ (0x66 ∷ 0x66 ∷ 0x66 ∷ 0x67 ∷ []))
unfolding table_bytes ceiling least most escape figure up sheet_out sheet_code sheet_bytes sheet_fits shape_fits token_fits blocks_fit first half bit_length count_leading_zeros be le
quoted = (refl, refl, refl, refl, refl, refl, refl, refl)

-- of nine blocks, four rows of five have two; of one block, one row has it
pub rows-of-nine : (least 5 2 9 ≡ 3) × (most 5 2 9 ≡ 4) × (least 5 5 9 ≡ 9) × (most 5 5 9 ≡ 9) × (least 5 2 10 ≡ 4) × (most 5 2 10 ≡ 4) × (least 5 2 1 ≡ 0) × (most 5 2 1 ≡ 1)
unfolding least most
rows-of-nine = (refl, refl, refl, refl, refl, refl, refl, refl)

pub risks : (escape 5 3 0 ≡ 2 ^ 32) × (escape 5 2 3 ≡ 429496730) × (escape 5 3 3 ≡ 0) × (escape 5 1 5 ≡ 0) × (escape 1 1 0 ≡ 2 ^ 32)
unfolding escape figure up
risks = (refl, refl, refl, refl, refl)

-- a buffer of 39 bytes; B 0, r 6 with d 5, no blocks; m 6 with d 5; and each with the faults behind it
pub small-inputs : (sheet_code 9 5 3 3 12 1 (replicate 39 0) ≡ 1) × (sheet_code 0 5 3 3 12 6 (replicate 39 0) ≡ 1) × (sheet_code 0 5 3 3 12 1 (replicate 40 0) ≡ 3)
    × (sheet_code 9 5 6 3 12 1 (replicate 40 0) ≡ 3) × (sheet_code 9 5 3 3 0 1 (replicate 40 0) ≡ 3) × (sheet_code 9 5 3 3 0 6 (replicate 40 0) ≡ 3)
    × (sheet_code 9 5 3 3 12 6 (replicate 40 0) ≡ 21) × (sheet_code 9 5 3 3 12 5 (replicate 40 0) ≡ 0) × (sheet_code 9 5 3 3 1 5 (replicate 40 0) ≡ 0)
unfolding sheet_code sheet_fits shape_fits token_fits blocks_fit first
small-inputs = (refl, refl, refl, refl, refl, refl, refl, refl, refl)
