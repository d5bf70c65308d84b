-- A block being mixed into another: one more byte. Assumes nothing.
--   mixed-more     the product by the eight doubles of the weight is added at i
use mathlib.Core.Path.{◌≡◌, ap, ◌∙◌}
use mathlib.Core.List.{List}
use Prim.Native.Nat.{ℕ, ◌+◌, ◌<◌}
use lib.ListN.{length, get_or, set}
use lib.Bits.{bit_xor}
use Rattle.gf256.specs.Field.{plus, times}
use Rattle.gf256.specs.Mixing.{mixed_one, doubles_of, spread_by}
use Rattle.gf256.proofs.FieldLaws.{spread-times}
use Rattle.gf256.proofs.ZipLaws.{zip_to, zip_more}

pub mixed-more : (w i r : ℕ) (ms block before acc : List ℕ) → w < 256 → get_or block i 0 < 256 → ms ≡ doubles_of w → r ≡ spread_by (get_or block i 0) ms
    → acc ≡ zip_to (mixed_one w) i block before → i < length block → length before ≡ length block
    → set acc i (bit_xor (get_or acc i 0) r) ≡ zip_to (mixed_one w) (i + 1) block before
unfolding mixed_one plus
mixed-more w i r ms block before acc hw hb m e z h l =
    let here : r ≡ times (get_or block i 0) w = e ∙ spread-times (get_or block i 0) w ms hb hw m in
    zip_more (mixed_one w) i (bit_xor (get_or acc i 0) r) block before acc z h l (ap (bit_xor (get_or acc i 0)) here)
