-- Laws of what is hashed before a block. Assumes nothing.
--   head-hashed     a head as far as it is lent, and a block behind it, hash as the block with its mark
--   live-mark       the mark of a live block, as many bytes of it as its version has
use Prim.Native.Nat.{ℕ, ◌+◌}
use native.Mathlib.Omega.{arith}
use mathlib.Core.Path.{◌≡◌, refl, ap, ◌∙◌}
use mathlib.Core.List.{List, [], ◌∷◌, ◌++◌, append_assoc}
use mathlib.Core.Bool.{Bool, true, false, cond}
use lib.ListN.{length, take, length-append}
use lib.Seq.{take-append-add}
use lib.Dec.{eqb}
use Rattle.octets.specs.Octets.{be}
use Rattle.octets.proofs.NumberLaws.{length-be}
use Rattle.sha256.specs.Sha256.{sha256}
use Rattle.scheme.specs.Marks.{marks_in, live}
use Rattle.scheme.specs.Tokens.{block_hash}
use Rattle.standard.specs.Standard.{standard}

pub head-hashed : (c head block : List ℕ) (index mark k : ℕ) → length c ≡ 32 → head ≡ c ++ be 4 index ++ (mark ∷ [])
    → sha256 (take (36 + k) head ++ block) ≡ block_hash standard c index (take k (mark ∷ []) ++ block)
unfolding block_hash
head-hashed c head block index mark k l e =
    let front : List ℕ = c ++ be 4 index in
    let long : 36 + k ≡ length front + k = omega (arith, length-append c (be 4 index), length-be 4 index) in
    ap (λ (h : List ℕ). sha256 (take (36 + k) h ++ block)) e
    ∙ ap (λ (n : ℕ). sha256 (take n (front ++ (mark ∷ [])) ++ block)) long
    ∙ ap (λ (h : List ℕ). sha256 (h ++ block)) (take-append-add front (mark ∷ []) k)
    ∙ ap sha256 (append_assoc front (take k (mark ∷ [])) block)

pub live-mark : (v : ℕ) → take {A = ℕ} (marks_in v) (0 ∷ []) ≡ live v
unfolding marks_in live
live-mark v = go (eqb v 1)
  where
    go : (b : Bool) → take {A = ℕ} (cond b 0 1) (0 ∷ []) ≡ cond b [] (0 ∷ [])
    go true = refl
    go false = refl
