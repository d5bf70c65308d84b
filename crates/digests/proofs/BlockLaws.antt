-- Laws of blocks that lie one after the other in a buffer. Assumes nothing.
--   bytes-few         as many bytes as the limits allow
--   mark-taken        the mark of a block, as the code reads it
--   row_up            with more blocks a row has no fewer columns
--   located            a column that a row has, and the blocks before do not reach, holds a block of the buffer
--   block-behind      a block behind others, by its place
use Prim.Native.Nat.{ℕ, zero, suc, ◌+◌, ◌*◌, ◌-◌, ◌≤◌, ◌<◌}
use native.Mathlib.Omega.{arith}
use native.Mathlib.Nat.{suc-mul, mul-le-mul_right, le_trans}
use mathlib.Core.Path.{◌≡◌, refl, sym, ap, subst, ◌∙◌}
use mathlib.Core.Logic.{◌≢◌}
use mathlib.Core.List.{List, [], ◌∷◌, ◌++◌}
use lib.ListN.{length, get_or, take, replicate, length-replicate}
use lib.Seq.{get_or-append-add}
use Rattle.octets.specs.Octets.{part}
use Rattle.octets.proofs.PartLaws.{part-more}
use Rattle.scheme.specs.Tokens.{block_in, columns_of, block_at}
use Rattle.scheme.proofs.laws.GeometryLaws.{in_blocks, columns-up, behind-blocks}
use Rattle.digests.specs.Layout.{contents, content_at, Lies, Row, Located, behind, place}
use Rattle.digests.specs.declared.Span.{Span}
use Rattle.digests.proofs.ContentLaws.{content-at}

pub bytes-few : (m B : ℕ) → m ≤ 16777216 → B ≤ 4096 → m * B ≤ 68719476736
bytes-few m B h l = le_trans (mul-le-mul_right B h) (omega (arith, l))

-- a mark of one byte
pub mark-taken : (k a : ℕ) (marks : List ℕ) → k ≤ 1 → k ≢ 0 → a + k ≤ length marks → take k (get_or marks a 0 ∷ []) ≡ part a k marks
mark-taken zero a marks h some l = absurd (some refl)
mark-taken (suc zero) a marks h some l =
    let z : a + 0 ≡ a = omega arith in
    sym (part-more a 0 marks 0 (omega arith) ∙ ap (λ (i : ℕ). get_or marks i 0 ∷ []) z)
mark-taken (suc (suc k)) a marks h some l = absurd (omega arith)

pub row_up : (d n m ρ : ℕ) → 1 ≤ d → Row d ρ → columns_of d n ρ ≤ columns_of d (n + m) ρ
row_up d n m ρ pos row =
    let up : ρ - 1 + 1 ≡ ρ = omega (arith, row.from_one) in
    subst (λ (x : ℕ). columns_of d n x ≤ columns_of d (n + m) x) up (columns-up d pos n (n + m) (ρ - 1) (omega arith))

module _ (b : Span) (n ρ q : ℕ) (xs marks : List ℕ) (lies : Lies b xs marks) (few : n + b.count ≤ 16777216) (row : Row b.rows ρ)
    (older : columns_of b.rows n ρ ≤ q) (there : q < columns_of b.rows (n + b.count) ρ) where
  up : ρ ≡ ρ - 1 + 1
  up = omega (arith, row.from_one)

  below : q * b.rows + (ρ - 1) < n + b.count
  below =
      in_blocks b.rows (omega (arith, lies.rowed)) (n + b.count) (ρ - 1) q (omega (arith, row.from_one, row.most))
      (subst (λ (x : ℕ). q < columns_of b.rows (n + b.count) x) up there)

  above : n ≤ q * b.rows + (ρ - 1)
  above = behind-blocks b.rows (omega (arith, lies.rowed)) n (ρ - 1) q (subst (λ (x : ℕ). columns_of b.rows n x ≤ q) up older)

  there-few : place b n ρ q < b.count
  unfolding place block_in
  there-few = omega (arith, below, above, row.from_one)

  pub located : Located b n ρ q xs marks
  located =
      let end : place b n ρ q * b.size + b.size ≤ b.count * b.size =
      le_trans (omega (arith, suc-mul (place b n ρ q) b.size)) (mul-le-mul_right {m = suc (place b n ρ q)} {n = b.count} b.size (omega (arith, there-few))) in
      record {
        later = omega (arith, above, row.from_one);
        few = omega (arith, below, row.from_one);
        small = lies.small;
        lone = lies.lone;
        inside = omega (arith, end, lies.whole);
        told = lies.told (place b n ρ q) there-few;
      }

  pub block-behind : block_at (block_in b.rows ρ q) (behind n (contents b xs marks)) ≡ content_at b (place b n ρ q) xs marks
  unfolding block_at block_in behind place
  block-behind =
      let e = q * b.rows + ρ - n - 1 in
      let at : q * b.rows + ρ - 1 ≡ length (replicate {A = List ℕ} n []) + e = omega (arith, length-replicate {A = List ℕ} n [], above, row.from_one) in
      ap (λ (k : ℕ). get_or (replicate n [] ++ contents b xs marks) k []) at
      ∙ get_or-append-add (replicate n []) (contents b xs marks) e []
      ∙ content-at b xs marks e (omega (arith, below, above, row.from_one))
