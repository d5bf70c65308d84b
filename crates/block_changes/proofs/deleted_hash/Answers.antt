-- A mark and zeros cut short, by deleted-mark and take-replicate.
use native.Mathlib.Omega.{arith}
use Prim.Native.Nat.{ℕ, ◌≤◌}
use mathlib.Core.Path.{◌≡◌, refl, sym, ap, ap₂, ◌∙◌}
use mathlib.Core.List.{List, ◌++◌}
use lib.ListN.{length, take, replicate, length-replicate}
use lib.Seq.{length-take-le}
use Rattle.octets.proofs.ListLaws.{take-replicate}
use Rattle.scheme.specs.Tokens.{block_hash}
use Rattle.standard.specs.Standard.{standard}
use Rattle.block_changes.proofs.ContentLaws.{deleted-mark}
use Rattle.block_changes.proofs.deleted_hash.Goals as goal

-- zeros, and a list of one byte, cut short
zeros-long : (n : ℕ) → n ≤ 4096 → length (take n (replicate {A = ℕ} 4096 0)) ≡ n
zeros-long n h = ap length (take-replicate n 4096 0 h) ∙ length-replicate n 0

mark-few : (n : ℕ) (xs : List ℕ) → length xs ≡ 1 → n ≤ 1 → length (take n xs) ≤ 1
mark-few n xs l h = omega (arith, length-take-le n xs (omega arith))

pub returns : goal.returns
returns c =
    let counted = c.marks_in-k in
    let a = c.args in
    c.block_hash.ensures
    ∙ ap₂ (λ (m z : List ℕ). block_hash standard a.c a.index (m ++ z))
    (ap (λ (k : ℕ). take k (replicate 1 1)) counted.ensures.0 ∙ deleted-mark a.version) (take-replicate a.size 4096 0 c.requires)
