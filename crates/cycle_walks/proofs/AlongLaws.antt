-- Rows one behind the other. Assumes nothing.
--   row_below, row_next      a row is below d; the row behind
--   along-none               the turns from no row
--   along_one, along-group   .. from one row more, and from a group of rows more
--   along-most               what they are at most
use mathlib.Core.Path.{◌≡◌, refl, sym, ap, ◌∙◌}
use mathlib.Core.List.{List}
use Prim.Native.Nat.{ℕ, ◌+◌, ◌*◌, ◌%◌, ◌≤◌, ◌<◌}
use native.Mathlib.Omega.{arith}
use native.Mathlib.Nat.{mod-lt, mod-add-mod}
use native.Mathlib.Numerals.{add-one}
use lib.ListN.{get_or}
use Rattle.permutation.specs.Rounds.{half}
use Rattle.permutation.specs.Permutation.{backward_turns}
use Rattle.permutation.proofs.WidthLaws.{half_le, whole_le}
use Rattle.permutation.proofs.PermutationLaws.{backward-most}
use Rattle.cycle_walks.specs.Each.{sum_below, turns_of}
use Rattle.cycle_walks.specs.Along.{turns_along}
use Rattle.cycle_walks.proofs.SumLaws.{sum_same, sum-most, sum-split}

pub row_below : (d x row : ℕ) → 1 ≤ d → row ≡ x % d → row < d
row_below d x row some e = omega (arith, e, mod-lt x some)

pub row_next : (d from i row r : ℕ) → row ≡ (from + i) % d → r ≡ (row + 1) % d → r ≡ (from + (i + 1)) % d
row_next d from i row r e q =
    let z : from + i + 1 ≡ from + (i + 1) = omega arith in
    q ∙ ap (λ (k : ℕ). (k + 1) % d) e ∙ mod-add-mod (from + i) d 1 ∙ ap (λ (k : ℕ). k % d) z

module _ (key : List ℕ) (d from : ℕ) where
  pub along-none : turns_along key d from 0 ≡ 0
  unfolding sum_below
  along-none = refl

  pub along_one : (i row : ℕ) → row ≡ (from + i) % d → turns_along key d from (i + 1) ≡ turns_along key d from i + backward_turns key d row
  unfolding sum_below
  along_one i row e =
      ap (turns_along key d from) (add-one i) ∙ ap (λ (k : ℕ). turns_along key d from i + backward_turns key d k) (sym e)

  pub along-group : (i m : ℕ) (vs : List ℕ) → ((j : ℕ) → j < m → get_or vs j 0 ≡ (from + i + j) % d)
      → turns_along key d from (i + m) ≡ turns_along key d from i + turns_of key d m vs
  unfolding turns_of
  along-group i m vs rows =
      let f : ℕ → ℕ = λ j. backward_turns key d ((from + j) % d) in
      sum-split f i m
      ∙ ap (λ (k : ℕ). sum_below i f + k)
      (sum_same (λ j. f (i + j)) (λ j. backward_turns key d (get_or vs j 0)) m
      (λ j l. let z : from + (i + j) ≡ from + i + j = omega arith in
      ap (λ (k : ℕ). backward_turns key d (k % d)) z ∙ ap (backward_turns key d) (sym (rows j l))))

  pub along-most : (n : ℕ) → 1 ≤ d → d ≤ 1048576 → turns_along key d from n ≤ n * 1048576
  along-most n some few =
      sum-most (λ i. backward_turns key d ((from + i) % d)) 1048576 n
      (λ i l.
      let b : (from + i) % d < d = mod-lt (from + i) some in
      omega (arith, backward-most key d ((from + i) % d) b, whole_le (half d) (half_le d few), b))
