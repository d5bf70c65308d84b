-- Rounds undone on the halves of each of several numbers. Assumes nothing.
--   at vs k                the halves at k in vs
--   Split p n xs vs        the first n of vs are the halves of those of xs
--   Left p n xs vs q       the rounds below q, undone on them, lead where the eight lead from those of xs
--   written, rewritten     a claim about each element, one having been written, and another claim about those behind it
--   undone-is              with no round left, the number of two halves has the eight rounds undone
use mathlib.Core.Path.{◌≡◌, sym, ap, subst, ◌∙◌}
use mathlib.Core.List.{List}
use mathlib.Core.Logic.{◌⊎◌, inl, inr}
use Prim.Native.Nat.{ℕ, ◌+◌, ◌≤◌, ◌<◌}
use native.Mathlib.Omega.{arith}
use native.Mathlib.Nat.{eq-or-lt_of_le}
use lib.ListN.{length, get_or, set}
use lib.Seq.{get_or-set_same, get_or-set_other}
use Rattle.permutation.specs.declared.Halves.{Halves}
use Rattle.permutation.specs.declared.Permutation.{Permutation}
use Rattle.permutation.specs.Rounds.{joined, Parted, unrounds}
use Rattle.permutation.specs.Permutation.{round_function, eight_undone}
use Rattle.permutation.proofs.HalfLaws.{Undoing}
use Rattle.permutation.proofs.PermutationLaws.{unrounds-at}

abbrev pub at : List Halves → ℕ → Halves
at vs k = get_or vs k (record { high = 0; low = 0 })

abbrev pub Split : Permutation → ℕ → List ℕ → List Halves → Type 0
Split p n xs vs = (k : ℕ) → k < n → Parted p.h (at vs k).high (at vs k).low (get_or xs k 0)

abbrev pub Left : Permutation → ℕ → List ℕ → List Halves → ℕ → Type 0
Left p n xs vs q = (k : ℕ) → k < n → Undoing (round_function p.key p.h) p.h (get_or xs k 0) q (at vs k).high (at vs k).low

module _ {A : Type 0} (vs : List A) (d v : A) (k : ℕ) where
  pub written : (Q : ℕ → A → Type 0) → k < length vs → Q k v → ((j : ℕ) → j < k → Q j (get_or vs j d)) → (j : ℕ) → j < k + 1 → Q j (get_or (set vs k v) j d)
  written Q lt new old j b = pick (eq-or-lt_of_le (omega arith))
    where
      pick : (j ≡ k) ⊎ (j < k) → Q j (get_or (set vs k v) j d)
      pick (inl e) = subst (λ (i : ℕ). Q i (get_or (set vs k v) i d)) (sym e) (subst (Q k) (sym (get_or-set_same vs k v d lt)) new)
      pick (inr l) = subst (Q j) (sym (get_or-set_other vs k j v d (λ e. omega arith))) (old j l)

  pub behind : (Q : ℕ → A → Type 0) (n : ℕ) → ((j : ℕ) → k ≤ j → j < n → Q j (get_or vs j d)) → (j : ℕ) → k + 1 ≤ j → j < n → Q j (get_or (set vs k v) j d)
  behind Q n old j a b = subst (Q j) (sym (get_or-set_other vs k j v d (λ e. omega arith))) (old j (omega arith) b)

pub undone-is : (p : Permutation) {x y q l r : ℕ} → q ≤ 0 → Undoing (round_function p.key p.h) p.h x q l r → y ≡ joined p.h l r → y ≡ eight_undone p.key p.d x
unfolding unrounds
undone-is p {x} {y} {q} {l} {r} z u e =
    let F = round_function p.key p.h in
    let none : 0 ≡ q = omega arith in
    e ∙ ap (λ (n : ℕ). unrounds F p.h n (joined p.h l r)) none ∙ u.rest ∙ unrounds-at p.key p.d x p.half
