-- What the loop over marks holds: no mark so far was above 1, and the rest fit. Assumes nothing.
--   fit_none, fit-again, fit-done      before the first mark, after one more, after the last
use Prim.Native.Nat.{ℕ, suc, ◌+◌, ◌/◌, ◌≤◌, ◌<◌}
use native.Mathlib.Omega.{arith}
use native.Mathlib.Numerals.{add-one}
use mathlib.Core.Path.{◌≡◌, refl, sym, ◌∙◌}
use mathlib.Core.Bool.{Bool, true, false, ◌&&◌, and_assoc}
use mathlib.Core.List.{List, []}
use borrow.Author.Tests.{eqb-true, eqb-false, ne_eqb, leb-true, leb-false}
use lib.Bits.{bit_or, or_add_and, and_le_l, and_le_r}
use lib.Dec.{eqb, leb}
use lib.ListN.{length, get_or, drop, drop_of_length-le}
use lib.Seq.{drop-cons}
use Rattle.scheme.specs.Marks.{marks_fit}

or-none : (a b : ℕ) → bit_or a b ≡ 0 → (a ≡ 0) × (b ≡ 0)
or-none a b e = (omega (arith, or_add_and a b, and_le_l a b, and_le_r a b), omega (arith, or_add_and a b, and_le_l a b, and_le_r a b))

-- a mark above 1 is one whose half is not 0
or-half : (d x : ℕ) → eqb (bit_or d (x / 2)) 0 ≡ (eqb d 0 && leb x 1)
or-half d x = go (eqb d 0) (leb x 1) refl refl
  where
    go : (a b : Bool) → eqb d 0 ≡ a → leb x 1 ≡ b → eqb (bit_or d (x / 2)) 0 ≡ (a && b)
    go true true p q =
        let l = leb-true x 1 q in
        let z : x / 2 ≡ 0 = omega arith in
        rw (eqb-true d 0 p, z)
    go true false p q =
        let l = leb-false x 1 q in
        ne_eqb (bit_or d (x / 2)) 0 (λ e. let z = (or-none d (x / 2) e).1 in omega arith)
    go false b p q = ne_eqb (bit_or d (x / 2)) 0 (λ e. eqb-false d 0 p (or-none d (x / 2) e).0)

pub fit_none : (marks : List ℕ) → (eqb 0 0 && marks_fit (drop 0 marks)) ≡ marks_fit marks
fit_none marks = refl

pub fit-again : (marks : List ℕ) (g : Bool) (d i : ℕ) → i < length marks → (eqb d 0 && marks_fit (drop i marks)) ≡ g
    → (eqb (bit_or d (get_or marks i 0 / 2)) 0 && marks_fit (drop (i + 1) marks)) ≡ g
unfolding marks_fit
fit-again marks g d i l e =
    rw (add-one, or-half d (get_or marks i 0), and_assoc (eqb d 0) (leb (get_or marks i 0) 1) (marks_fit (drop (suc i) marks))) (rw (drop-cons marks i 0 l) at e)

pub fit-done : (marks : List ℕ) (g : Bool) (d i : ℕ) → length marks ≤ i → (eqb d 0 && marks_fit (drop i marks)) ≡ g → eqb d 0 ≡ g
unfolding marks_fit
fit-done marks g d i l e =
    let z : drop i marks ≡ [] = drop_of_length-le marks {i = i} l in
    sym (all (eqb d 0)) ∙ rw z at e
  where
    all : (a : Bool) → (a && true) ≡ a
    all true = refl
    all false = refl
