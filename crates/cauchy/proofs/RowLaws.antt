-- Loops and steps of solving. Assumes nothing.
--   row_more, row-end                       a row being summed
--   solve-none, solve-split, rest-solved    solving, of each list's first element and its rest
use mathlib.Core.Path.{◌≡◌, refl, sym, ap, ap₂, ◌∙◌}
use mathlib.Core.List.{List, [], ◌∷◌}
use Prim.Native.Nat.{ℕ, ◌+◌, ◌-◌, ◌<◌}
use native.Mathlib.Numerals.{add-one}
use native.Mathlib.Omega.{arith}
use native.Mathlib.Nat.{le_refl, le_of_eq}
use lib.Bits.{bit_xor}
use lib.ListN.{get_or, length, take, drop, drop_of_length-le, length-drop}
use lib.Seq.{drop-cons, take_all}
use Rattle.gf256.specs.Field.{plus, times}
use Rattle.cauchy.specs.Solve.{weight, row, reduced, unscaled, front, solve}
use Rattle.gf256.proofs.SumLaws.{plus_assoc, plus-zero-r}

-- one more is summed
pub row_more : (u i s a b : ℕ) (vs ds : List ℕ) → i < length vs → length ds ≡ length vs
    → a ≡ weight u (get_or vs i 0) → b ≡ times (get_or ds i 0) a
    → plus (plus s b) (row u (drop (i + 1) vs) (drop (i + 1) ds)) ≡ plus s (row u (drop i vs) (drop i ds))
unfolding row
row_more u i s a b vs ds h l ha hb =
    let k : i < length ds = omega arith in
    plus_assoc s b (row u (drop (i + 1) vs) (drop (i + 1) ds))
    ∙ ap (plus s)
    (ap₂ (λ (x n : ℕ). plus x (row u (drop n vs) (drop n ds))) (hb ∙ ap (times (get_or ds i 0)) ha) (add-one i)
    ∙ sym (ap₂ (row u) (drop-cons vs i 0 h) (drop-cons ds i 0 k)))

row-none : (u i : ℕ) (vs ds : List ℕ) → i ≡ length vs → row u (drop i vs) ds ≡ 0
unfolding row
row-none u i vs ds h = ap (λ (l : List ℕ). row u l ds) (ap (λ (n : ℕ). drop n vs) h ∙ drop_of_length-le vs (le_refl (length vs)))

pub row-end : (u i s : ℕ) (vs ds : List ℕ) → i ≡ length vs → plus s (row u (drop i vs) (drop i ds)) ≡ row u vs ds → s ≡ row u vs ds
row-end u i s vs ds h e = sym (plus-zero-r s) ∙ ap (plus s) (sym (row-none u i vs (drop i ds) h)) ∙ e

-- a list's rest, as a part is lent
pub rest-is : (xs : List ℕ) → take (length xs - 1) (drop 1 xs) ≡ drop 1 xs
rest-is xs = take_all (length xs - 1) (drop 1 xs) (le_of_eq (length-drop 1 xs))

pub solve-none : (us vs ss : List ℕ) → length us ≡ 0 → length ss ≡ 0 → ss ≡ solve us vs ss
unfolding solve
solve-none [] vs [] h l = refl
solve-none [] vs (s ∷ ss) h l = absurd (omega arith)
solve-none (u ∷ us) vs ss h l = absurd (omega arith)

-- the first of each list, and its rest
pub solve-split : (us vs ss rest : List ℕ) (t : ℕ) → 0 < length us → length us ≡ length vs → ss ≡ t ∷ rest
    → solve (get_or us 0 0 ∷ take (length us - 1) (drop 1 us)) (get_or vs 0 0 ∷ take (length vs - 1) (drop 1 vs)) (t ∷ rest) ≡ solve us vs ss
solve-split [] vs ss rest t h k e = absurd (omega arith)
solve-split (u ∷ us) [] ss rest t h k e = absurd (omega arith)
solve-split (u ∷ us) (v ∷ vs) ss rest t h k e =
    ap₂ (λ (xs ys : List ℕ). solve (u ∷ xs) (v ∷ ys) (t ∷ rest)) (rest-is (u ∷ us)) (rest-is (v ∷ vs)) ∙ ap (solve (u ∷ us) (v ∷ vs)) (sym e)

pub rest-solved : {r d : ℕ} {s₁ s₂ s₃ : List ℕ} (w v t : ℕ) (us vs ss : List ℕ)
    → s₁ ≡ reduced w v t us ss → s₂ ≡ solve us vs s₁ → s₃ ≡ unscaled w v vs s₂ → r ≡ row w vs s₃ → d ≡ times (bit_xor w v) (bit_xor t r)
    → d ∷ s₃ ≡ solve (w ∷ us) (v ∷ vs) (t ∷ ss)
unfolding solve front plus
rest-solved {s₃ = s₃} w v t us vs ss h₁ h₂ h₃ hr hd =
    ap (λ (n : ℕ). n ∷ s₃) (hd ∙ ap (λ (n : ℕ). times (bit_xor w v) (bit_xor t n)) hr)
    ∙ ap (front w v t vs) (h₃ ∙ ap (unscaled w v vs) (h₂ ∙ ap (solve us vs) h₁))
