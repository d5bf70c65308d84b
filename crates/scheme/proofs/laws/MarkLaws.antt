-- Laws of marks: the contents of blocks, and the host's blocks and marks. Assumes nothing.
--   Formed, live-formed, deleted-formed, alike-formed   a content: a mark that fits, then B bytes
--   alike-long                                          how many contents there are
--   bytes-long, marks-long, marks-low, marked-back      the current blocks as a host holds them, put together again
use Prim.Native.Nat.{ℕ, suc, ◌+◌, ◌*◌}
use native.Mathlib.Omega.{arith}
use native.Mathlib.Nat.{zero-mul}
use mathlib.Core.Path.{◌≡◌, refl, sym, ap, ap₂, ◌∙◌}
use mathlib.Core.List.{List, [], ◌∷◌, ◌++◌}
use mathlib.Core.Bool.{Bool, true, false, cond}
use lib.ListN.{length, take, drop, length-append, length-drop, take-append-drop}
use lib.Seq.{take_at, drop_at, length-take-le}
use lib.Dec.{eqb, leb}
use Rattle.scheme.specs.Lists.{pieces}
use Rattle.scheme.specs.Marks.{marks_in, live, deleted, marked, alike, marks_fit, bytes_of, marks_of}
use Rattle.scheme.proofs.laws.CheckLaws.{both, pair}
use Rattle.scheme.proofs.laws.TableLaws.{one_more, All, Sized}

-- a content: a mark that fits, then B bytes
pub record Formed (v B : ℕ) (x : List ℕ) : Type 0 where
  pub long : length x ≡ marks_in v + B
  pub low : marks_fit (take (marks_in v) x) ≡ true

module _ (v B : ℕ) (x : List ℕ) (h : length x ≡ B) where
  -- the mark of version 1 is empty, that of another one byte
  mark-formed : (k : ℕ) → leb k 1 ≡ true → Formed v B (cond (eqb v 1) [] (k ∷ []) ++ x)
  unfolding marks_in marks_fit
  mark-formed k fits = record { long = unfold marks_in in long (eqb v 1); low = unfold marks_in marks_fit in low (eqb v 1) }
    where
      long : (b : Bool) → length (cond b [] (k ∷ []) ++ x) ≡ cond b 0 1 + B
      long true = omega arith
      long false = omega arith

      low : (b : Bool) → marks_fit (take (cond b 0 1) (cond b [] (k ∷ []) ++ x)) ≡ true
      low true = refl
      low false = rw fits

  pub live-formed : Formed v B (live v ++ x)
  unfolding live
  live-formed = mark-formed _ refl

  pub deleted-formed : Formed v B (deleted v ++ x)
  unfolding deleted
  deleted-formed = mark-formed _ refl

pub alike-formed : (v B : ℕ) (xs : List (List ℕ)) → Sized B xs → All (Formed v B) (alike (live v) xs)
unfolding alike
alike-formed v B [] s = tt
alike-formed v B (x ∷ xs) s = (live-formed v B x s.0, alike-formed v B xs s.1)

pub alike-long : (m : List ℕ) (xs : List (List ℕ)) → length (alike m xs) ≡ length xs
unfolding alike
alike-long m [] = refl
alike-long m (x ∷ xs) = ap suc (alike-long m xs)

marks-append : (xs ys : List ℕ) → marks_fit xs ≡ true → marks_fit ys ≡ true → marks_fit (xs ++ ys) ≡ true
unfolding marks_fit
marks-append [] ys h g = g
marks-append (x ∷ xs) ys h g =
    let p = both (leb x 1) (marks_fit xs) h in
    pair (leb x 1) (marks_fit (xs ++ ys)) p.0 (marks-append xs ys p.1 g)

-- the host's blocks and marks
module _ (v B : ℕ) where
  pub bytes-long : (blocks : List (List ℕ)) → All (Formed v B) blocks → length (bytes_of v blocks) ≡ length blocks * B
  unfolding bytes_of
  bytes-long [] s = sym (zero-mul B)
  bytes-long (x ∷ xs) s =
      omega (arith, length-append (drop (marks_in v) x) (bytes_of v xs), length-drop (marks_in v) x, s.0.long, bytes-long xs s.1, one_more (length xs) B)

  pub marks-long : (blocks : List (List ℕ)) → All (Formed v B) blocks → length (marks_of v blocks) ≡ length blocks * marks_in v
  unfolding marks_of
  marks-long [] s = sym (zero-mul (marks_in v))
  marks-long (x ∷ xs) s =
      omega (
        arith,
        length-append (take (marks_in v) x) (marks_of v xs),
        length-take-le (marks_in v) x (omega (arith, s.0.long)),
        marks-long xs s.1,
        one_more (length xs) (marks_in v),
      )

  pub marks-low : (blocks : List (List ℕ)) → All (Formed v B) blocks → marks_fit (marks_of v blocks) ≡ true
  unfolding marks_of marks_fit
  marks-low [] s = refl
  marks-low (x ∷ xs) s = marks-append (take (marks_in v) x) (marks_of v xs) s.0.low (marks-low xs s.1)

  pub marked-back : (blocks : List (List ℕ)) → All (Formed v B) blocks
      → marked (pieces (marks_in v) (length blocks) (marks_of v blocks)) (pieces B (length blocks) (bytes_of v blocks)) ≡ blocks
  unfolding marked pieces marks_of bytes_of
  marked-back [] s = refl
  marked-back (x ∷ xs) s =
      let k = marks_in v in
      let m : length (take k x) ≡ k = length-take-le k x (omega (arith, s.0.long)) in
      let n : length (drop k x) ≡ B = length-drop k x ∙ omega (arith, s.0.long) in
      rw (take_at (take k x) (marks_of v xs) k m, drop_at (take k x) (marks_of v xs) k m, take_at (drop k x) (bytes_of v xs) B n, drop_at (drop k x) (bytes_of v xs) B n)
      (ap₂ (λ (y : List ℕ) (ys : List (List ℕ)). y ∷ ys) (take-append-drop k x) (marked-back xs s.1))
