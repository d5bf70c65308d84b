-- Laws of a table: records one after the other, and what loops over them hold. Assumes nothing.
--   joined-both, joined-append, pieces-length, pieces-sized                          lists end to end, and cut
--   All, Sized, all_set, all_append, one_more                                what holds of every list; lists of one length
--   pieces-at                                                                a piece of a buffer
--   length-records, records-same                                             records one after the other
--   Filled: filled-start, filled-step, filled-end                            a table that is filled from its first record on
--   bad-step, bad-found, bad-none                                            the search for a record that does not open
--   opens, all-open                                                          where it finds none, every record opens
--   reseal-step, reseal-end                                                  resealing in place: what is left to do
use Prim.Native.Nat.{ℕ, zero, suc, ◌+◌, ◌*◌, ◌-◌, ◌≤◌, ◌<◌}
use native.Mathlib.Omega.{arith}
use native.Mathlib.Nat.{add-mul, one-mul, zero-mul}
use native.Mathlib.Decide.{ℕ_discrete}
use mathlib.Core.Path.{◌≡◌, refl, sym, ap, ap₂, ◌∙◌}
use mathlib.Core.List.{List, [], ◌∷◌, ◌++◌, append_assoc, append-nil}
use mathlib.Core.Bool.{Bool, true, false, cond}
use lib.ListN.{length, get_or, take, drop, set, length-append, length-drop}
use lib.Seq.{drop-drop, length-take-le, take_all}
use Rattle.octets.specs.Octets.{part, put}
use Rattle.octets.proofs.PartLaws.{take_put}
use Rattle.scheme.specs.Lists.{joined, pieces, records_from}
use Rattle.scheme.specs.Primitives.{Primitives}
use Rattle.scheme.specs.Records.{Card, record_at}
use Rattle.scheme.specs.Tokens.{BlockChange}
use Rattle.scheme.specs.Table.{there, token_in, first_bad, resealed_record, reseal}

-- what holds of every list
abbrev pub All : (List ℕ → Type 0) → List (List ℕ) → Type 0
All Q [] = Unit {0}
All Q (x ∷ xs) = Q x × All Q xs

-- every list has B elements
abbrev pub Sized : ℕ → List (List ℕ) → Type 0
Sized B xs = All (λ x. length x ≡ B) xs

module _ (Q : List ℕ → Type 0) where
  pub all_set : (m : ℕ) (xs : List (List ℕ)) (x : List ℕ) → Q x → All Q xs → All Q (set xs m x)
  all_set m [] x h s = tt
  all_set zero (y ∷ xs) x h s = (h, s.1)
  all_set (suc m) (y ∷ xs) x h s = (s.0, all_set m xs x h s.1)

  pub all_append : (xs ys : List (List ℕ)) → All Q xs → All Q ys → All Q (xs ++ ys)
  all_append [] ys s u = u
  all_append (x ∷ xs) ys s u = (s.0, all_append xs ys s.1 u)

pub joined-both : (xs ys : List (List ℕ)) → joined (xs ++ ys) ≡ joined xs ++ joined ys
unfolding joined
joined-both [] ys = refl
joined-both (x ∷ xs) ys = ap (λ (z : List ℕ). x ++ z) (joined-both xs ys) ∙ sym (append_assoc x (joined xs) (joined ys))

pub joined-append : (xs : List (List ℕ)) (x : List ℕ) → joined (xs ++ x ∷ []) ≡ joined xs ++ x
unfolding joined
joined-append xs x = joined-both xs (x ∷ []) ∙ ap (λ (z : List ℕ). joined xs ++ z) (append-nil x)

pub one_more : (n B : ℕ) → suc n * B ≡ n * B + B
one_more n B =
    let z : suc n ≡ n + 1 = omega arith in
    ap (λ (y : ℕ). y * B) z ∙ add-mul n 1 B ∙ ap (λ (y : ℕ). n * B + y) (one-mul B)

pub pieces-length : (B n : ℕ) (xs : List ℕ) → length (pieces B n xs) ≡ n
unfolding pieces
pieces-length B zero xs = refl
pieces-length B (suc n) xs = ap suc (pieces-length B n (drop B xs))

pub pieces-sized : (B n : ℕ) (xs : List ℕ) → length xs ≡ n * B → Sized B (pieces B n xs)
unfolding pieces
pieces-sized B zero xs h = tt
pieces-sized B (suc n) xs h =
    let e = one_more n B in
    (length-take-le B xs (omega arith), pieces-sized B n (drop B xs) (length-drop B xs ∙ omega arith))

-- piece m of a list, from 0
pub pieces-at : (B n : ℕ) (xs : List ℕ) (m : ℕ) → m < n → get_or (pieces B n xs) m [] ≡ part (m * B) B xs
unfolding pieces
pieces-at B zero xs m h = absurd (omega arith)
pieces-at B (suc n) xs zero h = let z : 0 * B ≡ 0 = zero-mul B in rw z
pieces-at B (suc n) xs (suc m) h =
    let z : B + m * B ≡ suc m * B = omega (arith, one_more m B) in
    pieces-at B n (drop B xs) m (omega arith) ∙ ap (take B) (drop-drop (m * B) B xs) ∙ ap (λ (a : ℕ). part a B xs) z

-- records one after the other
module _ (f : ℕ → List ℕ) where
  pub length-records : ((i : ℕ) → length (f i) ≡ 63) → (m i : ℕ) → length (records_from f m i) ≡ m * 63
  unfolding records_from
  length-records h zero i = refl
  length-records h (suc m) i = omega (arith, length-append (f i) (records_from f m (i + 1)), h i, length-records h m (i + 1))

  pub records-same : (g : ℕ → List ℕ) → ((i : ℕ) → g i ≡ f i) → (m i : ℕ) → records_from g m i ≡ records_from f m i
  unfolding records_from
  records-same g h zero i = refl
  records-same g h (suc m) i = ap₂ (λ (x y : List ℕ). x ++ y) (h i) (records-same g h m (i + 1))

  -- a table of t records whose first i - 1 are in place
  abbrev pub Filled : ℕ → List ℕ → ℕ → Type 0
  Filled t now i = take ((i - 1) * 63) now ++ records_from f (t + 1 - i) i ≡ records_from f t 1

  pub filled-start : (t : ℕ) (now : List ℕ) → Filled t now 1
  filled-start t now = let z : t + 1 - 1 ≡ t = omega arith in ap (λ (m : ℕ). records_from f m 1) z

  first-record : (t i : ℕ) → i ≤ t → records_from f (t + 1 - i) i ≡ f i ++ records_from f (t + 1 - (i + 1)) (i + 1)
  unfolding records_from
  first-record t i h = let k : t + 1 - i ≡ suc (t + 1 - (i + 1)) = omega arith in rw k

  pub filled-step : (t : ℕ) (now : List ℕ) (i : ℕ) → 1 ≤ i → i ≤ t → length now ≡ t * 63 → length (f i) ≡ 63
      → Filled t now i → Filled t (put ((i - 1) * 63) (f i) now) (i + 1)
  filled-step t now i l h n r s =
      let at = (i - 1) * 63 in
      let rest = records_from f (t + 1 - (i + 1)) (i + 1) in
      let z : (i + 1 - 1) * 63 ≡ at + length (f i) = omega arith in
      ap (λ (a : ℕ). take a (put at (f i) now) ++ rest) z
      ∙ ap (λ (u : List ℕ). u ++ rest) (take_put at (f i) now (omega arith))
      ∙ append_assoc (take at now) (f i) rest
      ∙ ap (λ (u : List ℕ). take at now ++ u) (sym (first-record t i h))
      ∙ s

  pub filled-end : (t : ℕ) (now : List ℕ) (i : ℕ) → t + 1 ≡ i → length now ≡ t * 63 → Filled t now i → now ≡ records_from f t 1
  unfolding records_from
  filled-end t now i h n s =
      let k : t + 1 - i ≡ 0 = omega arith in
      let whole : take ((i - 1) * 63) now ≡ now = take_all ((i - 1) * 63) now (omega arith) in
      let e : take ((i - 1) * 63) now ++ records_from f (t + 1 - i) i ≡ now = rw (k, whole, append-nil) in
      sym e ∙ s

module _ (P : Primitives) where
  -- the search, from i up to t
  module _ (key : List ℕ) (v ctr t i : ℕ) (table : List ℕ) where
    pub bad-none : t < i → first_bad P key v ctr table (t + 1 - i) i ≡ 0
    unfolding first_bad
    bad-none h = let k : t + 1 - i ≡ 0 = omega arith in rw k

    module _ (h : i ≤ t) where
      more : t + 1 - i ≡ suc (t + 1 - (i + 1))
      more = omega arith

      pub bad-step : there (token_in P key v ctr i (record_at i table)) ≡ true
          → first_bad P key v ctr table (t + 1 - i) i ≡ first_bad P key v ctr table (t + 1 - (i + 1)) (i + 1)
      unfolding first_bad
      bad-step o = rw (more, o)

      pub bad-found : there (token_in P key v ctr i (record_at i table)) ≡ false → first_bad P key v ctr table (t + 1 - i) i ≡ i
      unfolding first_bad
      bad-found o = rw (more, o)

  -- whether record j opens
  abbrev pub opens : List ℕ → ℕ → ℕ → List ℕ → ℕ → Bool
  opens key v ctr table j = there (token_in P key v ctr j (record_at j table))

  -- of m records from i on, i being at least 1
  pub all-open : (key : List ℕ) (v ctr : ℕ) (table : List ℕ) (m i : ℕ) → 1 ≤ i → first_bad P key v ctr table m i ≡ 0
      → (j : ℕ) → i ≤ j → j < i + m → opens key v ctr table j ≡ true
  unfolding first_bad
  all-open key v ctr table zero i h e j l u = absurd (omega arith)
  all-open key v ctr table (suc m) i h e j l u = go (opens key v ctr table i) refl e (λ z k. all-open key v ctr table m (i + 1) (omega arith) z j k (omega arith))
    where
      go : (o : Bool) → opens key v ctr table i ≡ o → cond o (first_bad P key v ctr table m (i + 1)) i ≡ 0
          → (first_bad P key v ctr table m (i + 1) ≡ 0 → i + 1 ≤ j → opens key v ctr table j ≡ true) → opens key v ctr table j ≡ true
      go false o z ih = absurd (omega arith)
      go true o z ih = here (ℕ_discrete i j)
        where
          here : Dec (i ≡ j) → opens key v ctr table j ≡ true
          here (yes p) = ap (opens key v ctr table) (sym p) ∙ o
          here (no q) = ih z (omega arith)

  -- resealing in place, from i up to t
  module _ (master : List ℕ) (c : Card) (changes : List (ℕ × BlockChange)) (t i : ℕ) (table : List ℕ) where
    pub reseal-step : i ≤ t
        → reseal P master c changes (t + 1 - i) i table
        ≡ reseal P master c changes (t + 1 - (i + 1)) (i + 1) (put ((i - 1) * 63) (resealed_record P master c changes i (record_at i table)) table)
    unfolding reseal
    reseal-step h = let k : t + 1 - i ≡ suc (t + 1 - (i + 1)) = omega arith in rw k

    pub reseal-end : t < i → reseal P master c changes (t + 1 - i) i table ≡ table
    unfolding reseal
    reseal-end h = let k : t + 1 - i ≡ 0 = omega arith in rw k
