-- The places where walks go on. Assumes nothing.
--   going-none                 where there is none
--   place_in                   the place that comes next: its walk is one of n and goes on
--   one_at_most                a count with one more where a walk goes on
--   places-none                no place yet
--   places-first, places-next  the list as the code writes it: a walk has taken its first turn, or one more
use Prim.Native.Nat.{ℕ, zero, suc, ◌+◌, ◌≤◌, ◌<◌}
use native.Mathlib.Omega.{arith}
use native.Mathlib.Nat.{eq-or-lt_of_le}
use native.Mathlib.Numerals.{add-one}
use mathlib.Core.Path.{◌≡◌, refl, sym, ap, ap₂, ◌∙◌, subst}
use mathlib.Core.Logic.{◌⊎◌, inl, inr}
use mathlib.Core.Bool.{Bool, true, false, cond}
use mathlib.Core.List.{List, [], ◌∷◌, ◌++◌, append-nil}
use borrow.Author.Tests.{leb-true, leb-false}
use lib.Dec.{leb}
use lib.ListN.{length, take, drop, get_or, set}
use lib.Seq.{slice, slice-cons, append_snoc, get_or-set_same, get_or-set_other, take-suc-set, take-set-le, take-set-lt, drop-set-lt}
use Rattle.cycle_walks.specs.Each.{going}

module _ (d : ℕ) where
  going-in : (vs : List ℕ) (m j : ℕ) (xs : List ℕ) (i : ℕ) (ys : List ℕ) → going d vs m j ≡ xs ++ (i ∷ ys) → (j ≤ i) × (i < j + m) × (d ≤ get_or vs i 0)
  unfolding going
  going-in vs zero j [] i ys e = let z : ◌≡◌ {A = ℕ} 0 1 = cc in absurd (omega arith)
  going-in vs zero j (x ∷ xs) i ys e = let z : ◌≡◌ {A = ℕ} 0 1 = cc in absurd (omega arith)
  going-in vs (suc m) j xs i ys e = go (leb d (get_or vs j 0)) refl xs e (λ zs q. going-in vs m (j + 1) zs i ys q)
    where
      go : (b : Bool) → leb d (get_or vs j 0) ≡ b → (xs : List ℕ) → cond b (j ∷ going d vs m (j + 1)) (going d vs m (j + 1)) ≡ xs ++ (i ∷ ys)
          → ((zs : List ℕ) → going d vs m (j + 1) ≡ zs ++ (i ∷ ys) → (j + 1 ≤ i) × (i < j + 1 + m) × (d ≤ get_or vs i 0))
          → (j ≤ i) × (i < j + suc m) × (d ≤ get_or vs i 0)
      go true t [] e next =
          let z : j ≡ i = cc in
          (omega arith, omega arith, subst (λ (k : ℕ). d ≤ get_or vs k 0) z (leb-true d (get_or vs j 0) t))
      go true t (x ∷ xs) e next =
          let z : going d vs m (j + 1) ≡ xs ++ (i ∷ ys) = cc in
          let p = next xs z in
          (omega arith, omega arith, p.2)
      go false t xs e next = let p = next xs e in (omega arith, omega arith, p.2)

  pub going-none : (vs : List ℕ) (m j : ℕ) → going d vs m j ≡ [] → (i : ℕ) → j ≤ i → i < j + m → get_or vs i 0 < d
  unfolding going
  going-none vs zero j e i l h = absurd (omega arith)
  going-none vs (suc m) j e i l h = go (leb d (get_or vs j 0)) refl e (eq-or-lt_of_le l) (λ q p. going-none vs m (j + 1) q i (omega arith) (omega arith))
    where
      go : (b : Bool) → leb d (get_or vs j 0) ≡ b → cond b (j ∷ going d vs m (j + 1)) (going d vs m (j + 1)) ≡ [] → (j ≡ i) ⊎ (j < i)
          → (going d vs m (j + 1) ≡ [] → j < i → get_or vs i 0 < d) → get_or vs i 0 < d
      go true t e p next = let z : ◌≡◌ {A = ℕ} 0 1 = cc in absurd (omega arith)
      go false t e (inl p) next = subst (λ (k : ℕ). get_or vs k 0 < d) p (leb-false d (get_or vs j 0) t)
      go false t e (inr p) next = next e p

  going-same : (us vs : List ℕ) (m j : ℕ) → ((i : ℕ) → j ≤ i → i < j + m → get_or us i 0 ≡ get_or vs i 0) → going d us m j ≡ going d vs m j
  unfolding going
  going-same us vs zero j h = refl
  going-same us vs (suc m) j h =
      ap₂ (λ (b : Bool) (r : List ℕ). cond b (j ∷ r) r) (ap (leb d) (h j (omega arith) (omega arith)))
      (going-same us vs m (j + 1) (λ i l k. h i (omega arith) (omega arith)))

  -- one place more at the end
  going_more : (vs : List ℕ) (m j : ℕ) → going d vs (suc m) j ≡ going d vs m j ++ cond (leb d (get_or vs (j + m) 0)) ((j + m) ∷ []) []
  unfolding going
  going_more vs zero j = let z : j + 0 ≡ j = omega arith in rw z
  going_more vs (suc m) j =
      let z : j + 1 + m ≡ j + suc m = omega arith in
      let next : going d vs (suc m) (j + 1) ≡ going d vs m (j + 1) ++ cond (leb d (get_or vs (j + suc m) 0)) ((j + suc m) ∷ []) []
      = going_more vs m (j + 1) ∙ ap (λ (k : ℕ). going d vs m (j + 1) ++ cond (leb d (get_or vs k 0)) (k ∷ []) []) z in
      go (leb d (get_or vs j 0)) (going d vs (suc m) (j + 1)) (going d vs m (j + 1)) (cond (leb d (get_or vs (j + suc m) 0)) ((j + suc m) ∷ []) []) next
    where
      go : (b : Bool) (r s t : List ℕ) → r ≡ s ++ t → cond b (j ∷ r) r ≡ cond b (j ∷ s) s ++ t
      go true r s t e = ap (λ (l : List ℕ). j ∷ l) e
      go false r s t e = e

  -- a walk of the list takes a turn
  going-set : (vs : List ℕ) (m j : ℕ) (xs : List ℕ) (i : ℕ) (ys : List ℕ) (v : ℕ) → i < length vs → going d vs m j ≡ xs ++ (i ∷ ys)
      → going d (set vs i v) m j ≡ xs ++ cond (leb d v) (i ∷ ys) ys
  unfolding going
  going-set vs zero j xs i ys v w e = absurd (omega (arith, going-in vs zero j xs i ys e))
  going-set vs (suc m) j xs i ys v w e = go (leb d (get_or vs j 0)) refl xs e (λ zs q. going-set vs m (j + 1) zs i ys v w q)
    where
      after : List ℕ
      after = going d (set vs i v) m (j + 1)

      here : (b : Bool) (zs : List ℕ) → going d vs m (j + 1) ≡ zs ++ (i ∷ ys) → leb d (get_or vs j 0) ≡ b → leb d (get_or (set vs i v) j 0) ≡ b
      here b zs q t = ap (leb d) (get_or-set_other vs i j v 0 (λ z. omega (arith, (going-in vs m (j + 1) zs i ys q).0))) ∙ t

      go : (b : Bool) → leb d (get_or vs j 0) ≡ b → (xs : List ℕ) → cond b (j ∷ going d vs m (j + 1)) (going d vs m (j + 1)) ≡ xs ++ (i ∷ ys)
          → ((zs : List ℕ) → going d vs m (j + 1) ≡ zs ++ (i ∷ ys) → after ≡ zs ++ cond (leb d v) (i ∷ ys) ys)
          → cond (leb d (get_or (set vs i v) j 0)) (j ∷ after) after ≡ xs ++ cond (leb d v) (i ∷ ys) ys
      go true t [] e next =
          let z : j ≡ i = cc in
          let y : going d vs m (j + 1) ≡ ys = cc in
          let same : after ≡ ys = going-same (set vs i v) vs m (j + 1) (λ k l h. get_or-set_other vs i k v 0 (λ q. omega arith)) ∙ y in
          let now : get_or (set vs i v) j 0 ≡ v = ap (λ (k : ℕ). get_or (set vs i v) k 0) z ∙ get_or-set_same vs i v 0 w in
          ap₂ (λ (u : ℕ) (r : List ℕ). cond (leb d u) (j ∷ r) r) now same ∙ ap (λ (k : ℕ). cond (leb d v) (k ∷ ys) ys) z
      go true t (x ∷ xs) e next =
          let z : j ≡ x = cc in
          let y : going d vs m (j + 1) ≡ xs ++ (i ∷ ys) = cc in
          ap₂ (λ (b : Bool) (r : List ℕ). cond b (j ∷ r) r) (here true xs y t) (next xs y) ∙ ap (λ (k : ℕ). k ∷ (xs ++ cond (leb d v) (i ∷ ys) ys)) z
      go false t xs e next = ap₂ (λ (b : Bool) (r : List ℕ). cond b (j ∷ r) r) (here false xs e t) (next xs e)

  pub place_in : (ps vs : List ℕ) (n left still at : ℕ) → at < left → left ≤ length ps → take still ps ++ slice at left ps ≡ going d vs n 0
      → (get_or ps at 0 < n) × (d ≤ get_or vs (get_or ps at 0) 0)
  place_in ps vs n left still at a l e =
      let p = going-in vs n 0 (take still ps) (get_or ps at 0) (slice (suc at) left ps) (sym e ∙ ap (λ (t : List ℕ). take still ps ++ t) (slice-cons at left ps 0 a l)) in
      (omega arith, p.2)

  pub one_at_most : (v k r : ℕ) → r ≡ cond (leb d v) (k + 1) k → r ≤ k + 1
  one_at_most v k r e = go (leb d v) e
    where
      go : (b : Bool) → r ≡ cond b (k + 1) k → r ≤ k + 1
      go true e = omega arith
      go false e = omega arith

  pub places-none : (ps vs : List ℕ) → take 0 ps ≡ going d vs 0 0
  unfolding going
  places-none ps vs = refl

  pub places-first : (ps vs : List ℕ) (i left v r : ℕ) → i < length vs → left < length ps → take left ps ≡ going d vs i 0 → r ≡ cond (leb d v) (left + 1) left
      → take r (set ps left i) ≡ going d (set vs i v) (i + 1) 0
  places-first ps vs i left v r w l e q =
      let up : going d (set vs i v) (i + 1) 0 ≡ going d (set vs i v) i 0 ++ cond (leb d (get_or (set vs i v) (0 + i) 0)) ((0 + i) ∷ []) []
      = ap (λ (n : ℕ). going d (set vs i v) n 0) (add-one i) ∙ going_more (set vs i v) i 0 in
      let z : 0 + i ≡ i = omega arith in
      let same : going d (set vs i v) i 0 ≡ going d vs i 0 = going-same (set vs i v) vs i 0 (λ k a b. get_or-set_other vs i k v 0 (λ p. omega arith)) in
      ap (λ (n : ℕ). take n (set ps left i)) q
      ∙ go (leb d v)
      ∙ sym (up ∙ ap₂ ◌++◌ (same ∙ sym e) (ap (λ (k : ℕ). cond (leb d (get_or (set vs i v) k 0)) (k ∷ []) []) z
      ∙ ap (λ (k : ℕ). cond (leb d k) (i ∷ []) []) (get_or-set_same vs i v 0 w)))
    where
      go : (b : Bool) → take (cond b (left + 1) left) (set ps left i) ≡ take left ps ++ cond b (i ∷ []) []
      go true = ap (λ (n : ℕ). take n (set ps left i)) (add-one left) ∙ take-suc-set ps left i l
      go false = take-set-le left ps left i (omega arith) ∙ sym (append-nil (take left ps))

  pub places-next : (ps vs : List ℕ) (n left still at v r : ℕ) → still ≤ at → at < left → left ≤ length ps → get_or ps at 0 < length vs
      → take still ps ++ slice at left ps ≡ going d vs n 0 → r ≡ cond (leb d v) (still + 1) still
      → take r (set ps still (get_or ps at 0)) ++ slice (at + 1) left (set ps still (get_or ps at 0)) ≡ going d (set vs (get_or ps at 0) v) n 0
  places-next ps vs n left still at v r s a l w e q =
      let i = get_or ps at 0 in
      let whole : going d vs n 0 ≡ take still ps ++ (i ∷ slice (suc at) left ps) = sym e ∙ ap (λ (t : List ℕ). take still ps ++ t) (slice-cons at left ps 0 a l) in
      let rest : slice (at + 1) left (set ps still i) ≡ slice (suc at) left ps
      = ap (λ (k : ℕ). slice k left (set ps still i)) (add-one at)
      ∙ ap (drop (suc at)) (take-set-lt left ps still i (omega arith))
      ∙ drop-set-lt (suc at) (take left ps) still i (omega arith) in
      ap₂ (λ (k : ℕ) (t : List ℕ). take k (set ps still i) ++ t) q rest
      ∙ go (leb d v)
      ∙ sym (going-set vs n 0 (take still ps) i (slice (suc at) left ps) v w whole)
    where
      go : (b : Bool) → take (cond b (still + 1) still) (set ps still (get_or ps at 0)) ++ slice (suc at) left ps ≡ take still ps ++ cond b (get_or ps at 0 ∷ slice (suc at) left ps) (slice (suc at) left ps)
      go true =
          ap (λ (k : ℕ). take k (set ps still (get_or ps at 0)) ++ slice (suc at) left ps) (add-one still)
          ∙ ap (λ (t : List ℕ). t ++ slice (suc at) left ps) (take-suc-set ps still (get_or ps at 0) (omega arith))
          ∙ append_snoc (take still ps) (get_or ps at 0) (slice (suc at) left ps)
      go false = ap (λ (t : List ℕ). t ++ slice (suc at) left ps) (take-set-le still ps still (get_or ps at 0) (omega arith))
