-- The numbers that are chosen: what holds of them, how many they are, and where one stands. Assumes nothing.
--   each_take, each_chosen, distinct-take, distinct-chosen, off   what holds of each number that is chosen
--   both-sides, at_most                       how many are chosen, and how many of those that are named
--   enough                                    as many parity blocks are left as data are lost, where no more are named than there are parity blocks
--   ranked, rank_lt, rank-next                the place of a lost number among the lost
--   named_here, named_past, named_end         a search through the named
use mathlib.Core.Path.{◌≡◌, refl, sym, ap, ap₂, ◌∙◌}
use mathlib.Core.Bool.{Bool, true, false, cond, not}
use mathlib.Core.List.{List, [], ◌∷◌}
use Prim.Native.Nat.{ℕ, zero, suc, ◌+◌, ◌-◌, ◌<◌, ◌≤◌}
use native.Mathlib.Nat.{add-zero, zero-add, add-suc, suc-add, mod-eq_of_lt, le_refl}
use native.Mathlib.Numerals.{add-one}
use native.Mathlib.Omega.{arith}
use borrow.Author.Tests.{eqb-true, eq-eqb, ne_eqb}
use lib.Dec.{eqb}
use lib.ListN.{get_or, length, take, drop, drop_of_length-le}
use lib.Seq.{drop-cons}
use Rattle.cauchy.specs.System.{Off, Each, Distinct}
use Rattle.gf256.specs.Field.{plus}
use Rattle.erasure.specs.Group.{named, chosen}
use Rattle.gf256.proofs.SumLaws.{plus-lt, plus-zero-eq}

-- what holds of each number that is chosen
pub each_take : (P : ℕ → Type 0) (m : ℕ) (xs : List ℕ) → Each P xs → Each P (take m xs)
each_take P zero xs h = tt
each_take P (suc m) [] h = tt
each_take P (suc m) (x ∷ xs) h = (h.0, each_take P m xs h.1)

pub each-cond : (P : ℕ → Type 0) (b : Bool) (n : ℕ) (xs : List ℕ) → (b ≡ true → P n) → Each P xs → Each P (cond b (n ∷ xs) xs)
each-cond P true n xs f h = (f refl, h)
each-cond P false n xs f h = h

pub each_chosen : (P : ℕ → Type 0) (f : ℕ → Bool) (n c : ℕ) → ((x : ℕ) → n ≤ x → x < n + c → f x ≡ true → P x) → Each P (chosen f n c)
unfolding chosen
each_chosen P f n zero g = tt
each_chosen P f n (suc c) g =
    each-cond P (f n) n (chosen f (suc n) c) (g n (omega arith) (omega arith))
    (each_chosen P f (suc n) c (λ x h k. g x (omega arith) (omega arith)))

pub distinct-take : (m : ℕ) (xs : List ℕ) → Distinct xs → Distinct (take m xs)
distinct-take zero xs h = tt
distinct-take (suc m) [] h = tt
distinct-take (suc m) (x ∷ xs) h = (each_take (λ y. Off (plus x y)) m xs h.0, distinct-take m xs h.1)

pub off : (a b : ℕ) → a < 256 → b < 256 → (a ≡ b → ⊥) → Off (plus a b)
off a b ha hb h e = h (plus-zero-eq a b (sym (mod-eq_of_lt (plus-lt a b ha hb)) ∙ e))

pub distinct-chosen : (f : ℕ → Bool) (n c : ℕ) → n + c ≤ 256 → Distinct (chosen f n c)
unfolding chosen
distinct-chosen f n zero l = tt
distinct-chosen f n (suc c) l = go (f n) (distinct-chosen f (suc n) c (omega arith))
  where
    go : (b : Bool) → Distinct (chosen f (suc n) c) → Distinct (cond b (n ∷ chosen f (suc n) c) (chosen f (suc n) c))
    go true r = (each_chosen (λ x. Off (plus n x)) f (suc n) c (λ x h k e. off n x (omega arith) (omega arith) (λ q. omega arith)), r)
    go false r = r

pub both-sides : (f : ℕ → Bool) (n c : ℕ) → length (chosen f n c) + length (chosen (λ m. not (f m)) n c) ≡ c
unfolding chosen
both-sides f n zero = refl
both-sides f n (suc c) = go (f n) (both-sides f (suc n) c)
  where
    go : (b : Bool) → length (chosen f (suc n) c) + length (chosen (λ m. not (f m)) (suc n) c) ≡ c
        → length (cond b (n ∷ chosen f (suc n) c) (chosen f (suc n) c)) + length (cond (not b) (n ∷ chosen (λ m. not (f m)) (suc n) c) (chosen (λ m. not (f m)) (suc n) c)) ≡ suc c
    go true e = omega arith
    go false e = omega arith

joined : (f : ℕ → Bool) (n a b : ℕ) → length (chosen f n (a + b)) ≡ length (chosen f n a) + length (chosen f (n + a) b)
unfolding chosen
joined f n zero b =
    ap₂ (λ (m c : ℕ). length (chosen f m c)) (sym (add-zero n)) (zero-add b) ∙ sym (zero-add (length (chosen f (n + 0) b)))
joined f n (suc a) b =
    ap (λ (c : ℕ). length (chosen f n c)) (suc-add a b)
    ∙ go (f n) (joined f (suc n) a b ∙ ap (λ (m : ℕ). length (chosen f (suc n) a) + length (chosen f m b)) (suc-add n a ∙ sym (add-suc n a)))
  where
    go : (x : Bool) → length (chosen f (suc n) (a + b)) ≡ length (chosen f (suc n) a) + length (chosen f (n + suc a) b)
        → length (cond x (n ∷ chosen f (suc n) (a + b)) (chosen f (suc n) (a + b))) ≡ length (cond x (n ∷ chosen f (suc n) a) (chosen f (suc n) a)) + length (chosen f (n + suc a) b)
    go true e = omega arith
    go false e = e

-- past l, it makes no difference that l is named
past : (l : ℕ) (ls : List ℕ) (n c : ℕ) → l < n → chosen (named (l ∷ ls)) n c ≡ chosen (named ls) n c
unfolding chosen named
past l ls n zero h = refl
past l ls n (suc c) h =
    ap₂ (λ (b : Bool) (r : List ℕ). cond (cond b true (named ls n)) (n ∷ r) r) (ne_eqb l n (λ e. omega arith)) (past l ls (suc n) c (omega arith))

one_more : (l : ℕ) (ls : List ℕ) (n c : ℕ) → length (chosen (named (l ∷ ls)) n c) ≤ suc (length (chosen (named ls) n c))
unfolding chosen named
one_more l ls n zero = omega arith
one_more l ls n (suc c) = go (eqb l n) refl (named ls n) (one_more l ls (suc n) c)
  where
    go : (b : Bool) → eqb l n ≡ b → (x : Bool) → length (chosen (named (l ∷ ls)) (suc n) c) ≤ suc (length (chosen (named ls) (suc n) c))
        → length (cond (cond b true x) (n ∷ chosen (named (l ∷ ls)) (suc n) c) (chosen (named (l ∷ ls)) (suc n) c)) ≤ suc (length (cond x (n ∷ chosen (named ls) (suc n) c) (chosen (named ls) (suc n) c)))
    go true e x h = first x (ap length (past l ls (suc n) c (omega (arith, eqb-true l n e))))
      where
        first : (x : Bool) → length (chosen (named (l ∷ ls)) (suc n) c) ≡ length (chosen (named ls) (suc n) c)
            → suc (length (chosen (named (l ∷ ls)) (suc n) c)) ≤ suc (length (cond x (n ∷ chosen (named ls) (suc n) c) (chosen (named ls) (suc n) c)))
        first true q = omega arith
        first false q = omega arith
    go false e true h = omega arith
    go false e false h = h

none_named : (n c : ℕ) → length (chosen (named []) n c) ≡ 0
unfolding chosen named
none_named n zero = refl
none_named n (suc c) = none_named (suc n) c

pub at_most : (ls : List ℕ) (n c : ℕ) → length (chosen (named ls) n c) ≤ length ls
at_most [] n c = omega (arith, none_named n c)
at_most (l ∷ ls) n c = omega (arith, one_more l ls n c, at_most ls n c)

pub enough : (ls : List ℕ) (k p : ℕ) → length ls ≤ p → length (chosen (named ls) 0 k) ≤ length (chosen (λ n. not (named ls n)) k p)
enough ls k p h =
    let e : length (chosen (named ls) (0 + k) p) ≡ length (chosen (named ls) k p) = ap (λ (m : ℕ). length (chosen (named ls) m p)) (zero-add k) in
    omega (arith, joined (named ls) 0 k p, at_most ls 0 (k + p), both-sides (named ls) k p)

-- the place of a number among those chosen
ranked-from : (f : ℕ → Bool) (j a c : ℕ) → j < c → f (a + j) ≡ true → get_or (chosen f a c) (length (chosen f a j)) 0 ≡ a + j
unfolding chosen
ranked-from f j a zero h e = absurd (omega arith)
ranked-from f zero a (suc c) h e = ap (λ (b : Bool). get_or (cond b (a ∷ chosen f (suc a) c) (chosen f (suc a) c)) 0 0) (ap f (sym (add-zero a)) ∙ e) ∙ sym (add-zero a)
ranked-from f (suc j) a (suc c) h e =
    go (f a) (ranked-from f j (suc a) c (omega arith) (ap f (suc-add a j ∙ sym (add-suc a j)) ∙ e) ∙ suc-add a j ∙ sym (add-suc a j))
  where
    go : (b : Bool) → get_or (chosen f (suc a) c) (length (chosen f (suc a) j)) 0 ≡ a + suc j
        → get_or (cond b (a ∷ chosen f (suc a) c) (chosen f (suc a) c)) (length (cond b (a ∷ chosen f (suc a) j) (chosen f (suc a) j))) 0 ≡ a + suc j
    go true q = q
    go false q = q

pub ranked : (f : ℕ → Bool) (n k : ℕ) → n < k → f n ≡ true → get_or (chosen f 0 k) (length (chosen f 0 n)) 0 ≡ n
ranked f n k h e = ranked-from f n 0 k h (ap f (zero-add n) ∙ e) ∙ zero-add n

pub rank-next : (f : ℕ → Bool) (n : ℕ) → length (chosen f 0 (n + 1)) ≡ length (chosen f 0 n) + length (cond (f n) (n ∷ []) [])
unfolding chosen
rank-next f n = joined f 0 n 1 ∙ ap (λ (m : ℕ). length (chosen f 0 n) + length (cond (f m) (m ∷ []) [])) (zero-add n)

pub rank_lt : (f : ℕ → Bool) (n k : ℕ) → n < k → f n ≡ true → length (chosen f 0 n) < length (chosen f 0 k)
rank_lt f n k h e =
    let c = k - (n + 1) in
    let q : n + 1 + c ≡ k = omega arith in
    let one : length (cond (f n) (n ∷ []) []) ≡ 1 = ap (λ (b : Bool). length (cond b (n ∷ []) [])) e in
    omega (arith, ap (λ (m : ℕ). length (chosen f 0 m)) q, joined f 0 (n + 1) c, rank-next f n, one)

-- a search through the named
pub named_here : (i n : ℕ) (ls : List ℕ) → i < length ls → get_or ls i 0 ≡ n → named (drop i ls) n ≡ true
unfolding named
named_here i n ls h e =
    ap (λ (l : List ℕ). named l n) (drop-cons ls i 0 h)
    ∙ ap (λ (b : Bool). cond b true (named (drop (suc i) ls) n)) (eq-eqb (get_or ls i 0) n e)

pub named_past : (i n : ℕ) (ls : List ℕ) → i < length ls → (get_or ls i 0 ≡ n → ⊥) → named (drop (i + 1) ls) n ≡ named (drop i ls) n
unfolding named
named_past i n ls h e =
    ap (λ (m : ℕ). named (drop m ls) n) (add-one i)
    ∙ sym (ap (λ (l : List ℕ). named l n) (drop-cons ls i 0 h) ∙ ap (λ (b : Bool). cond b true (named (drop (suc i) ls) n)) (ne_eqb (get_or ls i 0) n e))

pub named_end : (i n : ℕ) (ls : List ℕ) → i ≡ length ls → named (drop i ls) n ≡ false
unfolding named
named_end i n ls h = ap (λ (l : List ℕ). named l n) (ap (λ (m : ℕ). drop m ls) h ∙ drop_of_length-le ls (le_refl (length ls)))
