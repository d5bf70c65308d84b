-- Laws of lists of checks and of their tests. Assumes nothing.
--   both, pair, within-true, in-range, either   what a test's parts say
--   first-passed, passed, passed-all   a list of checks gives 0 exactly where every test holds, its codes being at least 1
--   refusal-kept, answer-written                 what a refusal leaves, and what an answer writes
--   first-append               a list of checks in two parts
--   first-stage                a part of a list of checks that is read first
--   Plain, plain-codes         codes from 1 to 255 other than 7
--   Holds, checks-held, holds-append  every test of a part holds where the list gives 0
--   test_of, test-holds         the test beside a code
--   Without, given-exactly              an answer is given exactly where its check is the first whose test fails
--   Rising, rising-first       the same of a list of checks whose codes rise
--   Fine, fine-pass, fine-part, fine_end   a list of checks that never gives code 7
--   first-last, last-seven     a list of checks whose last check alone has code 7
use Prim.Native.Nat.{ℕ, zero, suc, ◌%◌, ◌≤◌, ◌<◌}
use native.Mathlib.Omega.{arith}
use native.Mathlib.Decide.{dec_lt}
use mathlib.Core.Path.{◌≡◌, refl, sym, ap, ◌∙◌}
use mathlib.Core.Logic.{◌≢◌, ◌↔◌}
use mathlib.Core.List.{List, [], ◌∷◌, ◌++◌}
use mathlib.Core.Bool.{Bool, true, false, cond, ◌&&◌, ◌||◌, false≢true}
use borrow.Author.Tests.{eqb-true, eq-eqb, ne_eqb, leb-true, le-leb}
use lib.Dec.{eqb, leb}
use Rattle.scheme.specs.Checks.{first, if_zero, within}

-- tests
pub both : (a b : Bool) → a && b ≡ true → (a ≡ true) × (b ≡ true)
both true b h = (refl, h)
both false b h = absurd (false≢true h)

pub pair : (a b : Bool) → a ≡ true → b ≡ true → a && b ≡ true
pair a b h g = rw (h, g)

pub within-true : (lo hi x : ℕ) → within lo hi x ≡ true → (lo ≤ x) × (x ≤ hi)
within-true lo hi x h =
    let p = both (leb lo x) (leb x hi) h in
    (leb-true lo x p.0, leb-true x hi p.1)

pub in-range : (lo hi x : ℕ) → lo ≤ x → x ≤ hi → within lo hi x ≡ true
in-range lo hi x h g = rw (le-leb lo x h, le-leb x hi g)

pub either : (a b : Bool) → a || b ≡ true → a ≡ false → b ≡ true
either true b h e = absurd (false≢true (sym e))
either false b h e = h

-- a list of checks that gives 0
pub first-passed : (r : Bool × ℕ) (rest : List (Bool × ℕ)) → 1 ≤ r.1 → first 0 (r ∷ rest) ≡ 0 → (r.0 ≡ true) × (first 0 rest ≡ 0)
unfolding first
first-passed r rest l h = go r.0 refl h
  where
    go : (b : Bool) → r.0 ≡ b → cond b (first 0 rest) r.1 ≡ 0 → (r.0 ≡ true) × (first 0 rest ≡ 0)
    go true e h = (e, h)
    go false e h = absurd (omega arith)

pub passed : (r : Bool × ℕ) (rest : List (Bool × ℕ)) → r.0 ≡ true → first 0 rest ≡ 0 → first 0 (r ∷ rest) ≡ 0
unfolding first
passed r rest h g = rw (h, g)

pub passed-all : ◌≡◌ {A = ℕ} (first 0 []) 0
unfolding first
passed-all = refl

-- what a refusal leaves, and what an answer writes
pub refusal-kept : {A : Type 0} (code : ℕ) (x y : A) (n : ℕ) → n ≡ code → (n ≡ 0 → ⊥) → y ≡ if_zero code x y
refusal-kept zero x y n e h = absurd (h e)
refusal-kept (suc m) x y n e h = refl

pub answer-written : {A : Type 0} (code : ℕ) (x y : A) (n : ℕ) → n ≡ code → n ≡ 0 → x ≡ if_zero code x y
answer-written zero x y n e h = refl
answer-written (suc m) x y n e h = absurd (omega arith)

-- a list of checks in two parts
pub first-append : {A : Type 0} (none : A) (xs ys : List (Bool × A)) → first none (xs ++ ys) ≡ first (first none ys) xs
unfolding first
first-append none [] ys = refl
first-append none (x ∷ xs) ys = ap (λ y. cond x.0 y x.1) (first-append none xs ys)

-- every code is at least 1
abbrev pub Codes : List (Bool × ℕ) → Type 0
Codes [] = Unit {0}
Codes (x ∷ xs) = (1 ≤ x.1) × Codes xs

-- a part that is read first: its code, or the rest's where it has none
pub first-stage : (rest : ℕ) (xs : List (Bool × ℕ)) → Codes xs → first rest xs ≡ if_zero (first 0 xs) rest (first 0 xs)
unfolding first
first-stage rest [] h = refl
first-stage rest (x ∷ xs) h = go x.0 (first-stage rest xs h.1)
  where
    go : (b : Bool) → first rest xs ≡ if_zero (first 0 xs) rest (first 0 xs)
        → cond b (first rest xs) x.1 ≡ if_zero (cond b (first 0 xs) x.1) rest (cond b (first 0 xs) x.1)
    go true ih = ih
    go false ih = refusal-kept x.1 rest x.1 x.1 refl (λ z. omega (arith, h.0))

-- codes from 1 to 255 other than 7, as one test that computes
abbrev pub Plain : List (Bool × ℕ) → Bool
Plain [] = true
Plain (x ∷ xs) = (within 1 6 x.1 || within 8 255 x.1) && Plain xs

plain-has : (n : ℕ) → within 1 6 n || within 8 255 n ≡ true → (1 ≤ n) × (n < 256) × (n ≢ 7)
plain-has n h = go (within 1 6 n) refl h
  where
    go : (b : Bool) → within 1 6 n ≡ b → b || within 8 255 n ≡ true → (1 ≤ n) × (n < 256) × (n ≢ 7)
    go true e k = let w = within-true 1 6 n e in (w.0, omega arith, λ z. omega arith)
    go false e k = let w = within-true 8 255 n k in (omega arith, omega arith, λ z. omega arith)

pub plain-codes : (xs : List (Bool × ℕ)) → Plain xs ≡ true → Codes xs
plain-codes [] h = tt
plain-codes (x ∷ xs) h =
    let k = both (within 1 6 x.1 || within 8 255 x.1) (Plain xs) h in
    ((plain-has x.1 k.0).0, plain-codes xs k.1)

-- every test holds
abbrev pub Holds : {A : Type 0} → List (Bool × A) → Type 0
Holds [] = Unit {0}
Holds (x ∷ xs) = (x.0 ≡ true) × Holds xs

pub holds-append : (xs ys : List (Bool × ℕ)) → Holds (xs ++ ys) → Holds xs × Holds ys
holds-append [] ys h = (tt, h)
holds-append (x ∷ xs) ys h = let p = holds-append xs ys h.1 in ((h.0, p.0), p.1)

-- a part of a list of checks that gives 0, and the rest
pub checks-held : (xs ys : List (Bool × ℕ)) → Codes xs → first 0 (xs ++ ys) ≡ 0 → Holds xs × (first 0 ys ≡ 0)
checks-held [] ys c h = (tt, h)
checks-held (x ∷ xs) ys c h =
    let p = first-passed x (xs ++ ys) c.0 h in
    let q = checks-held xs ys c.1 p.1 in
    ((p.0, q.0), q.1)

-- the test that stands beside a code, wherever in the list that is
abbrev pub test_of : ℕ → List (Bool × ℕ) → Bool
test_of k [] = true
test_of k (x ∷ xs) = cond (eqb x.1 k) x.0 (test_of k xs)

pub test-holds : (k : ℕ) (xs : List (Bool × ℕ)) → Holds xs → test_of k xs ≡ true
test-holds k [] h = refl
test-holds k (x ∷ xs) h = go (eqb x.1 k) (test-holds k xs h.1)
  where
    go : (b : Bool) → test_of k xs ≡ true → cond b x.0 (test_of k xs) ≡ true
    go true rest = h.0
    go false rest = rest

-- no check has a given answer
abbrev pub Without : {A : Type 0} → A → List (Bool × A) → Type 0
Without k [] = Unit {0}
Without k (x ∷ xs) = (x.1 ≢ k) × Without k xs

never : {A : Type 0} (none k : A) (xs : List (Bool × A)) → none ≢ k → Without k xs → first none xs ≢ k
unfolding first
never none k [] n w e = n e
never none k (x ∷ xs) n w e = go x.0 e (never none k xs n w.1)
  where
    go : (b : Bool) → cond b (first none xs) x.1 ≡ k → first none xs ≢ k → ⊥
    go true e rest = rest e
    go false e rest = w.0 e

-- an answer that one check alone has is given exactly where every test before that check holds and its own fails
pub given-exactly : {A : Type 0} (none k : A) (b : Bool) (xs ys : List (Bool × A)) → none ≢ k → Without k xs → Without k ys
    → (first none (xs ++ (b, k) ∷ ys) ≡ k) ↔ (Holds xs × (b ≡ false))
unfolding first
given-exactly none k b [] ys n w v = (λ e. (tt, go b e), λ h. rw h.1)
  where
    go : (b : Bool) → cond b (first none ys) k ≡ k → b ≡ false
    go true e = absurd (never none k ys n v e)
    go false e = refl
given-exactly none k b (x ∷ xs) ys n w v = (λ e. go x.0 refl e (given-exactly none k b xs ys n w.1 v).0, λ h. rw h.0.0 ((given-exactly none k b xs ys n w.1 v).1 (h.0.1, h.1)))
  where
    go : (c : Bool) → x.0 ≡ c → cond c (first none (xs ++ (b, k) ∷ ys)) x.1 ≡ k
        → (first none (xs ++ (b, k) ∷ ys) ≡ k → Holds xs × (b ≡ false)) → Holds (x ∷ xs) × (b ≡ false)
    go true e h ih = let p = ih h in ((e, p.0), p.1)
    go false e h ih = absurd (w.0 h)

-- codes that rise, the first above m
abbrev pub Rising : ℕ → List (Bool × ℕ) → Type 0
Rising m [] = Unit {0}
Rising m (x ∷ xs) = (m < x.1) × Rising x.1 xs

-- no check has a code up to m
low-test : (m j : ℕ) (xs : List (Bool × ℕ)) → Rising m xs → j ≤ m → test_of j xs ≡ true
low-test m j [] r l = refl
low-test m j (x ∷ xs) r l = rw (ne_eqb x.1 j (λ e. omega (arith, r.0))) (low-test x.1 j xs r.1 (omega (arith, r.0)))

-- a test that holds, in front of another
in-front : (b c : Bool) → c ≡ true → cond b true c ≡ true
in-front true c h = refl
in-front false c h = h

in-front-false : (b c : Bool) → cond b true c ≡ false → (b ≡ false) × (c ≡ false)
in-front-false true c h = absurd (false≢true (sym h))
in-front-false false c h = (refl, h)

module _ (k : ℕ) (pos : 1 ≤ k) where
  -- its test fails and every lower one's holds
  abbrev Lowest : List (Bool × ℕ) → Type 0
  Lowest xs = (test_of k xs ≡ false) × ((j : ℕ) → j < k → test_of j xs ≡ true)

  given : (m : ℕ) (xs : List (Bool × ℕ)) → Rising m xs → first 0 xs ≡ k → Lowest xs
  unfolding first
  given m [] r e = absurd (omega arith)
  given m (x ∷ xs) r e = go x.0 e (given x.1 xs r.1)
    where
      here : (c : Bool) → eqb x.1 k ≡ c → test_of k xs ≡ false → cond c true (test_of k xs) ≡ false
      here true h f = absurd (false≢true (sym f ∙ low-test x.1 k xs r.1 (omega (arith, eqb-true x.1 k h))))
      here false h f = f

      go : (b : Bool) → cond b (first 0 xs) x.1 ≡ k → (first 0 xs ≡ k → Lowest xs)
          → (cond (eqb x.1 k) b (test_of k xs) ≡ false) × ((j : ℕ) → j < k → cond (eqb x.1 j) b (test_of j xs) ≡ true)
      go true e ih = let p = ih e in (here (eqb x.1 k) refl p.0, λ j l. in-front (eqb x.1 j) (test_of j xs) (p.1 j l))
      go false e ih = (rw (eq-eqb x.1 k e), λ j l. rw (ne_eqb x.1 j (λ z. omega arith)) (low-test x.1 j xs r.1 (omega arith)))

  back : (m : ℕ) (xs : List (Bool × ℕ)) → Rising m xs → Lowest xs → first 0 xs ≡ k
  unfolding first
  back m [] r l = absurd (false≢true (sym l.0))
  back m (x ∷ xs) r l = go x.0 l.0 l.1 (back x.1 xs r.1)
    where
      other : (j : ℕ) (c : Bool) → eqb x.1 j ≡ c → cond c true (test_of j xs) ≡ true → test_of j xs ≡ true
      other j true e h = low-test x.1 j xs r.1 (omega (arith, eqb-true x.1 j e))
      other j false e h = h

      own : (c : Bool) → eqb x.1 k ≡ c → cond c false (test_of k xs) ≡ false
          → ((j : ℕ) → j < k → cond (eqb x.1 j) false (test_of j xs) ≡ true) → Dec (x.1 < k) → x.1 ≡ k
      own true e f h d = eqb-true x.1 k e
      own false e f h (yes p) = absurd (false≢true (rw (eq-eqb x.1 x.1 refl) at (h x.1 p)))
      own false e f h (no p) = absurd (false≢true (sym f ∙ low-test x.1 k xs r.1 (omega arith)))

      go : (b : Bool) → cond (eqb x.1 k) b (test_of k xs) ≡ false → ((j : ℕ) → j < k → cond (eqb x.1 j) b (test_of j xs) ≡ true)
          → (Lowest xs → first 0 xs ≡ k) → cond b (first 0 xs) x.1 ≡ k
      go true f h ih = ih ((in-front-false (eqb x.1 k) (test_of k xs) f).1, λ j l. other j (eqb x.1 j) refl (h j l))
      go false f h ih = own (eqb x.1 k) refl f h (dec_lt x.1 k)

-- where codes rise, a code is given exactly where its test fails and every lower one's holds
pub rising-first : (xs : List (Bool × ℕ)) → Rising 0 xs → (k : ℕ) → 1 ≤ k
    → (first 0 xs ≡ k) ↔ ((test_of k xs ≡ false) × ((j : ℕ) → j < k → test_of j xs ≡ true))
rising-first xs r k pos = (given k pos 0 xs r, back k pos 0 xs r)

-- a number whose code is not 7
abbrev pub Fine : ℕ → Type 0
Fine n = n % 256 ≢ 7

fine-check : (r : Bool × ℕ) (rest : List (Bool × ℕ)) → Fine r.1 → Fine (first 0 rest) → Fine (first 0 (r ∷ rest))
unfolding first
fine-check r rest h g = go r.0
  where
    go : (b : Bool) → Fine (cond b (first 0 rest) r.1)
    go true = g
    go false = h

pub fine-pass : (r : Bool × ℕ) (rest : List (Bool × ℕ)) → r.0 ≡ true → Fine (first 0 rest) → Fine (first 0 (r ∷ rest))
unfolding first
fine-pass r rest h g = rw h g

-- a plain code, and the rest
plain-fine : (n : ℕ) (xs : List (Bool × ℕ)) → (within 1 6 n || within 8 255 n) && Plain xs ≡ true → Fine n × (Plain xs ≡ true)
plain-fine n xs h =
    let k = both (within 1 6 n || within 8 255 n) (Plain xs) h in
    let p = plain-has n k.0 in
    (λ e. p.2 (omega (arith, p.1)), k.1)

pub fine-part : (xs ys : List (Bool × ℕ)) → Plain xs ≡ true → Fine (first 0 ys) → Fine (first 0 (xs ++ ys))
fine-part [] ys c h = h
fine-part (x ∷ xs) ys c h =
    let k = plain-fine x.1 xs c in
    fine-check x (xs ++ ys) k.0 (fine-part xs ys k.1 h)

pub fine_end : Fine (first 0 [])
unfolding first
fine_end = omega arith

-- a list of checks whose tests but the last hold
pub first-last : (xs : List (Bool × ℕ)) (last : Bool × ℕ) → Holds xs → first 0 (xs ++ last ∷ []) ≡ cond last.0 0 last.1
unfolding first
first-last [] last h = refl
first-last (x ∷ xs) last h = rw h.0 (first-last xs last h.1)

-- code 7 where no check but the last has it: all the others hold
pub last-seven : (xs : List (Bool × ℕ)) (last : Bool × ℕ) → Plain xs ≡ true → first 0 (xs ++ last ∷ []) % 256 ≡ 7 → Holds xs × (last.0 ≡ false)
unfolding first
last-seven [] last c h = (tt, go last.0 refl h)
  where
    go : (b : Bool) → last.0 ≡ b → cond b 0 last.1 % 256 ≡ 7 → last.0 ≡ false
    go true e z = absurd (omega arith)
    go false e z = e
last-seven (x ∷ xs) last c h = go x.0 refl h (last-seven xs last (plain-fine x.1 xs c).1)
  where
    go : (b : Bool) → x.0 ≡ b → cond b (first 0 (xs ++ last ∷ [])) x.1 % 256 ≡ 7
        → (first 0 (xs ++ last ∷ []) % 256 ≡ 7 → Holds xs × (last.0 ≡ false)) → Holds (x ∷ xs) × (last.0 ≡ false)
    go true e z ih = let p = ih z in ((e, p.0), p.1)
    go false e z ih = absurd ((plain-fine x.1 xs c).0 z)
