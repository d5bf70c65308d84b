-- The definition of solving: one unknown is eliminated, and what is left is a system of the same kind, over scaled unknowns. What is solved for
-- has the sums that it is solved from (solves), and whatever has them is what is solved for (solved). Assumes nothing.
--   Bytes xs                                    every one is below 256
--   rows us vs ds                               the sums of the bytes ds, numbered vs, in the parities us
--   solved, solves                              the two theorems
--   solve-length, solve-bytes, row_lt           sizes
--   across                                      a sum of two sums, by their first and their second parts
use mathlib.Core.Path.{◌≡◌, refl, sym, ap, ap₂, ◌∙◌}
use mathlib.Core.List.{List, [], ◌∷◌}
use Prim.Native.Nat.{ℕ, suc, ◌<◌}
use native.Mathlib.Omega.{arith}
use lib.ListN.{length, get_or, drop}
use Rattle.gf256.specs.Field.{plus, times, inverse}
use Rattle.cauchy.specs.Solve.{weight, row, reduced_one, reduced, unscaled_one, unscaled, front, solve}
use Rattle.gf256.specs.Mixing.{zipped}
use Rattle.cauchy.specs.System.{Off, Each, Apart, Distinct, Cross}
use Rattle.gf256.proofs.SumLaws.{plus_assoc, plus-left-comm, plus-self, plus-cancel, plus-zero-r, plus-lt}
use Rattle.gf256.proofs.FieldLaws.{times-comm, times-assoc, times-left-comm, times-plus, times-one, times_zero, times-lt, times-inverse}

abbrev pub Bytes : List ℕ → Type 0
Bytes xs = Each (λ x. x < 256) xs

unfoldable pub rows : List ℕ → List ℕ → List ℕ → List ℕ
rows [] vs ds = []
rows (u ∷ us) vs ds = row u vs ds ∷ rows us vs ds

-- sums
times-plus-l : (a b c : ℕ) → times (plus a b) c ≡ plus (times a c) (times b c)
times-plus-l a b c = times-comm (plus a b) c ∙ times-plus c a b ∙ ap₂ plus (times-comm c a) (times-comm c b)

four : (e p q : ℕ) → plus (plus e p) (plus e q) ≡ plus p q
four e p q = plus_assoc e p (plus e q) ∙ ap (plus e) (plus-left-comm p e q) ∙ plus-cancel e (plus p q)

pub across : (a b c d : ℕ) → plus (plus a b) (plus c d) ≡ plus (plus a c) (plus b d)
across a b c d = simp (plus_assoc, plus-left-comm)

-- quotients
cancel-any : (a d : ℕ) → Off a → times a (times d (inverse a)) ≡ times d 1
cancel-any a d h = times-left-comm a d (inverse a) ∙ ap (times d) (times-inverse a h)

cancel : (a d : ℕ) → Off a → d < 256 → times a (times d (inverse a)) ≡ d
cancel a d h l = cancel-any a d h ∙ times-comm d 1 ∙ times-one d l

-- the one identity: a is u + x, b is w + x, c is v + x
element : (a b c d : ℕ) → Off a → Off b
    → plus (times (plus a c) (times d (inverse a))) (times (plus b c) (times d (inverse b)))
    ≡ times (plus b a) (times (times d (times c (inverse b))) (inverse a))
element a b c d ha hb =
    let A = inverse a in
    let B = inverse b in
    ap₂ plus (times-plus-l a c (times d A)) (times-plus-l b c (times d B))
    ∙ ap₂ (λ (x y : ℕ). plus (plus x (times c (times d A))) (plus y (times c (times d B)))) (cancel-any a d ha) (cancel-any b d hb)
    ∙ four (times d 1) (times c (times d A)) (times c (times d B))
    ∙ sym (ap₂ plus
    (ap (times b) (simp (times-assoc, times-comm, times-left-comm)) ∙ cancel b (times c (times d A)) hb (times-lt c (times d A)))
    (cancel a (times d (times c B)) ha (times-lt d (times c B)) ∙ times-left-comm d c B))
    ∙ sym (times-plus-l b a (times (times d (times c B)) A))

joint : (u v x : ℕ) → plus u v ≡ plus (plus u x) (plus v x)
joint u v x = sym (plus-zero-r (plus u v)) ∙ ap (plus (plus u v)) (sym (plus-self x)) ∙ across u v x x

-- the data as the smaller system has them
scaled : ℕ → ℕ → List ℕ → List ℕ → List ℕ
scaled w v [] ds = []
scaled w v (x ∷ xs) [] = []
scaled w v (x ∷ xs) (d ∷ ds) = times d (times (plus v x) (weight w x)) ∷ scaled w v xs ds

pub row_lt : (u : ℕ) (vs ds : List ℕ) → row u vs ds < 256
unfolding row
row_lt u [] ds = omega arith
row_lt u (v ∷ vs) [] = omega arith
row_lt u (v ∷ vs) (d ∷ ds) = plus-lt (times d (weight u v)) (row u vs ds) (times-lt d (weight u v)) (row_lt u vs ds)

two-zero : (a b c : ℕ) → plus (times a 0) (times b 0) ≡ times c 0
two-zero a b c = ap₂ plus (times_zero a) (times_zero b) ∙ plus-self 0 ∙ sym (times_zero c)

rest : (u w v : ℕ) (vs ds : List ℕ) → Apart u vs → Apart w vs
    → plus (times (plus u v) (row u vs ds)) (times (plus w v) (row w vs ds)) ≡ times (plus w u) (row u vs (scaled w v vs ds))
unfolding row scaled weight
rest u w v [] ds hu hw = two-zero (plus u v) (plus w v) (plus w u)
rest u w v (x ∷ xs) [] hu hw = two-zero (plus u v) (plus w v) (plus w u)
rest u w v (x ∷ xs) (d ∷ ds) hu hw =
    let A = inverse (plus u x) in
    let B = inverse (plus w x) in
    ap₂ plus (times-plus (plus u v) (times d A) (row u xs ds)) (times-plus (plus w v) (times d B) (row w xs ds))
    ∙ across (times (plus u v) (times d A)) (times (plus u v) (row u xs ds)) (times (plus w v) (times d B)) (times (plus w v) (row w xs ds))
    ∙ ap₂ plus
    (ap₂ (λ (m n : ℕ). plus (times m (times d A)) (times n (times d B))) (joint u v x) (joint w v x)
    ∙ element (plus u x) (plus w x) (plus v x) d hu.0 hw.0
    ∙ ap (λ (m : ℕ). times m (times (times d (times (plus v x) B)) A)) (sym (joint w u x)))
    (rest u w v xs ds hu.1 hw.1)
    ∙ sym (times-plus (plus w u) (times (times d (times (plus v x) B)) A) (row u xs (scaled w v xs ds)))

whole : (u w v d : ℕ) (vs ds : List ℕ) → Apart u (v ∷ vs) → Apart w (v ∷ vs)
    → plus (times (plus u v) (row u (v ∷ vs) (d ∷ ds))) (times (plus w v) (row w (v ∷ vs) (d ∷ ds))) ≡ times (plus w u) (row u vs (scaled w v vs ds))
unfolding row weight
whole u w v d vs ds hu hw =
    ap₂ plus
    (times-plus (plus u v) (times d (inverse (plus u v))) (row u vs ds) ∙ ap (λ (m : ℕ). plus m (times (plus u v) (row u vs ds))) (cancel-any (plus u v) d hu.0))
    (times-plus (plus w v) (times d (inverse (plus w v))) (row w vs ds) ∙ ap (λ (m : ℕ). plus m (times (plus w v) (row w vs ds))) (cancel-any (plus w v) d hw.0))
    ∙ four (times d 1) (times (plus u v) (row u vs ds)) (times (plus w v) (row w vs ds))
    ∙ rest u w v vs ds hu.1 hw.1

two : {x y : ℕ} {xs ys : List ℕ} → x ≡ y → xs ≡ ys → x ∷ xs ≡ y ∷ ys
two p q = ap₂ (λ (u : ℕ) (us : List ℕ). u ∷ us) p q

reduced-rows : (w v d : ℕ) (us vs ds : List ℕ) → Apart w us → Apart w (v ∷ vs) → Cross us (v ∷ vs)
    → reduced w v (row w (v ∷ vs) (d ∷ ds)) us (rows us (v ∷ vs) (d ∷ ds)) ≡ rows us vs (scaled w v vs ds)
unfolding reduced reduced_one zipped rows weight
reduced-rows w v d [] vs ds ha hw hc = refl
reduced-rows w v d (u ∷ us) vs ds ha hw hc =
    two
    (ap (λ (m : ℕ). times m (inverse (plus w u))) (whole u w v d vs ds hc.0 hw)
    ∙ times-assoc (plus w u) (row u vs (scaled w v vs ds)) (inverse (plus w u))
    ∙ cancel (plus w u) (row u vs (scaled w v vs ds)) ha.0 (row_lt u vs (scaled w v vs ds)))
    (reduced-rows w v d us vs ds ha.1 hw hc.1)

unscaled-scaled : (w v : ℕ) (vs ds : List ℕ) → length ds ≡ length vs → Bytes ds → Apart w vs → Apart v vs → unscaled w v vs (scaled w v vs ds) ≡ ds
unfolding unscaled unscaled_one zipped scaled weight
unscaled-scaled w v [] [] hl hb hw hv = refl
unscaled-scaled w v [] (d ∷ ds) hl hb hw hv = absurd (omega arith)
unscaled-scaled w v (x ∷ xs) [] hl hb hw hv = absurd (omega arith)
unscaled-scaled w v (x ∷ xs) (d ∷ ds) hl hb hw hv =
    let b = plus w x in
    let c = plus v x in
    two
    (same d b c (inverse b) (inverse c)
    ∙ ap (λ (m : ℕ). times c (times m (inverse c))) (cancel b d hw.0 hb.0)
    ∙ cancel c d hv.0 hb.0)
    (unscaled-scaled w v xs ds (omega arith) hb.1 hw.1 hv.1)
  where
    same : (d b c B C : ℕ) → times (times d (times c B)) (times b C) ≡ times c (times (times b (times d B)) C)
    same d b c B C = simp (times-assoc, times-left-comm)

front-row : (w v d : ℕ) (vs ds : List ℕ) → d < 256 → Off (plus w v) → front w v (row w (v ∷ vs) (d ∷ ds)) vs ds ≡ d ∷ ds
unfolding front row weight
front-row w v d vs ds hd ho =
    ap (λ (m : ℕ). times (plus w v) m ∷ ds)
    (plus_assoc (times d (inverse (plus w v))) (row w vs ds) (row w vs ds)
    ∙ ap (plus (times d (inverse (plus w v)))) (plus-self (row w vs ds))
    ∙ plus-zero-r (times d (inverse (plus w v))))
    ∙ ap (λ (m : ℕ). m ∷ ds) (cancel (plus w v) d ho hd)

cross_tail : (v : ℕ) (us vs : List ℕ) → Cross us (v ∷ vs) → Cross us vs
cross_tail v [] vs h = tt
cross_tail v (u ∷ us) vs h = (h.0.1, cross_tail v us vs h.1)

scaled-length : (w v : ℕ) (vs ds : List ℕ) → length ds ≡ length vs → length (scaled w v vs ds) ≡ length vs
unfolding scaled
scaled-length w v [] ds h = refl
scaled-length w v (x ∷ xs) [] h = h
scaled-length w v (x ∷ xs) (d ∷ ds) h = ap suc (scaled-length w v xs ds (omega arith))

scaled-bytes : (w v : ℕ) (vs ds : List ℕ) → Bytes (scaled w v vs ds)
unfolding scaled
scaled-bytes w v [] ds = tt
scaled-bytes w v (x ∷ xs) [] = tt
scaled-bytes w v (x ∷ xs) (d ∷ ds) = (times-lt d (times (plus v x) (weight w x)), scaled-bytes w v xs ds)

pub solved : (us vs ds : List ℕ) → length us ≡ length vs → length ds ≡ length vs → Bytes ds → Cross us vs → Distinct us → Distinct vs
    → solve us vs (rows us vs ds) ≡ ds
unfolding solve rows
solved [] [] [] hu hd hb hc du dv = refl
solved [] [] (d ∷ ds) hu hd hb hc du dv = absurd (omega arith)
solved [] (v ∷ vs) ds hu hd hb hc du dv = absurd (omega arith)
solved (w ∷ us) [] ds hu hd hb hc du dv = absurd (omega arith)
solved (w ∷ us) (v ∷ vs) [] hu hd hb hc du dv = absurd (omega arith)
solved (w ∷ us) (v ∷ vs) (d ∷ ds) hu hd hb hc du dv =
    ap (λ (l : List ℕ). front w v (row w (v ∷ vs) (d ∷ ds)) vs (unscaled w v vs (solve us vs l))) (reduced-rows w v d us vs ds du.0 hc.0 hc.1)
    ∙ ap (λ (l : List ℕ). front w v (row w (v ∷ vs) (d ∷ ds)) vs (unscaled w v vs l)) (solved us vs (scaled w v vs ds) (omega arith) (scaled-length w v vs ds (omega arith)) (scaled-bytes w v vs ds) (cross_tail v us vs hc.1) du.1 dv.1)
    ∙ ap (front w v (row w (v ∷ vs) (d ∷ ds)) vs) (unscaled-scaled w v vs ds (omega arith) hb.1 hc.0.1 dv.0)
    ∙ front-row w v d vs ds hb.0 hc.0.0

-- ---- what is solved for has the sums
zipped-length : (f : ℕ → ℕ → ℕ) (xs ys : List ℕ) → length ys ≡ length xs → length (zipped f xs ys) ≡ length xs
unfolding zipped
zipped-length f [] ys h = refl
zipped-length f (x ∷ xs) [] h = h
zipped-length f (x ∷ xs) (y ∷ ys) h = ap suc (zipped-length f xs ys (omega arith))

zipped-bytes : (f : ℕ → ℕ → ℕ) → ((x y : ℕ) → f x y < 256) → (xs ys : List ℕ) → Bytes (zipped f xs ys)
unfolding zipped
zipped-bytes f h [] ys = tt
zipped-bytes f h (x ∷ xs) [] = tt
zipped-bytes f h (x ∷ xs) (y ∷ ys) = (h x y, zipped-bytes f h xs ys)

reduced-length : (w v s : ℕ) (us ts : List ℕ) → length ts ≡ length us → length (reduced w v s us ts) ≡ length us
unfolding reduced
reduced-length w v s us ts h = zipped-length (reduced_one w v s) us ts h

reduced-bytes : (w v s : ℕ) (us ts : List ℕ) → Bytes (reduced w v s us ts)
unfolding reduced reduced_one
reduced-bytes w v s us ts = zipped-bytes (reduced_one w v s) (λ u t. times-lt (plus (times (plus u v) t) (times (plus w v) s)) (weight w u)) us ts

unscaled-bytes : (w v : ℕ) (xs es : List ℕ) → Bytes (unscaled w v xs es)
unfolding unscaled unscaled_one
unscaled-bytes w v xs es = zipped-bytes (unscaled_one w v) (λ x e. times-lt e (times (plus w x) (weight v x))) xs es

pub solve-bytes : (us vs ss : List ℕ) → Bytes (solve us vs ss)
unfolding solve front
solve-bytes [] vs ss = tt
solve-bytes (w ∷ us) [] ss = tt
solve-bytes (w ∷ us) (v ∷ vs) [] = tt
solve-bytes (w ∷ us) (v ∷ vs) (s ∷ ss) =
    let ds = unscaled w v vs (solve us vs (reduced w v s us ss)) in
    (times-lt (plus w v) (plus s (row w vs ds)), unscaled-bytes w v vs (solve us vs (reduced w v s us ss)))

pub solve-length : (us vs ss : List ℕ) → length us ≡ length vs → length ss ≡ length vs → length (solve us vs ss) ≡ length vs
unfolding solve front unscaled
solve-length [] [] ss h l = refl
solve-length [] (v ∷ vs) ss h l = absurd (omega arith)
solve-length (w ∷ us) [] ss h l = absurd (omega arith)
solve-length (w ∷ us) (v ∷ vs) [] h l = absurd (omega arith)
solve-length (w ∷ us) (v ∷ vs) (s ∷ ss) h l =
    ap suc (zipped-length (unscaled_one w v) vs (solve us vs (reduced w v s us ss))
    (solve-length us vs (reduced w v s us ss) (omega arith) (reduced-length w v s us ss (omega arith) ∙ omega arith)))

scaled-unscaled : (w v : ℕ) (vs es : List ℕ) → length es ≡ length vs → Bytes es → Apart w vs → Apart v vs → scaled w v vs (unscaled w v vs es) ≡ es
unfolding unscaled unscaled_one zipped scaled weight
scaled-unscaled w v [] [] hl hb hw hv = refl
scaled-unscaled w v [] (e ∷ es) hl hb hw hv = absurd (omega arith)
scaled-unscaled w v (x ∷ xs) [] hl hb hw hv = absurd (omega arith)
scaled-unscaled w v (x ∷ xs) (e ∷ es) hl hb hw hv =
    let b = plus w x in
    let c = plus v x in
    two
    (same e b c (inverse b) (inverse c)
    ∙ ap (λ (m : ℕ). times c (times m (inverse c))) (cancel b e hw.0 hb.0)
    ∙ cancel c e hv.0 hb.0)
    (scaled-unscaled w v xs es (omega arith) hb.1 hw.1 hv.1)
  where
    same : (e b c B C : ℕ) → times (times e (times b C)) (times c B) ≡ times c (times (times b (times e B)) C)
    same e b c B C = simp (times-assoc, times-comm, times-left-comm)

front-sum : (w v s : ℕ) (vs ds : List ℕ) → s < 256 → Off (plus w v) → row w (v ∷ vs) (front w v s vs ds) ≡ s
unfolding front row weight
front-sum w v s vs ds hs ho =
    let x = plus s (row w vs ds) in
    ap (λ (m : ℕ). plus m (row w vs ds))
    (times-assoc (plus w v) x (inverse (plus w v)) ∙ cancel (plus w v) x ho (plus-lt s (row w vs ds) hs (row_lt w vs ds)))
    ∙ plus_assoc s (row w vs ds) (row w vs ds) ∙ ap (plus s) (plus-self (row w vs ds)) ∙ plus-zero-r s

undone : (a x y : ℕ) → Off a → x < 256 → y < 256 → times a x ≡ times a y → x ≡ y
undone a x y h hx hy e =
    let q : (z : ℕ) → z < 256 → times (inverse a) (times a z) ≡ z =
    λ z l. times-comm (inverse a) (times a z) ∙ times-assoc a z (inverse a) ∙ cancel a z h l in
    sym (q x hx) ∙ ap (times (inverse a)) e ∙ q y hy

one-sum : (u w v s t d : ℕ) (vs ds es : List ℕ) → Apart u (v ∷ vs) → Apart w (v ∷ vs) → Off (plus w u) → t < 256
    → row w (v ∷ vs) (d ∷ ds) ≡ s → scaled w v vs ds ≡ es → row u vs es ≡ reduced_one w v s u t → row u (v ∷ vs) (d ∷ ds) ≡ t
unfolding reduced_one weight
one-sum u w v s t d vs ds es hu hw ho ht hs he hr =
    let r = row u (v ∷ vs) (d ∷ ds) in
    let x = times (plus u v) t in
    let y = times (plus w v) s in
    let e : plus (times (plus u v) r) y ≡ plus x y =
    ap (λ (m : ℕ). plus (times (plus u v) r) (times (plus w v) m)) (sym hs)
    ∙ whole u w v d vs ds hu hw
    ∙ ap (times (plus w u)) (ap (row u vs) he ∙ hr)
    ∙ cancel (plus w u) (plus x y) ho (plus-lt x y (times-lt (plus u v) t) (times-lt (plus w v) s)) in
    undone (plus u v) r t hu.0 (row_lt u (v ∷ vs) (d ∷ ds)) ht
    (sym (drops (times (plus u v) r) y) ∙ ap (λ (m : ℕ). plus m y) e ∙ drops x y)
  where
    drops : (a b : ℕ) → plus (plus a b) b ≡ a
    drops a b = plus_assoc a b b ∙ ap (plus a) (plus-self b) ∙ plus-zero-r a

all-sums : (w v s d : ℕ) (us ts vs ds es : List ℕ) → length ts ≡ length us → Apart w us → Apart w (v ∷ vs) → Cross us (v ∷ vs) → Bytes ts
    → row w (v ∷ vs) (d ∷ ds) ≡ s → scaled w v vs ds ≡ es → rows us vs es ≡ reduced w v s us ts → rows us (v ∷ vs) (d ∷ ds) ≡ ts
unfolding rows reduced zipped
all-sums w v s d [] [] vs ds es hl ha hw hc hb hs he hr = refl
all-sums w v s d [] (t ∷ ts) vs ds es hl ha hw hc hb hs he hr = absurd (omega arith)
all-sums w v s d (u ∷ us) [] vs ds es hl ha hw hc hb hs he hr = absurd (omega arith)
all-sums w v s d (u ∷ us) (t ∷ ts) vs ds es hl ha hw hc hb hs he hr =
    two
    (one-sum u w v s t d vs ds es hc.0 hw ha.0 hb.0 hs he (ap (λ (l : List ℕ). get_or l 0 0) hr))
    (all-sums w v s d us ts vs ds es (omega arith) ha.1 hw hc.1 hb.1 hs he (ap (drop 1) hr))

rest-sums : (w v s : ℕ) (us ts vs ds es : List ℕ) → length ts ≡ length us → Apart w us → Apart w (v ∷ vs) → Cross us (v ∷ vs) → Bytes ts
    → row w (v ∷ vs) (front w v s vs ds) ≡ s → scaled w v vs ds ≡ es → rows us vs es ≡ reduced w v s us ts → rows us (v ∷ vs) (front w v s vs ds) ≡ ts
unfolding front
rest-sums w v s us ts vs ds es hl ha hw hc hb hs he hr =
    all-sums w v s (times (plus w v) (plus s (row w vs ds))) us ts vs ds es hl ha hw hc hb hs he hr

pub solves : (us vs ss : List ℕ) → length us ≡ length vs → length ss ≡ length vs → Bytes ss → Cross us vs → Distinct us → Distinct vs
    → rows us vs (solve us vs ss) ≡ ss
unfolding solve rows
solves [] [] [] hu hd hb hc du dv = refl
solves [] [] (s ∷ ss) hu hd hb hc du dv = absurd (omega arith)
solves [] (v ∷ vs) ss hu hd hb hc du dv = absurd (omega arith)
solves (w ∷ us) [] ss hu hd hb hc du dv = absurd (omega arith)
solves (w ∷ us) (v ∷ vs) [] hu hd hb hc du dv = absurd (omega arith)
solves (w ∷ us) (v ∷ vs) (s ∷ ss) hu hd hb hc du dv =
    let ts = reduced w v s us ss in
    let es = solve us vs ts in
    let ds = unscaled w v vs es in
    let tl : length ts ≡ length vs = reduced-length w v s us ss (omega arith) ∙ omega arith in
    let first : row w (v ∷ vs) (front w v s vs ds) ≡ s = front-sum w v s vs ds hb.0 hc.0.0 in
    let back : scaled w v vs ds ≡ es =
    scaled-unscaled w v vs es (solve-length us vs ts (omega arith) tl) (solve-bytes us vs ts) hc.0.1 dv.0 in
    let ih : rows us vs es ≡ ts =
    solves us vs ts (omega arith) tl (reduced-bytes w v s us ss) (cross_tail v us vs hc.1) du.1 dv.1 in
    two first (rest-sums w v s us ss vs ds es (omega arith) du.0 hc.0 hc.1 hb.1 first back ih)
