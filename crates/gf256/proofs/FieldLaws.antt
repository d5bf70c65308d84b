-- The field's laws, from one rule of each table: each power is the double of the one before, and each logarithm's power is its number.
-- A product by the tables is its second factor doubled as often as the logarithm of the first says, so it is linear there, and it is the
-- definition's carry-less product. Assumes nothing.
--   product                              the product by the tables
--   power_at, log-power, table-times     the rules, and the definition's product by the tables
--   times-lt, times-comm, times-assoc, times-left-comm, times-plus, times-one, times_zero, zero-times   the product
--   inverse-lt, times-inverse            the inverse
--   log-list, power-list, product-from, inverse-zero, inverse-from, times-doubled, spread-times   what the code asks
use mathlib.Core.Path.{◌≡◌, refl, sym, ap, ap₂, ◌∙◌}
use mathlib.Core.Bool.{Bool, true, false, cond, true≢false}
use mathlib.Core.List.{List, [], ◌∷◌}
use Prim.Native.Nat.{ℕ, zero, suc, ◌+◌, ◌-◌, ◌*◌, ◌/◌, ◌%◌, ◌<◌, ◌≤◌}
use native.Mathlib.Nat.{add_comm, mod-eq_of_lt, suc-add, zero-add, le_of_suc-le-suc, not-suc-le-zero}
use native.Mathlib.Omega.{arith}
use native.Mathlib.Decide.{ℕ_discrete}
use borrow.Author.Tests.{eqb-true, eq-eqb, ne_eqb}
use lib.Dec.{T, eqb, ltb, eqb→eq, ltb→lt}
use lib.Seq.{ext_get_or}
use lib.ListN.{get_or, length}
use Rattle.gf256.specs.Field.{plus, modulus, double, bits_times, times, sought, inverse}
use Rattle.gf256.specs.Tables.{doubled, doubles, powers, Logged}
use Rattle.gf256.specs.Mixing.{doubles_of, spread_by}
use Rattle.gf256.proofs.Entries.{power_list, log_list}
use Rattle.gf256.proofs.TableRule.{at, both, both_left, both_right}
use Rattle.gf256.proofs.SumLaws.{double-plus, double-lt, double-small, plus-bit, plus-mod, plus-lt, plus-self, plus-zero-r}

doubled-twice : (m n x : ℕ) → doubled m (doubled n x) ≡ doubled (n + m) x
unfolding doubled
doubled-twice m zero x = ap (λ (k : ℕ). doubled k x) (sym (zero-add m))
doubled-twice m (suc n) x = doubled-twice m n (double x) ∙ ap (λ (k : ℕ). doubled k x) (sym (suc-add n m))

doubled-swap : (m n x : ℕ) → doubled m (doubled n x) ≡ doubled n (doubled m x)
doubled-swap m n x = doubled-twice m n x ∙ ap (λ (k : ℕ). doubled k x) (add_comm n m) ∙ sym (doubled-twice n m x)

doubled-plus : (n a b : ℕ) → doubled n (plus a b) ≡ plus (doubled n a) (doubled n b)
unfolding doubled
doubled-plus zero a b = refl
doubled-plus (suc n) a b = ap (doubled n) (double-plus a b) ∙ doubled-plus n (double a) (double b)

doubled-zero : (n : ℕ) → doubled n 0 ≡ 0
unfolding doubled double modulus plus
doubled-zero zero = refl
doubled-zero (suc n) = doubled-zero n

doubled-lt : (n x : ℕ) → x < 256 → doubled n x < 256
unfolding doubled
doubled-lt zero x h = h
doubled-lt (suc n) x h = doubled-lt n (double x) (double-lt x)

-- the rule of the power_list
chained : ℕ → List ℕ → Bool
chained x [] = true
chained x (y ∷ ys) = both (eqb y (double x)) (chained y ys)

chained-at : (ys : List ℕ) (x : ℕ) → T (chained x ys) → (k : ℕ) → k < length ys → get_or ys k 0 ≡ doubled (suc k) x
unfolding chained doubled
chained-at [] x t k h = absurd (not-suc-le-zero h)
chained-at (y ∷ ys) x t zero h = eqb→eq y (double x) (both_left (eqb y (double x)) (chained y ys) t)
chained-at (y ∷ ys) x t (suc k) h =
    chained-at ys y (both_right (eqb y (double x)) (chained y ys) t) k (le_of_suc-le-suc h)
    ∙ ap (λ (z : ℕ). doubled k (double z)) (eqb→eq y (double x) (both_left (eqb y (double x)) (chained y ys) t))

tail : List ℕ → List ℕ
tail [] = []
tail (x ∷ xs) = xs

pub power_at : (n : ℕ) → n < 512 → get_or power_list n 0 ≡ doubled n 1
unfolding power_list doubled chained double modulus plus tail
power_at zero h = refl
power_at (suc n) h = chained-at (tail power_list) 1 tt n (le_of_suc-le-suc h)

-- the rule of the logarithms
named : ℕ → ℕ → Bool
named zero l = true
named (suc x) l = both (ltb l 255) (eqb (get_or power_list l 0) (suc x))

named-at : (x : ℕ) → x < 256 → T (named x (get_or log_list x 0))
unfolding named power_list log_list
named-at x h = at named log_list tt x h

log-lt : (a : ℕ) → suc a < 256 → get_or log_list (suc a) 0 < 255
unfolding named
log-lt a h = ltb→lt (get_or log_list (suc a) 0) 255 (both_left (ltb (get_or log_list (suc a) 0) 255) (eqb (get_or power_list (get_or log_list (suc a) 0) 0) (suc a)) (named-at (suc a) h))

log-power : (a : ℕ) → suc a < 256 → doubled (get_or log_list (suc a) 0) 1 ≡ suc a
unfolding named
log-power a h =
    sym (power_at (get_or log_list (suc a) 0) (omega (arith, log-lt a h)))
    ∙ eqb→eq (get_or power_list (get_or log_list (suc a) 0) 0) (suc a)
    (both_right (ltb (get_or log_list (suc a) 0) 255) (eqb (get_or power_list (get_or log_list (suc a) 0) 0) (suc a)) (named-at (suc a) h))

-- the product by the tables
pub product : ℕ → ℕ → ℕ
product zero b = 0
product (suc a) zero = 0
product (suc a) (suc b) = get_or power_list (get_or log_list (suc a) 0 + get_or log_list (suc b) 0) 0

-- it doubles its second factor
product-doubled : (a b : ℕ) → suc a < 256 → b < 256 → product (suc a) b ≡ doubled (get_or log_list (suc a) 0) b
unfolding product
product-doubled a zero ha hb = sym (doubled-zero (get_or log_list (suc a) 0))
product-doubled a (suc b) ha hb =
    power_at (get_or log_list (suc a) 0 + get_or log_list (suc b) 0) (omega (arith, log-lt a ha, log-lt b hb))
    ∙ ap (λ (k : ℕ). doubled k 1) (add_comm (get_or log_list (suc a) 0) (get_or log_list (suc b) 0))
    ∙ sym (doubled-twice (get_or log_list (suc a) 0) (get_or log_list (suc b) 0) 1)
    ∙ ap (doubled (get_or log_list (suc a) 0)) (log-power b hb)

product-comm : (a b : ℕ) → product a b ≡ product b a
unfolding product
product-comm zero zero = refl
product-comm zero (suc b) = refl
product-comm (suc a) zero = refl
product-comm (suc a) (suc b) = ap (λ (k : ℕ). get_or power_list k 0) (add_comm (get_or log_list (suc a) 0) (get_or log_list (suc b) 0))

product_lt : (a b : ℕ) → a < 256 → b < 256 → product a b < 256
unfolding product
product_lt zero b ha hb = omega arith
product_lt (suc a) b ha hb = rw product-doubled (doubled-lt (get_or log_list (suc a) 0) b hb)

product-plus : (a b c : ℕ) → a < 256 → b < 256 → c < 256 → product a (plus b c) ≡ plus (product a b) (product a c)
unfolding product
product-plus zero b c ha hb hc = sym (plus-self 0)
product-plus (suc a) b c ha hb hc =
    product-doubled a (plus b c) ha (plus-lt b c hb hc) ∙ doubled-plus (get_or log_list (suc a) 0) b c
    ∙ ap₂ plus (sym (product-doubled a b ha hb)) (sym (product-doubled a c ha hc))

product-zero : (a : ℕ) → product a 0 ≡ 0
unfolding product
product-zero zero = refl
product-zero (suc a) = refl

product-left-comm : (a b c : ℕ) → a < 256 → b < 256 → c < 256 → product a (product b c) ≡ product b (product a c)
unfolding product
product-left-comm zero b c ha hb hc = sym (product-zero b)
product-left-comm (suc a) zero c ha hb hc = refl
product-left-comm (suc a) (suc b) c ha hb hc =
    product-doubled a (product (suc b) c) ha (product_lt (suc b) c hb hc)
    ∙ ap (doubled (get_or log_list (suc a) 0)) (product-doubled b c hb hc)
    ∙ doubled-swap (get_or log_list (suc a) 0) (get_or log_list (suc b) 0) c
    ∙ ap (doubled (get_or log_list (suc b) 0)) (sym (product-doubled a c ha hc))
    ∙ sym (product-doubled b (product (suc a) c) hb (product_lt (suc a) c ha hc))

product-one : (a : ℕ) → a < 256 → product 1 a ≡ a
unfolding log_list doubled
product-one a h = product-doubled 0 a (omega arith) h

power-whole : doubled 255 1 ≡ 1
unfolding power_list
power-whole = sym (power_at 255 (omega arith))

product-inverse : (a : ℕ) → suc a < 256 → product (suc a) (get_or power_list (255 - get_or log_list (suc a) 0) 0) ≡ 1
product-inverse a h =
    let l = get_or log_list (suc a) 0 in
    let k : l < 255 = log-lt a h in
    ap (product (suc a)) (power_at (255 - l) (omega arith))
    ∙ product-doubled a (doubled (255 - l) 1) h (doubled-lt (255 - l) 1 (omega arith))
    ∙ doubled-twice l (255 - l) 1
    ∙ ap (λ (n : ℕ). doubled n 1) (omega arith)
    ∙ power-whole

-- the definition's product is the tables'
top : ℕ → ℕ
top zero = 1
top (suc n) = top n * 2

shift : (a b : ℕ) → a < 256 → b < 256 → product a (double b) ≡ product (double a) b
unfolding log_list doubled
shift a b ha hb =
    let two : (c : ℕ) → c < 256 → product 2 c ≡ double c = λ c h. product-doubled 1 c (omega arith) h in
    ap (product a) (sym (two b hb)) ∙ product-left-comm a 2 b ha (omega arith) hb
    ∙ ap (product 2) (product-comm a b) ∙ product-left-comm 2 b a (omega arith) hb ha
    ∙ ap (product b) (two a ha) ∙ product-comm b (double a)

product-bit : (a b : ℕ) → a < 2 → b < 256 → a * b ≡ product a b
unfolding product
product-bit zero b h l = omega arith
product-bit (suc zero) b h l = omega (arith, product-one b l)
product-bit (suc (suc a)) b h l = absurd (omega arith)

bits-product : (n a b : ℕ) → top n ≤ 256 → a < top n → b < 256 → bits_times n a b ≡ product a b
unfolding bits_times top product
bits-product zero a b l h hb =
    let e : 0 ≡ a = omega arith in
    ap (λ (x : ℕ). product x b) e
bits-product (suc n) a b l h hb =
    let y = a / 2 in
    let hy : y < 128 = omega arith in
    let e : a % 2 + y * 2 ≡ a = omega arith in
    ap₂ plus (product-bit (a % 2) b (omega arith) hb) (bits-product n y (double b) (omega arith) (omega arith) (double-lt b) ∙ shift y b (omega arith) hb)
    ∙ ap₂ plus (product-comm (a % 2) b) (product-comm (double y) b)
    ∙ sym (product-plus b (a % 2) (double y) hb (omega arith) (double-lt y))
    ∙ product-comm b (plus (a % 2) (double y))
    ∙ ap (λ (x : ℕ). product x b) (ap (plus (a % 2)) (double-small y hy) ∙ plus-bit (a % 2) y (omega arith) ∙ e)

low : (a : ℕ) → a % 256 < 256
low a = omega arith

pub table-times : (a b : ℕ) → times a b ≡ product (a % 256) (b % 256)
unfolding times top
table-times a b = bits-product 8 (a % 256) (b % 256) (omega arith) (low a) (low b)

-- the laws, of all numbers
pub times-lt : (a b : ℕ) → times a b < 256
times-lt a b = rw table-times (product_lt (a % 256) (b % 256) (low a) (low b))

pub times-comm : (a b : ℕ) → times a b ≡ times b a
times-comm a b = table-times a b ∙ product-comm (a % 256) (b % 256) ∙ sym (table-times b a)

pub times-plus : (a b c : ℕ) → times a (plus b c) ≡ plus (times a b) (times a c)
times-plus a b c =
    table-times a (plus b c) ∙ ap (product (a % 256)) (plus-mod b c) ∙ product-plus (a % 256) (b % 256) (c % 256) (low a) (low b) (low c)
    ∙ sym (ap₂ plus (table-times a b) (table-times a c))

twice : (a b c : ℕ) → times a (times b c) ≡ product (a % 256) (product (b % 256) (c % 256))
twice a b c = table-times a (times b c) ∙ ap (product (a % 256)) (mod-eq_of_lt (times-lt b c) ∙ table-times b c)

pub times-left-comm : (a b c : ℕ) → times a (times b c) ≡ times b (times a c)
times-left-comm a b c = twice a b c ∙ product-left-comm (a % 256) (b % 256) (c % 256) (low a) (low b) (low c) ∙ sym (twice b a c)

pub times-assoc : (a b c : ℕ) → times (times a b) c ≡ times a (times b c)
times-assoc a b c = times-comm (times a b) c ∙ times-left-comm c a b ∙ ap (times a) (times-comm c b)

pub times-one : (a : ℕ) → a < 256 → times 1 a ≡ a
times-one a h = table-times 1 a ∙ ap (product 1) (mod-eq_of_lt h) ∙ product-one a h

pub times_zero : (a : ℕ) → times a 0 ≡ 0
times_zero a = table-times a 0 ∙ product-zero (a % 256)

pub zero-times : (a : ℕ) → times 0 a ≡ 0
zero-times a = times-comm 0 a ∙ times_zero a

-- the number sought
sought-lt : (f : ℕ → Bool) (n m : ℕ) → 0 < m → n ≤ m → sought f n < m
unfolding sought
sought-lt f zero m h l = h
sought-lt f (suc n) m h l = go (f n) (sought-lt f n m h (omega arith))
  where
    go : (b : Bool) → sought f n < m → cond b n (sought f n) < m
    go true k = omega arith
    go false k = k

sought-passes : (f : ℕ → Bool) (n i : ℕ) → i < n → f i ≡ true → f (sought f n) ≡ true
unfolding sought
sought-passes f zero i h e = absurd (omega arith)
sought-passes f (suc n) i h e = go (f n) refl (ℕ_discrete i n) (λ k. sought-passes f n i k e)
  where
    go : (b : Bool) → f n ≡ b → Dec (i ≡ n) → (i < n → f (sought f n) ≡ true) → f (cond b n (sought f n)) ≡ true
    go true q d k = q
    go false q (yes d) k = absurd (true≢false (sym e ∙ ap f d ∙ q))
    go false q (no d) k = k (omega arith)

sought-none : (f : ℕ → Bool) (n : ℕ) → ((i : ℕ) → f i ≡ false) → sought f n ≡ 0
unfolding sought
sought-none f zero h = refl
sought-none f (suc n) h = ap (λ (b : Bool). cond b n (sought f n)) (h n) ∙ sought-none f n h

-- the inverse
pub inverse-lt : (a : ℕ) → inverse a < 256
unfolding inverse
inverse-lt a = sought-lt (λ b. eqb (times a b) 1) 256 256 (omega arith) (omega arith)

back : ℕ → ℕ
back a = get_or power_list (255 - get_or log_list (a % 256) 0) 0

back-lt : (a : ℕ) → back a < 256
unfolding back
back-lt a =
    let h : 255 - get_or log_list (a % 256) 0 < 512 = omega arith in
    rw power_at (doubled-lt (255 - get_or log_list (a % 256) 0) 1 (omega arith))

times-back : (a : ℕ) → (a % 256 ≡ 0 → ⊥) → times a (back a) ≡ 1
unfolding back
times-back a h = table-times a (back a) ∙ ap (product (a % 256)) (mod-eq_of_lt (back-lt a)) ∙ go (a % 256) refl (low a)
  where
    go : (n : ℕ) → a % 256 ≡ n → n < 256 → product n (get_or power_list (255 - get_or log_list n 0) 0) ≡ 1
    go zero e l = absurd (h e)
    go (suc n) e l = product-inverse n l

pub times-inverse : (a : ℕ) → (a % 256 ≡ 0 → ⊥) → times a (inverse a) ≡ 1
unfolding inverse
times-inverse a h =
    eqb-true (times a (sought (λ b. eqb (times a b) 1) 256)) 1
    (sought-passes (λ b. eqb (times a b) 1) 256 (back a) (back-lt a) (eq-eqb (times a (back a)) 1 (times-back a h)))

-- what the code asks
log-small : (a : ℕ) → a < 256 → get_or log_list a 0 < 255
unfolding log_list
log-small zero h = omega arith
log-small (suc a) h = log-lt a h

pub log-list : Logged log_list
log-list = record { below = log-small; power = λ a l h. go a l h }
  where
    go : (a : ℕ) → 1 ≤ a → a < 256 → doubled (get_or log_list a 0) 1 ≡ a
    go zero l h = absurd (omega arith)
    go (suc a) l h = log-power a h

doubles-at : (n k x : ℕ) → k < n → get_or (doubles n x) k 0 ≡ doubled k x
unfolding doubles doubled
doubles-at zero k x h = absurd (omega arith)
doubles-at (suc n) zero x h = refl
doubles-at (suc n) (suc k) x h = doubles-at n k (double x) (omega arith)

doubles-length : (n x : ℕ) → length (doubles n x) ≡ n
unfolding doubles
doubles-length zero x = refl
doubles-length (suc n) x = ap suc (doubles-length n (double x))

powers-at : (n : ℕ) → n < 512 → get_or powers n 0 ≡ doubled n 1
unfolding powers
powers-at n h = doubles-at 512 n 1 h

entries : length power_list ≡ 512
unfolding power_list
entries = refl

pub power-list : power_list ≡ powers
unfolding powers
power-list = ext_get_or 0 power_list (doubles 512 1) (entries ∙ sym (doubles-length 512 1)) (λ i h. power_at i (omega (arith, entries)) ∙ sym (doubles-at 512 i 1 (omega (arith, entries))))

-- a product with a power doubles
pub times-doubled : (j w : ℕ) → w < 256 → times w (doubled j 1) ≡ doubled j w
unfolding product
times-doubled j w hw =
    table-times w (doubled j 1) ∙ ap₂ product (mod-eq_of_lt hw) (mod-eq_of_lt (doubled-lt j 1 (omega arith)))
    ∙ go w hw
  where
    go : (w : ℕ) → w < 256 → product w (doubled j 1) ≡ doubled j w
    go zero h = sym (doubled-zero j)
    go (suc w) h =
        product-doubled w (doubled j 1) h (doubled-lt j 1 (omega arith)) ∙ doubled-swap (get_or log_list (suc w) 0) j 1 ∙ ap (doubled j) (log-power w h)

pub product-from : {xs : List ℕ} (i j a b : ℕ) → xs ≡ powers → i < 255 → j < 255 → doubled i 1 ≡ a → doubled j 1 ≡ b → b < 256 → get_or xs (i + j) 0 ≡ times a b
product-from i j a b e hi hj ea eb hb =
    ap (λ (ys : List ℕ). get_or ys (i + j) 0) e ∙ powers-at (i + j) (omega arith)
    ∙ ap (λ (n : ℕ). doubled n 1) (add_comm i j) ∙ sym (doubled-twice i j 1) ∙ ap (doubled i) eb
    ∙ sym (times-doubled i b hb) ∙ ap (times b) ea ∙ times-comm b a

pub inverse-zero : inverse 0 ≡ 0
unfolding inverse
inverse-zero =
    sought-none (λ b. eqb (times 0 b) 1) 256 (λ i. ne_eqb (times 0 i) 1 (λ q. omega (arith, zero-times i)))

pub inverse-from : {xs : List ℕ} (i a : ℕ) → xs ≡ powers → i < 255 → doubled i 1 ≡ a → a < 256 → (a ≡ 0 → ⊥) → get_or xs (255 - i) 0 ≡ inverse a
inverse-from i a e hi ea l na =
    let off : a % 256 ≡ 0 → ⊥ = λ q. na (sym (mod-eq_of_lt l) ∙ q) in
    let z = doubled (255 - i) 1 in
    let z-lt : z < 256 = doubled-lt (255 - i) 1 (omega arith) in
    let whole : 255 - i + i ≡ 255 = omega arith in
    let one : times a z ≡ 1 =
    times-comm a z ∙ ap (times z) (sym ea) ∙ times-doubled i z z-lt
    ∙ doubled-twice i (255 - i) 1 ∙ ap (λ (n : ℕ). doubled n 1) whole ∙ power-whole in
    ap (λ (ys : List ℕ). get_or ys (255 - i) 0) e ∙ powers-at (255 - i) (omega arith)
    ∙ sym (times-one z z-lt) ∙ ap (λ (n : ℕ). times n z) (sym (times-inverse a off))
    ∙ times-assoc a (inverse a) z ∙ times-left-comm a (inverse a) z ∙ ap (times (inverse a)) one
    ∙ times-comm (inverse a) 1 ∙ times-one (inverse a) (inverse-lt a)

-- a byte's product with w, from its bits and the eight doubles of w
spread-is : (b w : ℕ) → b < 256 → w < 256
    → times b w
    ≡ plus (b % 2 * w) (plus (b / 2 % 2 * doubled 1 w) (plus (b / 4 % 2 * doubled 2 w) (plus (b / 8 % 2 * doubled 3 w)
    (plus (b / 16 % 2 * doubled 4 w) (plus (b / 32 % 2 * doubled 5 w) (plus (b / 64 % 2 * doubled 6 w) (b / 128 % 2 * doubled 7 w)))))))
unfolding times bits_times doubled
spread-is b w hb hw =
    let v : w % 256 ≡ w = omega arith in
    let e₁ : b % 256 ≡ b = omega arith in
    let e₂ : b / 2 / 2 ≡ b / 4 = omega arith in
    let e₃ : b / 4 / 2 ≡ b / 8 = omega arith in
    let e₄ : b / 8 / 2 ≡ b / 16 = omega arith in
    let e₅ : b / 16 / 2 ≡ b / 32 = omega arith in
    let e₆ : b / 32 / 2 ≡ b / 64 = omega arith in
    let e₇ : b / 64 / 2 ≡ b / 128 = omega arith in
    simp (v, e₁, e₂, e₃, e₄, e₅, e₆, e₇, plus-zero-r)

pub spread-times : (b w : ℕ) (ms : List ℕ) → b < 256 → w < 256 → ms ≡ doubles_of w → spread_by b ms ≡ times b w
unfolding doubled double modulus plus doubles_of spread_by
spread-times b w ms hb hw e =
    let with : (j : ℕ) → times w (doubled j 1) ≡ doubled j w = λ j. times-doubled j w hw in
    ap (spread_by b) e
    ∙ ap (plus (b % 2 * w)) (ap₂ (λ (m n : ℕ). plus (b / 2 % 2 * m) n) (with 1)
    (ap₂ (λ (m n : ℕ). plus (b / 4 % 2 * m) n) (with 2)
    (ap₂ (λ (m n : ℕ). plus (b / 8 % 2 * m) n) (with 3)
    (ap₂ (λ (m n : ℕ). plus (b / 16 % 2 * m) n) (with 4)
    (ap₂ (λ (m n : ℕ). plus (b / 32 % 2 * m) n) (with 5)
    (ap₂ (λ (m n : ℕ). plus (b / 64 % 2 * m) (b / 128 % 2 * n)) (with 6) (with 7)))))))
    ∙ sym (spread-is b w hb hw)
