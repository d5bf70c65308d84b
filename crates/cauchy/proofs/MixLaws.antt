-- Weighed sums: one unknown as a weighed sum of what it is solved from, and a parity byte as one of the data. Assumes nothing.
--   unit_at m i         the m weights that pick the element at i
--   rows-map           rows, one for each parity
--   swap               a weighed sum of rows is a weighed sum of the data, by rows the other way round
--   transposed         the weights of one unknown: what is solved for the unit, with the parts of us and vs exchanged
--   plus-dot           a weighed sum of sums
--   parity-byte        a parity byte as a weighed sum of the data
use mathlib.Core.Path.{◌≡◌, refl, sym, ap, ap₂, ◌∙◌}
use mathlib.Core.List.{List, [], ◌∷◌, map}
use Prim.Native.Nat.{ℕ, zero, suc, ◌%◌, ◌<◌}
use native.Mathlib.Omega.{arith}
use lib.ListN.{length, get_or, set, replicate, length-set, length-replicate}
use Rattle.gf256.specs.Field.{plus, times, inverse}
use Rattle.cauchy.specs.Solve.{weight, row, solve}
use Rattle.cauchy.specs.System.{dot, Off, Each, Apart, Distinct, Cross}
use Rattle.gf256.proofs.SumLaws.{plus_comm, plus-zero-l, plus-zero-r, plus-self}
use Rattle.gf256.proofs.FieldLaws.{times-comm, times-left-comm, times-plus, times-one, times_zero, zero-times}
use Rattle.cauchy.proofs.SolveLaws.{Bytes, rows, across, solves, solve-bytes, solve-length, row_lt}

weight-comm : (u q : ℕ) → weight u q ≡ weight q u
unfolding weight
weight-comm u q = ap inverse (plus_comm u q)

dot-none : (ds qs : List ℕ) → dot ds (map (λ (q : ℕ). 0) qs) ≡ 0
unfolding dot
dot-none [] qs = refl
dot-none (d ∷ ds) [] = refl
dot-none (d ∷ ds) (q ∷ qs) = ap₂ plus (times_zero d) (dot-none ds qs) ∙ plus-self 0

dot-plus : (f g : ℕ → ℕ) (ds qs : List ℕ) → dot ds (map (λ (q : ℕ). plus (f q) (g q)) qs) ≡ plus (dot ds (map f qs)) (dot ds (map g qs))
unfolding dot
dot-plus f g [] qs = sym (plus-self 0)
dot-plus f g (d ∷ ds) [] = sym (plus-self 0)
dot-plus f g (d ∷ ds) (q ∷ qs) =
    ap₂ plus (times-plus d (f q) (g q)) (dot-plus f g ds qs) ∙ across (times d (f q)) (times d (g q)) (dot ds (map f qs)) (dot ds (map g qs))

pub plus-dot : (f g : ℕ → ℕ) (us cs : List ℕ) → dot (map (λ (u : ℕ). plus (f u) (g u)) us) cs ≡ plus (dot (map f us) cs) (dot (map g us) cs)
unfolding dot
plus-dot f g [] cs = sym (plus-self 0)
plus-dot f g (u ∷ us) [] = sym (plus-self 0)
plus-dot f g (u ∷ us) (c ∷ cs) =
    ap₂ plus (times-comm (plus (f u) (g u)) c ∙ times-plus c (f u) (g u) ∙ ap₂ plus (times-comm c (f u)) (times-comm c (g u))) (plus-dot f g us cs)
    ∙ across (times (f u) c) (times (g u) c) (dot (map f us) cs) (dot (map g us) cs)

one-row : (u c : ℕ) (qs ds : List ℕ) → dot ds (map (λ (q : ℕ). times c (weight q u)) qs) ≡ times (row u qs ds) c
unfolding dot row
one-row u c [] [] = sym (zero-times c)
one-row u c [] (d ∷ ds) = sym (zero-times c)
one-row u c (q ∷ qs) [] = sym (zero-times c)
one-row u c (q ∷ qs) (d ∷ ds) =
    ap₂ plus (times-left-comm d c (weight q u) ∙ ap (λ (w : ℕ). times c (times d w)) (weight-comm q u)) (one-row u c qs ds ∙ times-comm (row u qs ds) c)
    ∙ sym (times-plus c (times d (weight u q)) (row u qs ds)) ∙ times-comm c (plus (times d (weight u q)) (row u qs ds))

pub swap : (us cs qs ds : List ℕ) → dot (map (λ (u : ℕ). row u qs ds) us) cs ≡ dot ds (map (λ (q : ℕ). row q us cs) qs)
unfolding dot row
swap [] cs qs ds = sym (dot-none ds qs)
swap (u ∷ us) [] qs ds = sym (dot-none ds qs)
swap (u ∷ us) (c ∷ cs) qs ds =
    ap₂ plus (sym (one-row u c qs ds)) (swap us cs qs ds)
    ∙ sym (dot-plus (λ (q : ℕ). times c (weight q u)) (λ (q : ℕ). row q us cs) ds qs)

pub parity-byte : (u : ℕ) (qs ds : List ℕ) → dot ds (map (λ (q : ℕ). row q (u ∷ []) (1 ∷ [])) qs) ≡ row u qs ds
unfolding dot
parity-byte u qs ds =
    sym (swap (u ∷ []) (1 ∷ []) qs ds)
    ∙ plus-zero-r (times (row u qs ds) 1) ∙ times-comm (row u qs ds) 1 ∙ times-one (row u qs ds) (row_lt u qs ds)

-- the unit
abbrev pub unit_at : ℕ → ℕ → List ℕ
unit_at m i = set (replicate m 0) i 1

dot-zeros : (ds : List ℕ) (m : ℕ) → dot ds (replicate m 0) ≡ 0
unfolding dot
dot-zeros [] m = refl
dot-zeros (d ∷ ds) zero = refl
dot-zeros (d ∷ ds) (suc m) = ap₂ plus (times_zero d) (dot-zeros ds m) ∙ plus-self 0

dot-unit : (ds : List ℕ) (m i : ℕ) → i < m → length ds ≡ m → Bytes ds → dot ds (unit_at m i) ≡ get_or ds i 0
unfolding dot
dot-unit [] m i h l b = absurd (omega arith)
dot-unit (d ∷ ds) zero i h l b = absurd (omega arith)
dot-unit (d ∷ ds) (suc m) zero h l b =
    ap₂ plus (times-comm d 1 ∙ times-one d b.0) (dot-zeros ds m) ∙ plus-zero-r d
dot-unit (d ∷ ds) (suc m) (suc i) h l b =
    ap₂ plus (times_zero d) (dot-unit ds m i (omega arith) (omega arith) b.1) ∙ plus-zero-l (get_or ds i 0)

zeros-bytes : (m : ℕ) → Bytes (replicate m 0)
zeros-bytes zero = tt
zeros-bytes (suc m) = (omega arith, zeros-bytes m)

unit-bytes : (m i : ℕ) → Bytes (unit_at m i)
unit-bytes zero i = tt
unit-bytes (suc m) zero = (omega arith, zeros-bytes m)
unit-bytes (suc m) (suc i) = (omega arith, unit-bytes m i)

pub rows-map : (us vs ds : List ℕ) → rows us vs ds ≡ map (λ (u : ℕ). row u vs ds) us
unfolding rows
rows-map [] vs ds = refl
rows-map (u ∷ us) vs ds = ap (λ (l : List ℕ). row u vs ds ∷ l) (rows-map us vs ds)

turned : (u : ℕ) (vs : List ℕ) → Apart u vs → Each (λ v. Off (plus v u)) vs
turned u [] h = tt
turned u (v ∷ vs) h = ((λ e. h.0 (ap (λ (n : ℕ). n % 256) (plus_comm u v) ∙ e)), turned u vs h.1)

cross-add : (u : ℕ) (us vs : List ℕ) → Each (λ v. Off (plus v u)) vs → Cross vs us → Cross vs (u ∷ us)
cross-add u us [] a c = tt
cross-add u us (v ∷ vs) a c = ((a.0, c.0), cross-add u us vs a.1 c.1)

cross-none : (vs : List ℕ) → Cross vs []
cross-none [] = tt
cross-none (v ∷ vs) = (tt, cross-none vs)

cross-turned : (us vs : List ℕ) → Cross us vs → Cross vs us
cross-turned [] vs c = cross-none vs
cross-turned (u ∷ us) vs c = cross-add u us vs (turned u vs c.0) (cross-turned us vs c.1)

-- us are the sources and vs the unknowns
module _ (us vs : List ℕ) (same : length us ≡ length vs) (cross : Cross us vs) (apart : Distinct us) (apart₂ : Distinct vs) where
  unit-length : (i : ℕ) → length (unit_at (length us) i) ≡ length us
  unit-length i = length-set (replicate (length us) 0) i 1 ∙ length-replicate (length us) 0

  pub transposed : (i : ℕ) (ss : List ℕ) → i < length us → length ss ≡ length vs → Bytes ss → dot ss (solve vs us (unit_at (length us) i)) ≡ get_or (solve us vs ss) i 0
  transposed i ss h l b =
      let c = solve vs us (unit_at (length us) i) in
      let ds = solve us vs ss in
      let unit : rows vs us c ≡ unit_at (length us) i =
      solves vs us (unit_at (length us) i) (sym same) (unit-length i) (unit-bytes (length us) i) (cross-turned us vs cross) apart₂ apart in
      ap (λ (xs : List ℕ). dot xs c) (sym (solves us vs ss same l b cross apart apart₂) ∙ rows-map us vs ds)
      ∙ swap us c vs ds
      ∙ ap (dot ds) (sym (rows-map vs us c) ∙ unit)
      ∙ dot-unit ds (length us) i h (solve-length us vs ss same l ∙ sym same) (solve-bytes us vs ss)
