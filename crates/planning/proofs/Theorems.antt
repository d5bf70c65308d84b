-- What the numbers of a sheet say of a file. Assumes nothing.
--   ceiling-holds                      the turns of one token, under any key, are at most the ceiling: #109's token-turns
--   rows-between                       the hashes for a proof of any r different rows are at least the least and at most the most
--   most-attained, least-attained      the first rows have the most, the last rows the least
--   drawn-between                      the rows that a token draws are r different rows, so that its hashes are between the two
--   chance-holds, chance-none          the chance is never under the exact value and less than r units above it; it is 0 when r exceeds d - m
--   sheet-quotes                       all this of the numbers in the buffer of a sheet that is not refused
use Prim.Native.Nat.{ℕ, suc, ◌+◌, ◌*◌, ◌-◌, ◌/◌, ◌%◌, ◌^◌, ◌≤◌, ◌<◌, min}
use native.Mathlib.Omega.{arith}
use native.Mathlib.Nat.{mod-lt}
use mathlib.Core.Path.{◌≡◌, refl, sym, ap, subst, ◌∙◌}
use mathlib.Core.List.{List, map}
use lib.ListN.{length-map}
use Rattle.octets.specs.Octets.{le, be}
use Rattle.octets.proofs.NumberLaws.{be-back}
use Rattle.permutation.specs.Rounds.{half}
use Rattle.permutation.specs.Distinct.{total, up_from}
use Rattle.permutation.proofs.UpFrom.{length-up_from, distinct-up_from, between-up_from}
use Rattle.permutation.proofs.WidthLaws.{half_le, whole_le}
use Rattle.scheme.specs.Primitives.{Primitives}
use Rattle.scheme.specs.Tokens.{columns_of, drawn_row}
use Rattle.scheme.specs.Totals.{digest_turns, digest_hashes}
use Rattle.scheme.proofs.laws.CheckLaws.{answer-written}
use Rattle.standard.specs.Standard.{standard}
use Rattle.standard.proofs.TotalsTheorem.{sum_over, token-turns}
use Rattle.planning.specs.Sheet.{table_bytes, ceiling, least, most, escape, sheet_code, sheet_bytes, sheet_out}
use Rattle.planning.specs.Exact.{Rows, hashes, falling, Quotes, number_at}
use Rattle.planning.proofs.RowLaws.{extra, extra-most, extra-least, total-columns, extra-up_from, total-map, distinct-map, between-map}
use Rattle.planning.proofs.ChanceLaws.{figure-most, escape-is, escape-none, escape-above, escape-below, falling-none}
use Rattle.planning.proofs.CallLaws.{sheet-held, whole-most}

-- "(walks from different positions never cross outside the rows)"
pub ceiling-holds : (k : List ℕ) (d r : ℕ) → r ≤ d → digest_turns standard k d r ≤ ceiling d r
unfolding ceiling
ceiling-holds k d r h = token-turns k d r h

module _ (d r n : ℕ) (d1 : 1 ≤ d) where
  -- q blocks in each row, and one more in those among the first s
  summed : (rows : List ℕ) → Rows d r rows → hashes d n rows ≡ r * (n / d) + total (extra (n % d)) rows
  unfolding hashes
  summed rows h = total-columns d n rows h.1 ∙ ap (λ (k : ℕ). k * (n / d) + total (extra (n % d)) rows) h.0

  long-rows : n % d ≤ d
  long-rows = omega (arith, mod-lt n {m = d} d1)

  -- "the least and most hashes for a proof of any r different rows"
  pub rows-between : (rows : List ℕ) → Rows d r rows → (least d r n ≤ hashes d n rows) × (hashes d n rows ≤ most d r n)
  unfolding least most
  rows-between rows h = (
    omega (arith, summed rows h, h.0, extra-least d (n % d) long-rows rows h.2 h.1),
    omega (arith, summed rows h, h.0, extra-most d (n % d) long-rows rows h.2 h.1),
  )

  module _ (rd : r ≤ d) where
    from : (a : ℕ) → 1 ≤ a → a + r ≤ suc d → Rows d r (up_from a r)
    from a h g = (length-up_from a r, between-up_from 1 (suc d) a r h g, distinct-up_from a r)

    pub most-attained : (rows : List ℕ) × Rows d r rows × (hashes d n rows ≡ most d r n)
    unfolding most
    most-attained =
        let h = from 1 (omega arith) (omega arith) in
        (up_from 1 r, h, omega (arith, summed (up_from 1 r) h, extra-up_from (n % d) 1 r))

    pub least-attained : (rows : List ℕ) × Rows d r rows × (hashes d n rows ≡ least d r n)
    unfolding least
    least-attained =
        let h = from (suc (d - r)) (omega arith) (omega arith) in
        (up_from (suc (d - r)) r, h, omega (arith, summed (up_from (suc (d - r)) r) h, extra-up_from (n % d) (suc (d - r)) r, long-rows))

-- "Position j in 1..r draws row P(j-1) + 1": by the laws of P, different positions draw different rows of 1..d
module _ (P : Primitives) (k : List ℕ) (d : ℕ) (most-d : d ≤ 1048576) where
  apart : (x y : ℕ) → 1 ≤ x → x < suc d → 1 ≤ y → y < suc d → drawn_row P k d x ≡ drawn_row P k d y → x ≡ y
  unfolding drawn_row
  apart x y x1 xd y1 yd e =
      let s : P.perm k d (x - 1) ≡ P.perm k d (y - 1) = omega arith in
      let z : x - 1 ≡ y - 1 =
      sym (P.unperm_perm k d (x - 1) most-d (omega arith)) ∙ ap (P.unperm k d) s ∙ P.unperm_perm k d (y - 1) most-d (omega arith) in
      omega arith

  drawn-within : (x : ℕ) → 1 ≤ x → x < suc d → (1 ≤ drawn_row P k d x) × (drawn_row P k d x < suc d)
  unfolding drawn_row
  drawn-within x x1 xd = (omega arith, omega (arith, P.perm_below k d (x - 1) most-d (omega arith)))

  drawn-rows : (r : ℕ) → r ≤ d → Rows d r (map (drawn_row P k d) (up_from 1 r))
  drawn-rows r h =
      let b = between-up_from 1 (suc d) 1 r (omega arith) (omega arith) in (
        length-map (up_from 1 r) (drawn_row P k d) ∙ length-up_from 1 r,
        between-map (drawn_row P k d) 1 (suc d) 1 (suc d) drawn-within (up_from 1 r) b,
        distinct-map (drawn_row P k d) 1 (suc d) apart (up_from 1 r) b (distinct-up_from 1 r),
      )

  pub drawn-between : (r n : ℕ) → 1 ≤ d → r ≤ d → (least d r n ≤ digest_hashes P k d r n) × (digest_hashes P k d r n ≤ most d r n)
  unfolding digest_hashes hashes
  drawn-between r n d1 h =
      let each : digest_hashes P k d r n ≡ hashes d n (map (drawn_row P k d) (up_from 1 r)) =
      sum_over (λ j. columns_of d n (drawn_row P k d j)) r 1 ∙ sym (total-map (columns_of d n) (drawn_row P k d) (up_from 1 r)) in
      let w = rows-between d r n d1 (map (drawn_row P k d) (up_from 1 r)) (drawn-rows r h) in
      (omega (arith, each, w.0), omega (arith, each, w.1))

-- "the figure is never under the exact value and less than r units above it"
pub chance-holds : (d r m : ℕ) → 1 ≤ r → r ≤ d
    → (falling (d - m) r * 2 ^ 32 ≤ escape d r m * falling d r) × (escape d r m * falling d r < falling (d - m) r * 2 ^ 32 + r * falling d r)
chance-holds d r m h g = (escape-above d r m g, escape-below d r m h g)

-- "or 0 when r exceeds d-m"
pub chance-none : (d r m : ℕ) → d - m < r → (falling (d - m) r ≡ 0) × (escape d r m ≡ 0)
chance-none d r m h = (falling-none (d - m) r h, sym (escape-none d r m h))

-- of a sheet that is not refused
module _ (B d r t n m : ℕ) (out : List ℕ) (code : sheet_code B d r t n m out ≡ 0) where
  -- each number is below 2^64, so that the buffer holds it whole
  five : (number_at 0 (sheet_bytes d r t n m) ≡ table_bytes t) × (number_at 1 (sheet_bytes d r t n m) ≡ ceiling d r)
      × (number_at 2 (sheet_bytes d r t n m) ≡ least d r n) × (number_at 3 (sheet_bytes d r t n m) ≡ most d r n)
      × (number_at 4 (sheet_bytes d r t n m) ≡ escape d r m)
  unfolding sheet_bytes table_bytes ceiling least most be le
  five =
      let held = sheet-held B d r t n m out code in
      let whole = whole-most d r n held.shape.rmost held.n-most in
      let square = whole_le (half d) (half_le d held.shape.dmost) in
      let rmost = held.shape.rmost in (
        be-back 8 (t * 63) (omega (arith, held.t-most)),
        be-back 8 (r + 4 ^ half d - d) (omega arith),
        be-back 8 (r * (n / d) + (r - (d - n % d))) (omega arith),
        be-back 8 (r * (n / d) + min r (n % d)) (omega arith),
        be-back 8 (escape d r m) (omega (arith, figure-most d m r held.shape.rd, escape-is d r m held.shape.rd)),
      )

  quotes : {a b c e f : ℕ} → a ≡ table_bytes t → b ≡ ceiling d r → c ≡ least d r n → e ≡ most d r n → f ≡ escape d r m → Quotes d r t n m a b c e f
  unfolding table_bytes
  quotes p₁ p₂ p₃ p₄ p₅ =
      let shape = (sheet-held B d r t n m out code).shape in
      let chance = chance-holds d r m shape.r1 shape.rd in
      let low = least-attained d r n shape.d1 shape.rd in
      let high = most-attained d r n shape.d1 shape.rd in
      record {
        room = p₁;
        walks = λ k. omega (arith, p₂, ceiling-holds k d r shape.rd);
        reads = λ k. let w = drawn-between standard k d shape.dmost r n shape.d1 shape.rd in (omega (arith, p₃, w.0), omega (arith, p₄, w.1));
        between = λ rows h. let w = rows-between d r n shape.d1 rows h in (omega (arith, p₃, w.0), omega (arith, p₄, w.1));
        lowest = (low.0, low.1, low.2 ∙ sym p₃);
        highest = (high.0, high.1, high.2 ∙ sym p₄);
        never_under = rw p₅ chance.0;
        less_than_r_above = rw p₅ chance.1;
        none = λ h. let z = chance-none d r m h in (z.0, p₅ ∙ z.1);
      }

  pub sheet-quotes : (let x : ℕ → ℕ = λ i. number_at i (sheet_out B d r t n m out) in Quotes d r t n m (x 0) (x 1) (x 2) (x 3) (x 4))
  unfolding sheet_out
  sheet-quotes =
      let written : sheet_bytes d r t n m ≡ sheet_out B d r t n m out = answer-written (sheet_code B d r t n m out) (sheet_bytes d r t n m) out 0 (sym code) refl in
      subst (λ (s : List ℕ). Quotes d r t n m (number_at 0 s) (number_at 1 s) (number_at 2 s) (number_at 3 s) (number_at 4 s)) written
      (quotes five.0 five.1 five.2 five.3 five.4)
