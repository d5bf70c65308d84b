-- The call: its code and its numbers as the code has them, and the bytes it leaves. Assumes nothing.
--   sheet-code-is                the code from its three tests
--   Held, sheet-held             what holds of the numbers where the code is 0
--   width-most, side-is, side-most, ceiling-is    the machine's 1, shifted by h and squared, and the ceiling by it
--   fields-more, stored, all-stored   one number more, one more that is stored, and all five
--   sheet-kept, sheet-done       what a refusal leaves, and what an answer writes
--   whole-most                   r × q fits a machine's number
use Prim.Native.Nat.{ℕ, ◌+◌, ◌*◌, ◌-◌, ◌/◌, ◌%◌, ◌^◌, ◌≤◌, ◌<◌}
use native.Mathlib.Omega.{arith}
use native.Mathlib.Nat.{mul-le-mul, div-le_self, le_trans}
use mathlib.Core.Path.{◌≡◌, sym, ap, ap₂, ◌∙◌}
use mathlib.Core.List.{List, [], ◌∷◌, ◌++◌, append_assoc, append-nil}
use mathlib.Core.Bool.{Bool, cond, ◌&&◌}
use borrow.Author.Tests.{eqb-true, leb-true, le-leb}
use lib.Dec.{eqb, leb}
use lib.ListN.{length, get_or, take}
use Rattle.std.proofs.lemmas.List.{take_more, take_all}
use Rattle.octets.specs.Octets.{be, put}
use Rattle.permutation.specs.Rounds.{half}
use Rattle.permutation.proofs.RoundLaws.{square}
use Rattle.permutation.proofs.WidthLaws.{half_le, half-wide, whole_le}
use Rattle.permutation.proofs.MachineLaws.{one_shl}
use Rattle.scheme.specs.Checks.{first}
use Rattle.scheme.specs.Records.{shape_fits, token_fits, blocks_fit}
use Rattle.scheme.proofs.laws.CheckLaws.{first-passed, both, within-true, refusal-kept, answer-written}
use Rattle.scheme.proofs.laws.LimitLaws.{Shape, shape-limits}
use Rattle.records.proofs.FieldLaws.{Front, number, filled}
use Rattle.planning.specs.Sheet.{table_bytes, ceiling, least, most, escape, sheet_fits, sheet_code, sheet_bytes, sheet_out, fields}

pub fields-more : (xs : List ℕ) (x : ℕ) → fields (xs ++ (x ∷ [])) ≡ fields xs ++ be 8 x
fields-more [] x = append-nil (be 8 x)
fields-more (y ∷ ys) x = ap (λ (zs : List ℕ). be 8 y ++ zs) (fields-more ys x) ∙ sym (append_assoc (be 8 y) (fields ys) (be 8 x))

-- the first k numbers stand over the first 8 k of 40 bytes
pub stored : (xs : List ℕ) (k : ℕ) {ys s t : List ℕ} → k < 5 → k < length xs → Front 40 (8 * k) (fields (take k xs)) ys s
    → t ≡ put (8 * k) (be 8 (get_or xs k 0)) s → Front 40 (8 * (k + 1)) (fields (take (k + 1) xs)) ys t
stored xs k {ys} {s} {t} h l f e =
    let m : fields (take (k + 1) xs) ≡ fields (take k xs) ++ be 8 (get_or xs k 0) =
    ap fields (take_more xs k 0 l) ∙ fields-more (take k xs) (get_or xs k 0) in
    let n : 8 * k + 8 ≡ 8 * (k + 1) = omega arith in
    let g : Front 40 (8 * k + 8) (fields (take k xs) ++ be 8 (get_or xs k 0)) ys t = number 8 (get_or xs k 0) f (le-leb (8 * k + 8) 40 (omega arith)) e in
    rw (m, ← n) g

pub all-stored : (xs : List ℕ) (k : ℕ) {ys s : List ℕ} → k ≡ 5 → length xs ≡ 5 → Front 40 (8 * k) (fields (take k xs)) ys s → s ≡ fields xs
all-stored xs k {ys} {s} e l f =
    let g : Front 40 40 (fields (take 5 xs)) ys s = rw e at f in
    filled g ∙ ap fields (take_all 5 xs (omega arith))

fields-five : (a b c d e : ℕ) → fields (a ∷ b ∷ c ∷ d ∷ e ∷ []) ≡ be 8 a ++ be 8 b ++ be 8 c ++ be 8 d ++ be 8 e
fields-five a b c d e = simp (append_assoc, append-nil)

module _ (B d r t n m : ℕ) (out : List ℕ) where
  pub sheet-code-is : {b₁ b₂ b₃ : Bool} → eqb (length out) 40 ≡ b₁ → sheet_fits B d r t n ≡ b₂ → leb m d ≡ b₃
      → cond b₁ (cond b₂ (cond b₃ 0 21) 3) 1 ≡ sheet_code B d r t n m out
  unfolding sheet_code first
  sheet-code-is p q s = rw (p, q, s)

  pub record Held : Type 0 where
    pub long : length out ≡ 40
    pub shape : Shape B d r
    pub t-most : t ≤ 65536
    pub n-most : n ≤ 16777216
    pub m_most : m ≤ d

  pub sheet-held : sheet_code B d r t n m out ≡ 0 → Held
  unfolding sheet_code sheet_fits token_fits blocks_fit
  sheet-held h =
      let p = first-passed (eqb (length out) 40, 1) _ (omega arith) h in
      let q = first-passed (sheet_fits B d r t n, 3) _ (omega arith) p.1 in
      let s = first-passed (leb m d, 21) _ (omega arith) q.1 in
      let u = both (shape_fits B d r && token_fits t) (blocks_fit n) q.0 in
      let v = both (shape_fits B d r) (token_fits t) u.0 in
      record {
        long = eqb-true (length out) 40 p.0;
        shape = shape-limits B d r v.0;
        t-most = (within-true 1 65536 t v.1).1;
        n-most = (within-true 1 16777216 n u.1).1;
        m_most = leb-true m d s.0;
      }

  pub sheet-kept : (k : ℕ) → k ≡ sheet_code B d r t n m out → (k ≡ 0 → ⊥) → out ≡ sheet_out B d r t n m out
  unfolding sheet_out
  sheet-kept k e h = refusal-kept (sheet_code B d r t n m out) (sheet_bytes d r t n m) out k e h

  pub sheet-done : (k : ℕ) → k ≡ sheet_code B d r t n m out → k ≡ 0 → {a b c e : ℕ} → a ≡ ceiling d r → b ≡ least d r n → c ≡ most d r n → e ≡ escape d r m
      → fields (t * 63 ∷ a ∷ b ∷ c ∷ e ∷ []) ≡ sheet_out B d r t n m out
  unfolding sheet_out sheet_bytes table_bytes
  sheet-done k g h p q s u =
      rw (p, q, s, u) (fields-five (t * 63) (ceiling d r) (least d r n) (most d r n) (escape d r m) ∙ answer-written (sheet_code B d r t n m out) (sheet_bytes d r t n m) out k g h)

module _ (d h : ℕ) (l : d ≤ 1048576) (e : h ≡ half d) where
  pub width-most : h ≤ 10
  width-most = omega (arith, half_le d l)

  pub side-is : (1 * 2 ^ h) % 2 ^ 64 * ((1 * 2 ^ h) % 2 ^ 64) ≡ 4 ^ half d
  side-is =
      let s : (1 * 2 ^ h) % 2 ^ 64 ≡ 2 ^ h = one_shl h (omega (arith, width-most)) in
      ap₂ (λ (x y : ℕ). x * y) s s ∙ sym (square h) ∙ ap (λ (x : ℕ). 4 ^ x) e

  pub side-most : (d ≤ (1 * 2 ^ h) % 2 ^ 64 * ((1 * 2 ^ h) % 2 ^ 64)) × ((1 * 2 ^ h) % 2 ^ 64 * ((1 * 2 ^ h) % 2 ^ 64) ≤ 1048576)
  side-most = (omega (arith, side-is, half-wide d), omega (arith, side-is, whole_le (half d) (half_le d l)))

  pub ceiling-is : (r : ℕ) → r + (1 * 2 ^ h) % 2 ^ 64 * ((1 * 2 ^ h) % 2 ^ 64) - d ≡ ceiling d r
  unfolding ceiling
  ceiling-is r = rw side-is

pub whole-most : (d r n : ℕ) → r ≤ 512 → n ≤ 16777216 → r * (n / d) ≤ 8589934592
whole-most d r n h g = mul-le-mul {n₂ = 512} {m₂ = 16777216} h (le_trans (div-le_self n d) g)
