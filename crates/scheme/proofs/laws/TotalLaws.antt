-- Laws of totals: what loops hold, and that every total has room in its 8 bytes. Assumes nothing.
--   sum_step, sum-end, sum_more, sum-most, sum_same     a sum: its first term, its end, one term more, what it is at most, equal terms
--   digest-turns-most, digest-hashes-most               what the totals of a digest is at most
--   digests-turns-most, digests-hashes-most             .. over tokens, whatever their draw keys
--   set-up-turns-most, set-up-hashes-most               .. of set-up
--   token-turns-more, token-hashes-more                   the totals of a change on one token, with one block more
--   token-turns-most, token-hashes-most                   what it is at most
--   tokens-turns-most, tokens-hashes-most                 .. over tokens, whatever their draw keys
--   change-turns-most, change-hashes-most               .. of a change
use Prim.Native.Nat.{ℕ, zero, suc, ◌+◌, ◌*◌, ◌-◌, ◌≤◌, ◌<◌}
use native.Mathlib.Omega.{arith}
use native.Mathlib.Nat.{one-mul, mul-one, mul-add, mul-le-mul, mul-le-mul_right, mod-lt, div-le_of_le-mul}
use mathlib.Core.Path.{◌≡◌, refl, ap, ap₂, ◌∙◌}
use mathlib.Core.List.{List, [], ◌∷◌, ◌++◌}
use mathlib.Core.Bool.{Bool, true, false, cond}
use lib.ListN.{length}
use lib.Dec.{leb}
use Rattle.scheme.specs.Primitives.{Primitives}
use Rattle.scheme.specs.Records.{Card}
use Rattle.scheme.specs.Tokens.{BlockChange, replaced, added, row_of, columns_of, draw_key, drawn_row, position_of}
use Rattle.scheme.specs.Totals.{sum_from, hashes_in, digest_turns, digest_hashes, set_up_turns, set_up_hashes, token_turns, token_hashes, change_turns, change_hashes}
use Rattle.scheme.proofs.laws.TableLaws.{one_more}

-- the sum from i up to t: what is left to do
module _ (f : ℕ → ℕ) where
  pub sum_step : (t i : ℕ) → i ≤ t → sum_from (t + 1 - i) i f ≡ f i + sum_from (t + 1 - (i + 1)) (i + 1) f
  unfolding sum_from
  sum_step t i h = let k : t + 1 - i ≡ suc (t + 1 - (i + 1)) = omega arith in rw k

  pub sum-end : (t i : ℕ) → t < i → sum_from (t + 1 - i) i f ≡ 0
  unfolding sum_from
  sum-end t i h = let k : t + 1 - i ≡ 0 = omega arith in rw k

  pub sum_more : (m i : ℕ) → sum_from (m + 1) i f ≡ sum_from m i f + f (i + m)
  unfolding sum_from
  sum_more zero i = let z : i + 0 ≡ i = omega arith in rw z (omega arith)
  sum_more (suc m) i =
      let up : suc m + 1 ≡ suc (m + 1) = omega arith in
      let z : i + 1 + m ≡ i + suc m = omega arith in
      rw up (omega (arith, sum_more m (i + 1), ap f z))

  pub sum-most : (m i b : ℕ) → ((j : ℕ) → i ≤ j → j < i + m → f j ≤ b) → sum_from m i f ≤ m * b
  unfolding sum_from
  sum-most zero i b h = omega arith
  sum-most (suc m) i b h = omega (arith, one_more m b, h i (omega arith) (omega arith), sum-most m (i + 1) b (λ j u v. h j (omega arith) (omega arith)))

  pub sum_same : (g : ℕ → ℕ) (m i : ℕ) → ((j : ℕ) → f j ≡ g j) → sum_from m i f ≡ sum_from m i g
  unfolding sum_from
  sum_same g zero i h = refl
  sum_same g (suc m) i h = ap₂ ◌+◌ (h i) (sum_same g m (i + 1) h)

-- a row has at most so many columns as there are blocks, and one more
columns-most : (d n ρ : ℕ) → 1 ≤ d → columns_of d n ρ ≤ n + 1
unfolding columns_of
columns-most d n ρ h =
    let l : 1 * n ≤ d * n = mul-le-mul_right n h in
    let e : d * (n + 1) ≡ d * n + d = mul-add d n 1 ∙ ap (λ (x : ℕ). d * n + x) (mul-one d) in
    div-le_of_le-mul d (omega (arith, one-mul n))

-- products below a numeral
below : (a b x y : ℕ) → a ≤ x → b ≤ y → a * b ≤ x * y
below a b x y h l = mul-le-mul h l

module _ (P : Primitives) where
  module _ (k : List ℕ) (d r : ℕ) (pos : 1 ≤ d) (most : d ≤ 1048576) (fits : r ≤ d) where
    pub digest-turns-most : digest_turns P k d r ≤ r * 1048576
    unfolding digest_turns
    digest-turns-most = sum-most (λ j. P.perm_turns k d (j - 1)) r 1 1048576 (λ j u v. P.perm_most k d (j - 1) most (omega arith))

    pub digest-hashes-most : (n : ℕ) → n ≤ 16777216 → digest_hashes P k d r n ≤ r * 16777217
    unfolding digest_hashes
    digest-hashes-most n h =
        sum-most (λ j. columns_of d n (drawn_row P k d j)) r 1 16777217 (λ j u v. omega (arith, columns-most d n (drawn_row P k d j) pos))

  -- t tokens, from token i on, each under its draw key
  module _ (key : ℕ → List ℕ) (d r t i : ℕ) (pos : 1 ≤ d) (most : d ≤ 1048576) (fits : r ≤ d) (few : r ≤ 512) (some : t ≤ 65536) where
    pub digests-turns-most : sum_from t i (λ j. digest_turns P (key j) d r) < 18446744073709551616
    digests-turns-most =
        let s = sum-most (λ j. digest_turns P (key j) d r) t i 536870912 (λ j u v. omega (arith, digest-turns-most (key j) d r pos most fits)) in
        omega (arith, below t 536870912 65536 536870912 some (omega arith))

    pub digests-hashes-most : (n : ℕ) → n ≤ 16777216 → sum_from t i (λ j. digest_hashes P (key j) d r n) < 18446744073709551616
    digests-hashes-most n h =
        let s = sum-most (λ j. digest_hashes P (key j) d r n) t i 8589935104 (λ j u v. omega (arith, digest-hashes-most (key j) d r pos most fits n h)) in
        omega (arith, below t 8589935104 65536 8589935104 some (omega arith))

  module _ (master id : List ℕ) (d r t : ℕ) (pos : 1 ≤ d) (most : d ≤ 1048576) (fits : r ≤ d) (few : r ≤ 512) (some : t ≤ 65536) where
    pub set-up-turns-most : set_up_turns P master id d r t < 18446744073709551616
    unfolding set_up_turns
    set-up-turns-most = digests-turns-most (draw_key P master id) d r t 1 pos most fits few some

    pub set-up-hashes-most : (n : ℕ) → n ≤ 16777216 → set_up_hashes P master id d r t n < 18446744073709551616
    unfolding set_up_hashes
    set-up-hashes-most n h = digests-hashes-most (draw_key P master id) d r t 1 pos most fits few some n h

  -- a change on one token
  module _ (k : List ℕ) (d : ℕ) where
    pub token-turns-more : (changes : List (ℕ × BlockChange)) (w : ℕ × BlockChange)
        → token_turns P k d (changes ++ (w ∷ [])) ≡ token_turns P k d changes + P.unperm_turns k d (row_of d w.0 - 1)
    unfolding token_turns
    token-turns-more [] w = omega arith
    token-turns-more (v ∷ changes) w = omega (arith, token-turns-more changes w)

    pub token-hashes-more : (r : ℕ) (changes : List (ℕ × BlockChange)) (w : ℕ × BlockChange)
        → token_hashes P k d r (changes ++ (w ∷ [])) ≡ token_hashes P k d r changes + cond (leb (position_of P k d (row_of d w.0)) r) (hashes_in w.1) 0
    unfolding token_hashes
    token-hashes-more r [] w = omega arith
    token-hashes-more r (v ∷ changes) w = omega (arith, token-hashes-more r changes w)

  row_below : (d m : ℕ) → 1 ≤ d → row_of d m - 1 < d
  unfolding row_of
  row_below d m h = omega (arith, mod-lt (m - 1) h)

  hashes-two : (ch : BlockChange) (b : Bool) → cond b (hashes_in ch) 0 ≤ 2
  hashes-two (replaced old new) true = omega arith
  hashes-two (replaced old new) false = omega arith
  hashes-two (added new) true = omega arith
  hashes-two (added new) false = omega arith

  module _ (k : List ℕ) (d : ℕ) (pos : 1 ≤ d) (most : d ≤ 1048576) where
    pub token-turns-most : (changes : List (ℕ × BlockChange)) → token_turns P k d changes ≤ length changes * 1048576
    unfolding token_turns
    token-turns-most [] = omega arith
    token-turns-most (w ∷ changes) =
        omega (arith, one_more (length changes) 1048576, P.unperm_most k d (row_of d w.0 - 1) most (row_below d w.0 pos), token-turns-most changes)

    pub token-hashes-most : (r : ℕ) (changes : List (ℕ × BlockChange)) → token_hashes P k d r changes ≤ length changes * 2
    unfolding token_hashes
    token-hashes-most r [] = omega arith
    token-hashes-most r (w ∷ changes) =
        omega (arith, one_more (length changes) 2, hashes-two w.1 (leb (position_of P k d (row_of d w.0)) r), token-hashes-most r changes)

  -- t tokens, from token i on, each under its draw key
  module _ (key : ℕ → List ℕ) (d t i : ℕ) (changes : List (ℕ × BlockChange)) (pos : 1 ≤ d) (most : d ≤ 1048576) (some : t ≤ 65536) (many : length changes ≤ 16777216) where
    pub tokens-turns-most : sum_from t i (λ j. token_turns P (key j) d changes) < 18446744073709551616
    tokens-turns-most =
        let each : length changes * 1048576 ≤ 16777216 * 1048576 = below (length changes) 1048576 16777216 1048576 many (omega arith) in
        let s = sum-most (λ j. token_turns P (key j) d changes) t i 17592186044416 (λ j u v. omega (arith, token-turns-most (key j) d pos most changes)) in
        omega (arith, below t 17592186044416 65536 17592186044416 some (omega arith))

    pub tokens-hashes-most : (r : ℕ) → sum_from t i (λ j. token_hashes P (key j) d r changes) < 18446744073709551616
    tokens-hashes-most r =
        let s = sum-most (λ j. token_hashes P (key j) d r changes) t i 33554432 (λ j u v. omega (arith, token-hashes-most (key j) d pos most r changes)) in
        omega (arith, below t 33554432 65536 33554432 some (omega arith))

  module _ (master : List ℕ) (c : Card) (changes : List (ℕ × BlockChange)) (pos : 1 ≤ c.d) (most : c.d ≤ 1048576) (some : c.t + 1 - c.next ≤ 65536)
      (many : length changes ≤ 16777216) where
    pub change-turns-most : change_turns P master c changes < 18446744073709551616
    unfolding change_turns
    change-turns-most = tokens-turns-most (draw_key P master c.id) c.d (c.t + 1 - c.next) c.next changes pos most some many

    pub change-hashes-most : change_hashes P master c changes < 18446744073709551616
    unfolding change_hashes
    change-hashes-most = tokens-hashes-most (draw_key P master c.id) c.d (c.t + 1 - c.next) c.next changes pos most some many c.r
