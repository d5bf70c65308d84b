-- Blocks: one more weighed block is added, at every place; a block that is cleared first; a block's place in the whole. Assumes nothing.
--   Going, going_start, going_more, going_done    the sum that is there and the sum that is left
--   block_length, block_at                        a block of the blocks
--   combined                                      cleared, then mixed
--   block-fits, room_for, whole-at, next-at, placed, room-some, next-some   where block x lies, and blocks behind it
--   count-length, within_count, encoded-sum       a parity block, from the numbers of all data blocks
use native.Mathlib.Nat.{suc-mul, add-mul, mul-le-mul_right, add-zero, zero-add, add-suc, suc-add}
use mathlib.Core.Path.{◌≡◌, refl, sym, ap, ap₂, ◌∙◌, subst}
use mathlib.Core.List.{List, [], ◌∷◌, map}
use Prim.Native.Nat.{ℕ, zero, suc, ◌+◌, ◌-◌, ◌*◌, ◌/◌, ◌%◌, ◌<◌, ◌≤◌}
use native.Mathlib.Numerals.{add-one}
use native.Mathlib.Omega.{arith}
use lib.ListN.{length, get_or, take, drop, replicate, length-take, length-drop, drop_of_length-le, get_or-replicate}
use lib.Seq.{drop-cons, get_or-take, get_or-drop}
use Rattle.gf256.specs.Field.{plus, times}
use Rattle.cauchy.specs.Solve.{row}
use Rattle.gf256.specs.Mixing.{zipped, mixed_one}
use Rattle.erasure.specs.Group.{count, byte_at, parity_byte}
use Rattle.cauchy.specs.System.{dot}
use Rattle.erasure.specs.Blocks.{Within, Mixed, Combined, Encoded}
use Rattle.gf256.proofs.SumLaws.{plus_assoc, plus-zero-l, plus-zero-r}
use Rattle.cauchy.proofs.MixLaws.{parity-byte}
use lib.Arith.{digits_div, digits_mod}

get_or-zipped : (f : ℕ → ℕ → ℕ) (t : ℕ) (xs ys : List ℕ) → t < length xs → length ys ≡ length xs → get_or (zipped f xs ys) t 0 ≡ f (get_or xs t 0) (get_or ys t 0)
unfolding zipped
get_or-zipped f t [] ys h l = absurd (omega arith)
get_or-zipped f t (x ∷ xs) [] h l = absurd (omega arith)
get_or-zipped f zero (x ∷ xs) (y ∷ ys) h l = refl
get_or-zipped f (suc t) (x ∷ xs) (y ∷ ys) h l = get_or-zipped f t xs ys (omega arith) (omega arith)

pub block_length : (at B : ℕ) (xs : List ℕ) → at + B ≤ length xs → length (take B (drop at xs)) ≡ B
block_length at B xs h = simp (length-take, length-drop) (omega arith)

pub block_at : (at B t : ℕ) (xs : List ℕ) → t < B → get_or (take B (drop at xs)) t 0 ≡ get_or xs (at + t) 0
block_at at B t xs h = get_or-take B (drop at xs) t 0 h ∙ get_or-drop at xs t 0

-- what is left of the weighed sum at t, from the place j of the lists on
left : ℕ → ℕ → ℕ → List ℕ → List ℕ → List ℕ → ℕ
left B t j ns ws blocks = dot (map (byte_at B t blocks) (drop j ns)) (drop j ws)

pub Going : ℕ → ℕ → List ℕ → List ℕ → List ℕ → List ℕ → List ℕ → Type 0
Going B j ns ws blocks acc₀ acc =
    (t : ℕ) → t < B → plus (get_or acc t 0) (left B t j ns ws blocks) ≡ plus (get_or acc₀ t 0) (left B t 0 ns ws blocks)

pub going_start : (B : ℕ) (ns ws blocks acc : List ℕ) → Going B 0 ns ws blocks acc acc
unfolding Going
going_start B ns ws blocks acc t h = refl

module _ (B : ℕ) (ns ws blocks acc₀ acc : List ℕ) (same : length ws ≡ length ns) where
  left-more : (t j : ℕ) → j < length ns
      → left B t j ns ws blocks ≡ plus (times (byte_at B t blocks (get_or ns j 0)) (get_or ws j 0)) (left B t (j + 1) ns ws blocks)
  unfolding left dot
  left-more t j h =
      let k : j < length ws = omega arith in
      ap₂ (λ (xs ys : List ℕ). dot (map (byte_at B t blocks) xs) ys) (drop-cons ns j 0 h) (drop-cons ws j 0 k)
      ∙ ap (λ (m : ℕ). plus (times (byte_at B t blocks (get_or ns j 0)) (get_or ws j 0)) (dot (map (byte_at B t blocks) (drop m ns)) (drop m ws))) (sym (add-one j))

  pub going_more : (j : ℕ) (part out : List ℕ) → Within B ns (length blocks) → j < length ns → length acc ≡ B
      → part ≡ take B (drop (get_or ns j 0 * B) blocks) → out ≡ zipped (mixed_one (get_or ws j 0)) part acc
      → Going B j ns ws blocks acc₀ acc → Going B (j + 1) ns ws blocks acc₀ out
  unfolding Going mixed_one
  going_more j part out fits h hl hp ho g t ht =
      let n = get_or ns j 0 in
      let w = get_or ws j 0 in
      let pl : length part ≡ B = ap length hp ∙ block_length (n * B) B blocks (fits.ends j h) in
      let here : get_or part t 0 ≡ byte_at B t blocks n = ap (λ (xs : List ℕ). get_or xs t 0) hp ∙ block_at (n * B) B t blocks ht in
      ap (λ (l : List ℕ). plus (get_or l t 0) (left B t (j + 1) ns ws blocks)) ho
      ∙ ap (λ (m : ℕ). plus m (left B t (j + 1) ns ws blocks))
      (get_or-zipped (mixed_one w) t part acc (omega arith) (omega arith) ∙ ap (λ (b : ℕ). plus (get_or acc t 0) (times b w)) here)
      ∙ plus_assoc (get_or acc t 0) (times (byte_at B t blocks (get_or ns j 0)) w) (left B t (j + 1) ns ws blocks)
      ∙ ap (plus (get_or acc t 0)) (sym (left-more t j h))
      ∙ g t ht

  pub going_done : (j : ℕ) → length ns ≤ j → Going B j ns ws blocks acc₀ acc → Mixed B ns ws blocks acc₀ acc
  unfolding Going left dot
  going_done j h g = record { each = λ t ht. sym (plus-zero-r (get_or acc t 0)) ∙ ap (plus (get_or acc t 0)) (sym (none t)) ∙ g t ht }
    where
      none : (t : ℕ) → dot (map (byte_at B t blocks) (drop j ns)) (drop j ws) ≡ 0
      none t = ap (λ (l : List ℕ). dot (map (byte_at B t blocks) l) (drop j ws)) (drop_of_length-le ns h)

-- cleared, then mixed
pub combined : {ws zeros acc : List ℕ} (acc₀ : List ℕ) (B : ℕ) (us cs qs blocks : List ℕ) → length acc₀ ≡ B → zeros ≡ replicate (length acc₀) 0
    → ws ≡ map (λ (q : ℕ). row q us cs) qs → Mixed B qs ws blocks zeros acc → Combined B us cs qs blocks acc
combined acc₀ B us cs qs blocks l z w m =
    record {
      each = λ t h.
          m.each t h
          ∙ ap₂ (λ (a : ℕ) (xs : List ℕ). plus a (dot (map (byte_at B t blocks) qs) xs))
          (ap (λ (xs : List ℕ). get_or xs t 0) z ∙ get_or-replicate (length acc₀) t 0 0 (omega arith)) w
          ∙ plus-zero-l (dot (map (byte_at B t blocks) qs) (map (λ (q : ℕ). row q us cs) qs));
    }

-- a parity block
pub count-length : (n c : ℕ) → length (count n c) ≡ c
unfolding count
count-length n zero = refl
count-length n (suc c) = ap suc (count-length (suc n) c)

count_at : (n c i : ℕ) → i < c → get_or (count n c) i 0 ≡ n + i
unfolding count
count_at n zero i h = absurd (omega arith)
count_at n (suc c) zero h = sym (add-zero n)
count_at n (suc c) (suc i) h = count_at (suc n) c i (omega arith) ∙ suc-add n i ∙ sym (add-suc n i)

-- block n ends within m blocks
pub block-fits : (B n m : ℕ) → n < m → n * B + B ≤ m * B
block-fits B n m h = omega (arith, suc-mul n B, mul-le-mul_right B h)

pub within_count : (B k len : ℕ) (qs : List ℕ) → qs ≡ count 0 k → len ≡ k * B → Within B qs len
within_count B k len qs e l =
    record {
      ends = λ i h.
          let q : i < k = omega (arith, ap length e, count-length 0 k) in
          let w : get_or qs i 0 ≡ i = ap (λ (xs : List ℕ). get_or xs i 0) e ∙ count_at 0 k i q ∙ zero-add i in
          subst (λ (m : ℕ). m * B + B ≤ len) (sym w) (omega (arith, block-fits B i k q));
    }

encoded-block : (B k u : ℕ) (qs blocks acc : List ℕ) → qs ≡ count 0 k → Combined B (u ∷ []) (1 ∷ []) qs blocks acc → Encoded B k u blocks acc
unfolding parity_byte
encoded-block B k u qs blocks acc e m =
    record {
      each = λ t h.
          m.each t h ∙ parity-byte u qs (map (byte_at B t blocks) qs) ∙ ap (λ (xs : List ℕ). row u xs (map (byte_at B t blocks) xs)) e;
    }

-- a parity block from a cleared one
pub encoded-sum : {ws zeros acc : List ℕ} (acc₀ : List ℕ) (B k u : ℕ) (qs blocks : List ℕ) → qs ≡ count 0 k → length acc₀ ≡ B → zeros ≡ replicate (length acc₀) 0
    → ws ≡ map (λ (q : ℕ). row q (u ∷ []) (1 ∷ [])) qs → Mixed B qs ws blocks zeros acc → Encoded B k u blocks acc
encoded-sum acc₀ B k u qs blocks e l z w m = encoded-block B k u qs blocks _ e (combined acc₀ B (u ∷ []) (1 ∷ []) qs blocks l z w m)

-- block x, and those behind it
pub next-at : (x B at : ℕ) → at ≡ x * B → at + B ≡ (x + 1) * B
next-at x B at h = ap (λ (n : ℕ). n + B) h ∙ sym (suc-mul x B) ∙ ap (λ (n : ℕ). n * B) (sym (add-one x))

pub placed : (B x at t : ℕ) (f : ℕ → ℕ → ℕ) → at ≡ x * B → t < B → f x t ≡ f ((at + t) / B) ((at + t) % B)
placed B x at t f e h =
    let q : at + t ≡ x * B + t = ap (λ (n : ℕ). n + t) e in
    sym (ap₂ f (ap (λ (n : ℕ). n / B) q ∙ digits_div x h) (ap (λ (n : ℕ). n % B) q ∙ digits_mod x h))

pub whole-at : (x m B at : ℕ) → at ≡ x * B → m ≤ x → m * B ≤ at
whole-at x m B at e h = omega (arith, mul-le-mul_right B h)

pub room_for : (x B at m len : ℕ) → at ≡ x * B → x < m → len ≡ m * B → at + B ≤ len
room_for x B at m len e h l = omega (arith, block-fits B x m h)

-- w blocks behind block x, within m
pub room-some : (x B at w n m len : ℕ) → at ≡ x * B → w ≡ n → x < m → n ≤ m - x → len ≡ m * B → at + w * B ≤ len
room-some x B at w n m len e q h k l = omega (arith, add-mul x w B, mul-le-mul_right B below)
  where
    below : x + w ≤ m
    below = omega arith

pub next-some : (x B at w n : ℕ) → at ≡ x * B → w ≡ n → at + w * B ≡ (x + n) * B
next-some x B at w n e q = ap₂ (λ (a b : ℕ). a + b * B) e q ∙ sym (add-mul x n B)
