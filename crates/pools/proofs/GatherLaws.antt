-- Single replies that lie end to end, and the pooled reply that is made of them. Assumes nothing.
--   single, singles-none, singles-more      the reply at an offset; the replies from there on: none, and one more
--   heads-failed, heads-next, heads_done    the test of every head, of those from an offset on
--   code_of                                 the code from its tests; Gathered, gathered: what a gathering that is not turned away has
--   digest-long, digest-next, digest-done   the xor of the digests, of those from an offset on
--   head-long, front-put, front_kept        the first 37 bytes as they are stored
--   second-room .. entry_next, entry_done   the parts that are written one after the other
--   gather-kept, gather-done                what a gathering answers and leaves
use Prim.Native.Nat.{ℕ, zero, suc, ◌+◌, ◌*◌, ◌-◌, ◌/◌, ◌%◌, ◌≤◌}
use native.Mathlib.Omega.{arith}
use mathlib.Core.Path.{◌≡◌, refl, sym, ap, ap₂, ◌∙◌}
use mathlib.Core.List.{List, [], ◌∷◌, ◌++◌, append-nil, append_assoc}
use mathlib.Core.Bool.{Bool, true, false, cond, ◌&&◌}
use borrow.Author.Tests.{eqb-true}
use lib.Dec.{eqb}
use lib.ListN.{length, take, drop, replicate, length-append, length-drop}
use lib.Seq.{drop-drop, take_all}
use Rattle.octets.specs.Octets.{be, part, put, xors}
use Rattle.octets.proofs.NumberLaws.{length-be}
use Rattle.octets.proofs.PartLaws.{length_part, part-part, put-put, length-put, take_put}
use Rattle.octets.proofs.XorLaws.{length-xors}
use Rattle.scheme.specs.Checks.{first, within}
use Rattle.scheme.specs.Lists.{pieces}
use Rattle.scheme.specs.Records.{head_known}
use Rattle.scheme.specs.Pools.{every, entries, digest_sum, gathered_reply, singles, gather_code, gather_out}
use Rattle.scheme.proofs.laws.CheckLaws.{first-passed, within-true, refusal-kept, answer-written}

-- the reply that is lent from an offset on
abbrev pub single : List ℕ → ℕ → List ℕ
single xs at = part at (at + 110 - at) xs

module _ (xs : List ℕ) (at : ℕ) where
  pub singles-none : length xs ≤ at → singles (drop at xs) ≡ []
  unfolding pieces
  singles-none h = let z : length (drop at xs) / 110 ≡ 0 = omega (arith, length-drop at xs) in rw z

  pub singles-more : at + 110 ≤ length xs → singles (drop at xs) ≡ single xs at ∷ singles (drop (at + 110) xs)
  unfolding pieces
  singles-more h =
      let z : length (drop at xs) / 110 ≡ suc (length (drop (at + 110) xs) / 110) = omega (arith, length-drop at xs, length-drop (at + 110) xs) in
      let k : 110 ≡ at + 110 - at = omega arith in
      ap (λ (n : ℕ). pieces 110 n (drop at xs)) z
      ∙ ap₂ (λ (j : ℕ) (l : List ℕ). part at j xs ∷ pieces 110 (length (drop (at + 110) xs) / 110) l) k (drop-drop 110 at xs)

-- the test of every head
module _ (xs : List ℕ) (at : ℕ) where
  abbrev heads : ℕ → Bool
  heads i = every (head_known 108) (singles (drop i xs))

  pub heads_done : length xs ≤ at → heads at ≡ true
  unfolding every
  heads_done h = ap (every (head_known 108)) (singles-none xs at h)

  module _ (h : at + 110 ≤ length xs) where
    heads-step : heads at ≡ (head_known 108 (single xs at) && heads (at + 110))
    unfolding every
    heads-step = ap (every (head_known 108)) (singles-more xs at h)

    pub heads-failed : head_known 108 (single xs at) ≡ false → heads at ≡ false
    heads-failed e = heads-step ∙ rw e

    pub heads-next : head_known 108 (single xs at) ≡ true → heads at ≡ heads (at + 110)
    heads-next e = heads-step ∙ rw e

-- the code from its tests
module _ (xs pooled : List ℕ) where
  pub code_of : {b₁ b₂ b₃ b₄ : Bool} → eqb (length xs % 110) 0 ≡ b₁ → every (head_known 108) (singles xs) ≡ b₂ → within 2 16 (length xs / 110) ≡ b₃
      → eqb (length pooled) (37 + 75 * (length xs / 110)) ≡ b₄ → cond b₁ (cond b₂ (cond b₃ (cond b₄ 0 1) 23) 2) 1 ≡ gather_code xs pooled
  unfolding gather_code first
  code_of p₁ p₂ p₃ p₄ = rw (p₁, p₂, p₃, p₄)

  pub record Gathered : Type 0 where
    pub even : length xs % 110 ≡ 0
    pub most : length xs / 110 ≤ 16
    pub size : length pooled ≡ 37 + 75 * (length xs / 110)

  pub gathered : (n : ℕ) → n ≡ gather_code xs pooled → n ≡ 0 → Gathered
  unfolding gather_code
  gathered n e z =
      let a = first-passed (eqb (length xs % 110) 0, 1) _ (omega arith) (sym e ∙ z) in
      let b = first-passed (every (head_known 108) (singles xs), 2) _ (omega arith) a.1 in
      let c = first-passed (within 2 16 (length xs / 110), 23) _ (omega arith) b.1 in
      let d = first-passed (eqb (length pooled) (37 + 75 * (length xs / 110)), 1) _ (omega arith) c.1 in
      record {
        even = eqb-true (length xs % 110) 0 a.0;
        most = (within-true 2 16 (length xs / 110) c.0).1;
        size = eqb-true (length pooled) (37 + 75 * (length xs / 110)) d.0;
      }

-- the xor of the digests
module _ (xs : List ℕ) (at : ℕ) (sum : List ℕ) where
  pub digest-done : length xs ≤ at → digest_sum sum (singles (drop at xs)) ≡ sum
  unfolding digest_sum
  digest-done h = ap (digest_sum sum) (singles-none xs at h)

  pub digest-long : at + 110 ≤ length xs → (k : ℕ) → k ≡ 32 → length sum ≡ 32 → (more : List ℕ) → more ≡ xors sum (part (at + 15) k xs) → length more ≡ 32
  digest-long h k e l more m =
      ap length m ∙ length-xors sum (part (at + 15) k xs) (omega (arith, length_part (at + 15) k xs (omega arith))) ∙ l

  pub digest-next : at + 110 ≤ length xs → (k : ℕ) → k ≡ 32 → (more : List ℕ) → more ≡ xors sum (part (at + 15) k xs)
      → digest_sum sum (singles (drop at xs)) ≡ digest_sum more (singles (drop (at + 110) xs))
  unfolding digest_sum
  digest-next h k e more m =
      let d : part 15 32 (single xs at) ≡ part (at + 15) k xs = part-part 15 32 at (at + 110 - at) xs (omega arith) ∙ ap (λ (j : ℕ). part (at + 15) j xs) (sym e) in
      ap (digest_sum sum) (singles-more xs at h) ∙ ap (λ (x : List ℕ). digest_sum x (singles (drop (at + 110) xs))) (ap (xors sum) d ∙ sym m)

-- the first 37 bytes as they are stored
pub head-long : (len : ℕ) → length (be 2 len ++ (1 ∷ [])) ≡ 3
head-long len = omega (arith, length-append (be 2 len) (1 ∷ []), length-be 2 len)

pub front-put : (head number sum xs s t : List ℕ) → length head ≡ 3 → length number ≡ 2 → length sum ≡ 32 → 37 ≤ length xs
    → s ≡ put 0 head xs → t ≡ put 3 number s → put 5 sum t ≡ put 0 (head ++ number ++ sum) xs
front-put head number sum xs s t a b c h e f =
    let one : t ≡ put 0 (head ++ number) xs = f ∙ ap₂ (λ (i : ℕ) (u : List ℕ). put (0 + i) number u) (sym a) e ∙ put-put 0 head number xs (omega arith) in
    let l : length (head ++ number) ≡ 5 = length-append head number ∙ omega arith in
    ap₂ (λ (i : ℕ) (u : List ℕ). put (0 + i) sum u) (sym l) one ∙ put-put 0 (head ++ number) sum xs (omega arith)

-- the parts that are written one after the other
module _ (xs pooled : List ℕ) (at to : ℕ) where
  pub entry_done : length xs ≤ at → length pooled ≤ to → pooled ≡ take to pooled ++ entries (singles (drop at xs))
  unfolding entries
  entry_done h g =
      let none : entries (singles (drop at xs)) ≡ [] = ap entries (singles-none xs at h) in
      sym (ap (λ (l : List ℕ). take to pooled ++ l) none ∙ append-nil (take to pooled) ∙ take_all to pooled g)

  module _ (h : at + 110 ≤ length xs) (g : to + 75 ≤ length pooled) (j k : ℕ) (ej : j ≡ 12) (ek : k ≡ 63) (one : List ℕ)
      (e : one ≡ put to (part (at + 3) j xs) pooled) where
    abbrev q : List ℕ
    q = part (at + 3) j xs

    abbrev r : List ℕ
    r = part (at + 47) k xs

    long-q : length q ≡ 12
    long-q = length_part (at + 3) j xs (omega arith) ∙ ej

    long-r : length r ≡ 63
    long-r = length_part (at + 47) k xs (omega arith) ∙ ek

    long-both : length (q ++ r) ≡ 75
    long-both = length-append q r ∙ omega (arith, long-q, long-r)

    pub second-room : to + 12 + length r ≤ length one
    second-room = omega (arith, long-r, ap length e, length-put to q pooled (omega (arith, long-q)))

    module _ (new : List ℕ) (f : new ≡ put (to + 12) r one) where
      is-put : new ≡ put to (q ++ r) pooled
      is-put = f ∙ ap₂ (λ (i : ℕ) (u : List ℕ). put (to + i) r u) (sym long-q) e ∙ put-put to q r pooled (omega (arith, long-q, long-r))

      pub entry_length : length new ≡ length pooled
      entry_length = ap length is-put ∙ length-put to (q ++ r) pooled (omega (arith, long-both))

      pub entry_next : take to pooled ++ entries (singles (drop at xs)) ≡ take (to + 75) new ++ entries (singles (drop (at + 110) xs))
      unfolding entries
      entry_next =
          let rest : List ℕ = entries (singles (drop (at + 110) xs)) in
          let front : take (to + 75) new ≡ take to pooled ++ (q ++ r) = ap₂ (λ (i : ℕ) (u : List ℕ). take (to + i) u) (sym long-both) is-put ∙ take_put to (q ++ r) pooled (omega (arith, long-both)) in
          let id : part 3 12 (single xs at) ≡ q = part-part 3 12 at (at + 110 - at) xs (omega arith) ∙ ap (λ (n : ℕ). part (at + 3) n xs) (sym ej) in
          let rec : part 47 63 (single xs at) ≡ r = part-part 47 63 at (at + 110 - at) xs (omega arith) ∙ ap (λ (n : ℕ). part (at + 47) n xs) (sym ek) in
          let all : entries (singles (drop at xs)) ≡ (q ++ r) ++ rest = ap entries (singles-more xs at h) ∙ ap₂ (λ (x y : List ℕ). x ++ y ++ rest) id rec in
          ap (λ (x : List ℕ). take to pooled ++ x) all ∙ sym (append_assoc (take to pooled) (q ++ r) rest) ∙ ap (λ (x : List ℕ). x ++ rest) (sym front)

front_long : (len count : ℕ) (sum : List ℕ) → length sum ≡ 32 → length (be 2 len ++ (1 ∷ []) ++ be 2 count ++ sum) ≡ 37
front_long len count sum l =
    omega (
      arith,
      length-append (be 2 len ++ (1 ∷ []) ++ be 2 count) sum,
      length-append (be 2 len ++ (1 ∷ [])) (be 2 count),
      length-append (be 2 len) (1 ∷ []),
      length-be 2 len,
      length-be 2 count,
    )

pub front_kept : (count : ℕ) (sum xs new : List ℕ) → length sum ≡ 32 → 37 ≤ length xs → new ≡ put 0 (be 2 (35 + 75 * count) ++ (1 ∷ []) ++ be 2 count ++ sum) xs
    → length new ≡ length xs
front_kept count sum xs new l h e =
    ap length e ∙ length-put 0 (be 2 (35 + 75 * count) ++ (1 ∷ []) ++ be 2 count ++ sum) xs (omega (arith, front_long (35 + 75 * count) count sum l))

pieces-count : (m : ℕ) (ys : List ℕ) → length (pieces 110 m ys) ≡ m
unfolding pieces
pieces-count zero ys = refl
pieces-count (suc m) ys = ap suc (pieces-count m (drop 110 ys))

-- what a gathering answers and leaves
module _ (xs pooled : List ℕ) (n : ℕ) (e : n ≡ gather_code xs pooled) where
  pub gather-kept : (n ≡ 0 → ⊥) → (n ≡ gather_code xs pooled) × (pooled ≡ gather_out xs pooled)
  unfolding gather_out
  gather-kept h = (e, refusal-kept (gather_code xs pooled) _ pooled n e h)

  count-is : length (singles xs) ≡ length xs / 110
  count-is = pieces-count (length xs / 110) xs

  pub gather-done : (z : n ≡ 0) (count : ℕ) (sum one new : List ℕ) → count ≡ length xs / 110 → length sum ≡ 32 → sum ≡ digest_sum (replicate 32 0) (singles xs)
      → one ≡ put 0 (be 2 (35 + 75 * count) ++ (1 ∷ []) ++ be 2 count ++ sum) pooled → new ≡ take 37 one ++ entries (singles xs)
      → (0 ≡ gather_code xs pooled) × (new ≡ gather_out xs pooled)
  unfolding gather_out gathered_reply
  gather-done z count sum one new c l s p q =
      let head : List ℕ = be 2 (35 + 75 * count) ++ (1 ∷ []) ++ be 2 count ++ sum in
      let m : count ≡ length (singles xs) = c ∙ sym count-is in
      let long : length head ≡ 37 = front_long (35 + 75 * count) count sum l in
      let g = gathered xs pooled n e z in
      let front : take 37 one ≡ head = ap₂ (λ (i : ℕ) (u : List ℕ). take (0 + i) u) (sym long) p ∙ take_put 0 head pooled (omega (arith, g.size, long)) in (
        sym z ∙ e,
        q
            ∙ ap (λ (u : List ℕ). u ++ entries (singles xs)) front
            ∙ ap₂ (λ (k : ℕ) (u : List ℕ). be 2 (35 + 75 * k) ++ (1 ∷ []) ++ be 2 k ++ u ++ entries (singles xs)) m s
            ∙ answer-written (gather_code xs pooled) (gathered_reply (singles xs)) pooled n e z,
      )
