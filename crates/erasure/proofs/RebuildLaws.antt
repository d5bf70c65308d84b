-- Rebuilding: a lost block, a kept block, and one more of the data blocks. Assumes nothing.
--   solved-block                       a lost block is the weighed sum that the code makes
--   rank-in, rank-lost, rank-kept      how many data blocks of lower number are lost
--   put-lost, put-kept                 a data block, rebuilt or copied
--   data_at, data-new                   the data bytes as they lie
use mathlib.Core.Path.{◌≡◌, sym, ap, ◌∙◌}
use mathlib.Core.Bool.{Bool, true, false, cond}
use mathlib.Core.List.{List, [], ◌∷◌, map}
use Prim.Native.Nat.{ℕ, ◌+◌, ◌*◌, ◌/◌, ◌%◌, ◌<◌}
use native.Mathlib.Omega.{arith}
use lib.ListN.{length, get_or, set, take, drop, replicate, length-map}
use Rattle.gf256.specs.Field.{plus}
use Rattle.cauchy.specs.Solve.{row, solve}
use Rattle.erasure.specs.Group.{byte_at, named, lost_data, sum_of, recovered}
use Rattle.cauchy.specs.System.{dot, Distinct, Cross, Solvable}
use Rattle.erasure.specs.Blocks.{Mixed, Combined, Solved, put_byte, Put}
use Rattle.cauchy.proofs.MixLaws.{unit_at, swap, plus-dot, transposed}
use Rattle.cauchy.proofs.SolveLaws.{Bytes, row_lt}
use Rattle.gf256.proofs.SumLaws.{plus_comm, plus-lt}
use Rattle.erasure.proofs.ChoiceLaws.{rank_lt, rank-next}
use Rattle.erasure.proofs.BlockLaws.{block_at, placed}

-- a lost byte as one weighed sum of the bytes that are left: us are the sources and vs the unknowns
module _ (us vs : List ℕ) (same : length us ≡ length vs) (cross : Cross us vs) (apart : Distinct us) (apart₂ : Distinct vs) where
  lost-byte : (at : ℕ → ℕ) (qs : List ℕ) (i : ℕ) → i < length us → ((n : ℕ) → at n < 256)
      → plus (dot (map at qs) (map (λ (q : ℕ). row q us (solve vs us (unit_at (length us) i))) qs)) (dot (map at us) (solve vs us (unit_at (length us) i)))
      ≡ get_or (recovered at us vs qs) i 0
  unfolding recovered sum_of
  lost-byte at qs i h b =
      let c = solve vs us (unit_at (length us) i) in
      let rest : ℕ → ℕ = λ u. row u qs (map at qs) in
      plus_comm (dot (map at qs) (map (λ (q : ℕ). row q us c) qs)) (dot (map at us) c)
      ∙ ap (plus (dot (map at us) c)) (sym (swap us c qs (map at qs)))
      ∙ sym (plus-dot at rest us c)
      ∙ transposed us vs same cross apart apart₂ i (map (λ (u : ℕ). plus (at u) (rest u)) us) h (length-map us (λ (u : ℕ). plus (at u) (rest u)) ∙ same) (sums us)
    where
      sums : (xs : List ℕ) → Bytes (map (λ (u : ℕ). plus (at u) (row u qs (map at qs))) xs)
      sums [] = tt
      sums (x ∷ xs) = (plus-lt (at x) (row x qs (map at qs)) (b x) (row_lt x qs (map at qs)), sums xs)

pub solved-block : {c₀ c₁ acc₁ acc₂ : List ℕ} (B i : ℕ) (us vs qs blocks cs : List ℕ) → Solvable us vs → i < length us → length cs ≡ length us
    → ((n : ℕ) → get_or blocks n 0 < 256) → c₀ ≡ replicate (length cs) 0 → c₁ ≡ solve vs us (set c₀ i 1)
    → Combined B us c₁ qs blocks acc₁ → Mixed B us c₁ blocks acc₁ acc₂ → Solved B i us vs qs blocks acc₂
solved-block {c₁ = c₁} B i us vs qs blocks cs s h l bytes e₀ e₁ c m =
    let e : c₁ ≡ solve vs us (unit_at (length us) i) =
    e₁ ∙ ap (λ (xs : List ℕ). solve vs us (set xs i 1)) (e₀ ∙ ap (λ (n : ℕ). replicate n 0) l) in
    record {
      each = λ t ht.
          m.each t ht ∙ ap (λ (a : ℕ). plus a (dot (map (byte_at B t blocks) us) c₁)) (c.each t ht)
          ∙ ap (λ (xs : List ℕ). plus (dot (map (byte_at B t blocks) qs) (map (λ (q : ℕ). row q us xs) qs)) (dot (map (byte_at B t blocks) us) xs)) e
          ∙ lost-byte us vs s.many s.cross s.sources_apart s.lost_apart (byte_at B t blocks) qs i h (λ n. bytes (n * B + t));
    }

-- how many are lost
module _ (lost : List ℕ) (n i : ℕ) (e : i ≡ length (lost_data lost n)) where
  pub rank-in : (k : ℕ) (us vs : List ℕ) → Solvable us vs → vs ≡ lost_data lost k → n < k → named lost n ≡ true → i < length us
  rank-in k us vs s v h t =
      let l = s.many in
      omega (arith, ap length v, rank_lt (named lost) n k h t)

  pub rank-lost : named lost n ≡ true → i + 1 ≡ length (lost_data lost (n + 1))
  rank-lost t = omega (arith, rank-next (named lost) n, ap (λ (b : Bool). length (cond b (n ∷ []) [])) t)

  pub rank-kept : named lost n ≡ false → i ≡ length (lost_data lost (n + 1))
  rank-kept t = omega (arith, rank-next (named lost) n, ap (λ (b : Bool). length (cond b (n ∷ []) [])) t)

  pub put-lost : (B : ℕ) (us vs qs blocks acc : List ℕ) → named lost n ≡ true → Solved B i us vs qs blocks acc → Put B n lost us vs qs blocks acc
  unfolding put_byte
  put-lost B us vs qs blocks acc t s =
      record {
        each = λ x h.
            s.each x h
            ∙ ap (λ (j : ℕ). get_or (recovered (byte_at B x blocks) us vs qs) j 0) e
            ∙ ap (λ (b : Bool). cond b (get_or (recovered (byte_at B x blocks) us vs qs) (length (lost_data lost n)) 0) (byte_at B x blocks n)) (sym t);
      }

pub put-kept : (B n : ℕ) (lost us vs qs blocks part acc : List ℕ) → named lost n ≡ false → part ≡ take B (drop (n * B) blocks) → acc ≡ part
    → Put B n lost us vs qs blocks acc
unfolding put_byte
put-kept B n lost us vs qs blocks part acc t e o =
    record {
      each = λ x h.
          ap (λ (xs : List ℕ). get_or xs x 0) (o ∙ e) ∙ block_at (n * B) B x blocks h
          ∙ ap (λ (b : Bool). cond b (get_or (recovered (byte_at B x blocks) us vs qs) (length (lost_data lost n)) 0) (byte_at B x blocks n)) (sym t);
    }

-- the data bytes, as they lie
abbrev pub data_at : ℕ → List ℕ → List ℕ → List ℕ → List ℕ → List ℕ → ℕ → ℕ
data_at B lost us vs qs blocks i = put_byte lost us vs qs (byte_at B (i % B) blocks) (i / B)

pub data-new : (B n at : ℕ) (lost us vs qs blocks ys : List ℕ) → at ≡ n * B → Put B n lost us vs qs blocks ys
    → (t : ℕ) → t < B → get_or ys t 0 ≡ data_at B lost us vs qs blocks (at + t)
data-new B n at lost us vs qs blocks ys e m t h =
    m.each t h ∙ placed B n at t (λ (x s : ℕ). put_byte lost us vs qs (byte_at B s blocks) x) e h
