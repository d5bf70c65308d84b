-- #105: "Closed days give real blocks of zeros, which hash like deleted ones, so a host may drop them": so in version 1, and not in versions 2 and 3. Assumes nothing.
--   zeros-as-deleted    in version 1 a block of zeros and a deleted one have the same content, and every digest is the same over either
--   live-never-deleted    in another version what is hashed of a live block is never what is hashed of a deleted one, whatever key, index and bytes
--   Collision, not-dropped   in another version a digest that covers a live block is another where the block is deleted, or two messages have one hash
use Prim.Native.Nat.{ℕ, ◌+◌, ◌-◌, ◌≤◌, ◌<◌}
use native.Mathlib.Omega.{arith}
use mathlib.Core.Path.{◌≡◌, refl, sym, ap, ◌∙◌}
use mathlib.Core.Logic.{◌≢◌}
use mathlib.Core.List.{List, ◌++◌}
use borrow.Author.Tests.{ne_eqb, le-leb}
use lib.ListN.{length, get_or, set, drop, replicate, length-append}
use lib.Seq.{drop_at}
use Rattle.octets.specs.Octets.{le, be, xors}
use Rattle.octets.proofs.XorLaws.{xors-comm, xors-undo, length-xors}
use Rattle.scheme.specs.Primitives.{Primitives}
use Rattle.scheme.specs.Marks.{live, deleted}
use Rattle.scheme.specs.Tokens.{row_of, column_of, index_of, block_at, block_hash, position_of, digest, replaced, mixed, changed_digest}
use Rattle.scheme.proofs.laws.TokenLaws.{length-hash, length-digest, digest-replaced}

-- in version 1 a host may keep a deleted block in place of one of zeros
pub zeros-as-deleted : (P : Primitives) (k c : List ℕ) (B d r m : ℕ) (blocks : List (List ℕ))
    → (live 1 ++ replicate B 0 ≡ deleted 1 ++ replicate B 0)
    × (digest P k c d r (set blocks (m - 1) (live 1 ++ replicate B 0)) ≡ digest P k c d r (set blocks (m - 1) (deleted 1 ++ replicate B 0)))
unfolding live deleted
zeros-as-deleted P k c B d r m blocks = (refl, refl)

-- "one mark byte (0 live, 1 deleted) stands between index and block in the hash": a hash is that of its key, its index, and a content
pub live-never-deleted : (v : ℕ) → v ≢ 1 → (c c' : List ℕ) (i i' : ℕ) (x y : List ℕ) → length c ≡ length c'
    → c ++ be 4 i ++ (live v ++ x) ≢ c' ++ be 4 i' ++ (deleted v ++ y)
unfolding live deleted be le
live-never-deleted v other c c' i i' x y l e =
    let n = length c + 4 in
    let contents : live v ++ x ≡ deleted v ++ y =
    sym (drop_at (c ++ be 4 i) (live v ++ x) n (length-append c (be 4 i)))
    ∙ ap (drop n) e ∙ drop_at (c' ++ be 4 i') (deleted v ++ y) n (omega (arith, length-append c' (be 4 i'))) in
    let marks : ◌≡◌ {A = ℕ} 0 1 = rw (ne_eqb v 1 other) at (ap (λ (xs : List ℕ). get_or xs 0 0) contents) in
    absurd (omega arith)

-- two messages with one hash
pub record Collision (P : Primitives) : Type 0 where
  pub one : List ℕ
  pub other : List ℕ
  pub apart : one ≢ other
  pub same : P.hash one ≡ P.hash other

-- an xor tells its terms
same-term : (x a b : List ℕ) → length x ≡ 32 → length a ≡ 32 → length b ≡ 32 → xors (xors x a) b ≡ x → a ≡ b
same-term x a b lx la lb e =
    let swapped : xors x a ≡ xors x b =
    sym (xors-undo (xors x a) b (omega (arith, length-xors x a (omega arith)))) ∙ ap (λ (y : List ℕ). xors y b) e in
    sym (xors-undo a x (omega arith)) ∙ ap (λ (y : List ℕ). xors y x) (xors-comm a x ∙ swapped ∙ xors-comm x b) ∙ xors-undo b x (omega arith)

-- "so a host may drop them": the digest that covers block m, live with any bytes, is not reckoned from the block deleted
module _ (P : Primitives) (v : ℕ) (marks : v ≢ 1) (k c : List ℕ) (d r : ℕ) (pos : 0 < d) (most : d ≤ 1048576) (fits : r ≤ d) where
  pub not-dropped : (m : ℕ) (blocks : List (List ℕ)) (x y : List ℕ) → 1 ≤ m → m ≤ length blocks → block_at m blocks ≡ live v ++ x → position_of P k d (row_of d m) ≤ r
      → digest P k c d r (set blocks (m - 1) (deleted v ++ y)) ≡ digest P k c d r blocks → Collision P
  unfolding changed_digest mixed block_hash
  not-dropped m blocks x y from to held covers e =
      let i = index_of d (column_of d m) (position_of P k d (row_of d m)) in
      let whole = digest P k c d r blocks in
      let step : changed_digest P k c d r m (replaced (live v ++ x) (deleted v ++ y)) whole ≡ whole =
      sym (digest-replaced P k c d r blocks pos most fits m (live v ++ x) (deleted v ++ y) from to (sym held)) ∙ e in
      let both : xors (xors whole (block_hash P c i (live v ++ x))) (block_hash P c i (deleted v ++ y)) ≡ whole =
      rw (le-leb (position_of P k d (row_of d m)) r covers) at step in
      record {
        one = c ++ be 4 i ++ (live v ++ x);
        other = c ++ be 4 i ++ (deleted v ++ y);
        apart = live-never-deleted v marks c c i i x y refl;
        same =
            same-term whole (block_hash P c i (live v ++ x)) (block_hash P c i (deleted v ++ y))
            (length-digest P k c d r blocks) (length-hash P c i (live v ++ x)) (length-hash P c i (deleted v ++ y)) both;
      }
