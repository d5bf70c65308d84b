-- Blocks that come behind others, reckoned position by position: what they add to a digest is the newer columns of the rows drawn. Assumes nothing.
--   newer, newer-more       the xor, over every position, of the columns of its row that the older blocks do not reach; one position more
--   after-newer            a digest after blocks are added
--   after-all              .. from none: the digest of all blocks
--   hashes-newer            their hashes: as many as the rows drawn have columns more
--   hashes-all              .. from none: those of the digest of all blocks
use Prim.Native.Nat.{ℕ, zero, suc, ◌+◌, ◌*◌, ◌-◌, ◌%◌, ◌≤◌, ◌<◌}
use native.Mathlib.Omega.{arith}
use native.Mathlib.Decide.{ℕ_discrete}
use native.Mathlib.Nat.{mod-lt}
use native.Mathlib.Numerals.{add-one}
use mathlib.Core.Path.{◌≡◌, refl, sym, ap, ap₂, subst, ◌∙◌}
use mathlib.Core.Logic.{◌≢◌}
use mathlib.Core.List.{List, [], ◌∷◌, ◌++◌}
use mathlib.Core.Bool.{Bool, true, false, cond}
use borrow.Author.Tests.{leb-true, leb-false, le-leb, lt-leb}
use lib.ListN.{length, replicate, length-append, get_or-append}
use lib.Dec.{leb}
use Rattle.octets.specs.Octets.{xors}
use Rattle.octets.proofs.XorLaws.{xors-assoc, xors-swap, xors-undo, xors-zeros}
use Rattle.scheme.specs.Lists.{xor_below, xor_from}
use Rattle.scheme.specs.Primitives.{Primitives}
use Rattle.scheme.specs.Tokens.{row_of, column_of, block_in, columns_of, block_at, index_of, BlockChange, replaced, added, added_from, block_hash, column_hash, drawn_row}
use Rattle.scheme.specs.Tokens.{position_of, row_digest, row_from, digest, mixed, changed_digest, digest_after}
use Rattle.scheme.specs.Totals.{sum_from, digest_hashes, token_hashes}
use Rattle.scheme.proofs.laws.SumLaws.{xor-below-more, xor-below-same, both_sums}
use Rattle.scheme.proofs.laws.GeometryLaws.{in_blocks, row-beyond, columns-up, more-here, more-there}
use Rattle.scheme.proofs.laws.TokenLaws.{length-column, length-digest, row-empty, digest-after, applied-added, right-added}
use Rattle.scheme.proofs.laws.TotalLaws.{sum_more, sum-most}

-- the sum of sums
both_below : (f g : ℕ → List ℕ) (n : ℕ) → xor_below n (λ j. xors (f j) (g j)) ≡ xors (xor_below n f) (xor_below n g)
unfolding xor_below
both_below f g zero = sym (xors-zeros 32 (replicate 32 0) (omega arith))
both_below f g (suc n) =
    let a = xor_below n f in
    let b = xor_below n g in
    ap (λ (x : List ℕ). xors x (xors (f n) (g n))) (both_below f g n)
    ∙ sym (xors-assoc (xors a b) (f n) (g n))
    ∙ ap (λ (x : List ℕ). xors x (g n)) (xors-swap a b (f n))
    ∙ xors-assoc (xors a (f n)) b (g n)

zeros-below : (f : ℕ → List ℕ) (n : ℕ) → ((j : ℕ) → j < n → f j ≡ replicate 32 0) → xor_below n f ≡ replicate 32 0
unfolding xor_below
zeros-below f zero h = refl
zeros-below f (suc n) h = ap₂ xors (zeros-below f n (λ j l. h j (omega arith))) (h n (omega arith)) ∙ xors-zeros 32 (replicate 32 0) (omega arith)

-- a sum over positions whose term j alone grows, by one: it grows where the positions reach j
module _ (f g : ℕ → ℕ) (j : ℕ) (from_one : 1 ≤ j) (here : g j ≡ f j + 1) where
  reached-more : (r : ℕ) → (1 + r ≢ j → g (1 + r) ≡ f (1 + r)) → sum_from r 1 g ≡ sum_from r 1 f + cond (leb j r) 1 0
      → sum_from (r + 1) 1 g ≡ sum_from (r + 1) 1 f + cond (leb j (r + 1)) 1 0
  reached-more r there before = omega (arith, sum_more f r 1, sum_more g r 1, go (ℕ_discrete (1 + r) j) (leb j r) refl)
    where
      go : Dec (1 + r ≡ j) → (b : Bool) → leb j r ≡ b → g (1 + r) + cond (leb j r) 1 0 ≡ f (1 + r) + cond (leb j (r + 1)) 1 0
      go (yes q) b t =
          let last : g (1 + r) ≡ f (1 + r) + 1 = ap g q ∙ here ∙ ap (λ (i : ℕ). f i + 1) (sym q) in
          rw (lt-leb j r (omega arith), le-leb j (r + 1) (omega arith)) (omega arith)
      go (no n) true t = rw (there n, t, le-leb j (r + 1) (omega (arith, leb-true j r t)))
      go (no n) false t = rw (there n, t, lt-leb j (r + 1) (omega (arith, leb-false j r t, n)))

  sum-reached : (r : ℕ) → ((i : ℕ) → 1 ≤ i → i ≤ r → i ≢ j → g i ≡ f i) → sum_from r 1 g ≡ sum_from r 1 f + cond (leb j r) 1 0
  unfolding sum_from
  sum-reached zero there = rw (lt-leb j 0 (omega arith))
  sum-reached (suc r) there =
      subst (λ (n : ℕ). sum_from n 1 g ≡ sum_from n 1 f + cond (leb j n) 1 0) (add-one r)
      (reached-more r (there (1 + r) (omega arith) (omega arith)) (sum-reached r (λ i l h. there i l (omega arith))))

module _ (P : Primitives) where
  abbrev pub newer : List ℕ → List ℕ → ℕ → ℕ → ℕ → List (List ℕ) → List ℕ
  newer k c d r n blocks =
      xor_below r (λ j₀. row_from P c d (drawn_row P k d (j₀ + 1)) (j₀ + 1) blocks (columns_of d n (drawn_row P k d (j₀ + 1))))

  pub newer-more : (k c : List ℕ) (d r n : ℕ) (blocks : List (List ℕ))
      → newer k c d (r + 1) n blocks
      ≡ xors (newer k c d r n blocks) (row_from P c d (drawn_row P k d (r + 1)) (r + 1) blocks (columns_of d n (drawn_row P k d (r + 1))))
  newer-more k c d r n blocks =
      xor-below-more (λ j₀. row_from P c d (drawn_row P k d (j₀ + 1)) (j₀ + 1) blocks (columns_of d n (drawn_row P k d (j₀ + 1)))) r

  -- what a change xors in does not depend on what it is xored into
  mixed-in : (c : List ℕ) (i : ℕ) (ch : BlockChange) (x y : List ℕ) → mixed P c i ch (xors x y) ≡ xors x (mixed P c i ch y)
  unfolding mixed
  mixed-in c i (replaced old new) x y =
      ap (λ (z : List ℕ). xors z (block_hash P c i new)) (xors-assoc x y (block_hash P c i old)) ∙ xors-assoc x (xors y (block_hash P c i old)) (block_hash P c i new)
  mixed-in c i (added new) x y = xors-assoc x y (block_hash P c i new)

  changed-in : (k c : List ℕ) (d r m : ℕ) (ch : BlockChange) (x y : List ℕ) → changed_digest P k c d r m ch (xors x y) ≡ xors x (changed_digest P k c d r m ch y)
  unfolding changed_digest
  changed-in k c d r m ch x y = go (leb (position_of P k d (row_of d m)) r)
    where
      i : ℕ
      i = index_of d (column_of d m) (position_of P k d (row_of d m))

      go : (b : Bool) → cond b (mixed P c i ch (xors x y)) (xors x y) ≡ xors x (cond b (mixed P c i ch y) y)
      go true = mixed-in c i ch x y
      go false = refl

  after-in : (k c : List ℕ) (d r : ℕ) (changes : List (ℕ × BlockChange)) (x y : List ℕ) → digest_after P k c d r changes (xors x y) ≡ xors x (digest_after P k c d r changes y)
  unfolding digest_after
  after-in k c d r [] x y = refl
  after-in k c d r (w ∷ changes) x y =
      ap (digest_after P k c d r changes) (changed-in k c d r w.0 w.1 x y) ∙ after-in k c d r changes x (changed_digest P k c d r w.0 w.1 y)

  module _ (c : List ℕ) (d : ℕ) (pos : 0 < d) (olds news : List (List ℕ)) where
    -- a row's older columns are those of the older blocks
    older : (a j q : ℕ) → a < d → q < columns_of d (length olds) (a + 1) → column_hash P c d (a + 1) j (olds ++ news) q ≡ column_hash P c d (a + 1) j olds q
    unfolding column_hash block_at block_in
    older a j q l i =
        let z : q * d + (a + 1) - 1 ≡ q * d + a = omega arith in
        rw z (ap (block_hash P c (index_of d q j)) (get_or-append olds news [] (q * d + a) (in_blocks d pos (length olds) a q l i)))

    row-both : (a j : ℕ) → a < d
        → row_digest P c d (a + 1) j (olds ++ news) ≡ xors (row_digest P c d (a + 1) j olds) (row_from P c d (a + 1) j (olds ++ news) (columns_of d (length olds) (a + 1)))
    unfolding row_digest row_from
    row-both a j l =
        let q = columns_of d (length olds) (a + 1) in
        let n = columns_of d (length (olds ++ news)) (a + 1) in
        let up : q ≤ n = columns-up d pos (length olds) (length (olds ++ news)) a (omega (arith, length-append olds news)) in
        let z : q + (n - q) ≡ n = omega arith in
        sym
        (ap (λ (x : List ℕ). xors x (xor_from (n - q) q (column_hash P c d (a + 1) j (olds ++ news))))
        (sym (xor-below-same (column_hash P c d (a + 1) j olds) (column_hash P c d (a + 1) j (olds ++ news)) q (λ p i. older a j p l i)))
        ∙ both_sums (column_hash P c d (a + 1) j (olds ++ news)) (length-column P c d (a + 1) j (olds ++ news)) (n - q) q
        ∙ ap (λ (m : ℕ). xor_below m (column_hash P c d (a + 1) j (olds ++ news))) z)

  module _ (k c : List ℕ) (d r : ℕ) (pos : 0 < d) (most : d ≤ 1048576) (fits : r ≤ d) (olds news : List (List ℕ)) where
    digest-both : digest P k c d r (olds ++ news) ≡ xors (digest P k c d r olds) (newer k c d r (length olds) (olds ++ news))
    unfolding digest drawn_row
    digest-both =
        xor-below-same _ _ r
        (λ j l. let z : j + 1 - 1 ≡ j = omega arith in
        row-both c d pos olds news (P.perm k d (j + 1 - 1)) (j + 1) (P.perm_below k d (j + 1 - 1) most (omega arith)))
        ∙ both_below _ _ r

    pub after-newer : (x : List ℕ) → length x ≡ 32
        → digest_after P k c d r (added_from (length olds + 1) news) x ≡ xors x (newer k c d r (length olds) (olds ++ news))
    after-newer x l =
        let old = digest P k c d r olds in
        let changes = added_from (length olds + 1) news in
        let long : length old ≡ 32 = length-digest P k c d r olds in
        let new = newer k c d r (length olds) (olds ++ news) in
        let after : digest_after P k c d r changes old ≡ xors old new =
        sym (digest-after P k c d r pos most fits changes olds (right-added (length olds + 1) news olds refl))
        ∙ ap (digest P k c d r) (applied-added (length olds + 1) news olds)
        ∙ digest-both in
        ap (digest_after P k c d r changes) (sym (xors-undo x old (omega arith)))
        ∙ after-in k c d r changes (xors x old) old
        ∙ ap (xors (xors x old)) after
        ∙ sym (xors-assoc (xors x old) old new)
        ∙ ap (λ (y : List ℕ). xors y new) (xors-undo x old (omega arith))

  module _ (k c : List ℕ) (d r : ℕ) (pos : 0 < d) (most : d ≤ 1048576) (fits : r ≤ d) (news : List (List ℕ)) where
    pub after-all : digest_after P k c d r (added_from 1 news) (replicate 32 0) ≡ digest P k c d r news
    unfolding digest drawn_row
    after-all =
        let none : digest P k c d r [] ≡ replicate 32 0 =
        zeros-below _ r (λ j l. row-empty P c d (P.perm k d (j + 1 - 1) + 1) (j + 1) [] pos (omega arith) (omega (arith, P.perm_below k d (j + 1 - 1) most (omega arith)))) in
        ap (digest_after P k c d r (added_from 1 news)) (sym none)
        ∙ sym (digest-after P k c d r pos most fits (added_from 1 news) [] (right-added 1 news [] refl))
        ∙ ap (digest P k c d r) (applied-added 1 news [])

  -- one block more is one column more in its row, and one hash more where a position draws that
  module _ (k : List ℕ) (d r : ℕ) (pos : 0 < d) (most : d ≤ 1048576) (fits : r ≤ d) where
    hashes-more : (n : ℕ) → digest_hashes P k d r (n + 1) ≡ digest_hashes P k d r n + cond (leb (position_of P k d (row_of d (n + 1))) r) 1 0
    unfolding digest_hashes drawn_row position_of row_of
    hashes-more n =
        let y : n + 1 - 1 ≡ n = omega arith in
        let z : n % d + 1 - 1 ≡ n % d = omega arith in
        let x : P.unperm k d (n % d) + 1 - 1 ≡ P.unperm k d (n % d) = omega arith in
        let m = more-here d pos n in
        rw (y, z)
        (sum-reached (λ i. columns_of d n (P.perm k d (i - 1) + 1)) (λ i. columns_of d (n + 1) (P.perm k d (i - 1) + 1)) (P.unperm k d (n % d) + 1) (omega arith)
        (rw (x, P.perm_unperm k d (n % d) most (mod-lt n pos)) (omega arith))
        r
        (λ i l h other. more-there d pos n (P.perm k d (i - 1)) (P.perm_below k d (i - 1) most (omega arith))
        (λ e. other (omega (arith, sym (P.unperm_perm k d (i - 1) most (omega arith)) ∙ ap (P.unperm k d) e)))))

    hashes-none : digest_hashes P k d r 0 ≤ r * 0
    unfolding digest_hashes drawn_row
    hashes-none =
        sum-most (λ j. columns_of d 0 (P.perm k d (j - 1) + 1)) r 1 0
        (λ j u v. omega (arith, row-beyond d pos 0 (P.perm k d (j - 1) + 1) (omega arith) (omega (arith, P.perm_below k d (j - 1) most (omega arith)))))

    pub hashes-newer : (n : ℕ) (news : List (List ℕ)) → digest_hashes P k d r (n + length news) ≡ digest_hashes P k d r n + token_hashes P k d r (added_from (n + 1) news)
    unfolding token_hashes added_from
    hashes-newer n [] = let z : n + 0 ≡ n = omega arith in rw z (omega arith)
    hashes-newer n (x ∷ news) =
        let z : n + suc (length news) ≡ n + 1 + length news = omega arith in
        rw z (omega (arith, hashes-newer (n + 1) news, hashes-more n))

    pub hashes-all : (news : List (List ℕ)) → token_hashes P k d r (added_from 1 news) ≡ digest_hashes P k d r (length news)
    hashes-all news =
        let z : 0 + length news ≡ length news = omega arith in
        omega (arith, hashes-newer 0 news, hashes-none, ap (digest_hashes P k d r) z)
