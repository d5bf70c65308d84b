-- Laws of tokens: what a change of a block does to a token, and what loops over columns and positions hold. Assumes nothing.
--   length-hash .. length-digest             32 bytes
--   row-from-none, row-from-step, row-from-all   the columns of a row from one up
--   row-empty                                a row beyond the blocks
--   length-after, after-append             a token keeps its length through a change; changes one after the other
--   digest-replaced, digest-added            the digest after a block is replaced or added
--   applied, Right, digest-after            the blocks after a change, what it hands over being right, and their digest
--   applied-added, right-added               blocks added one after the other
use Prim.Native.Nat.{ℕ, suc, ◌+◌, ◌*◌, ◌-◌, ◌/◌, ◌%◌, ◌≤◌, ◌<◌}
use native.Mathlib.Omega.{arith}
use native.Mathlib.Nat.{div-add-mod', mod-lt}
use mathlib.Core.Path.{◌≡◌, refl, sym, ap, ap₂, ◌∙◌}
use mathlib.Core.Logic.{◌≢◌}
use mathlib.Core.List.{List, [], ◌∷◌, ◌++◌, append_assoc, append-nil}
use mathlib.Core.Bool.{Bool, true, false, cond}
use borrow.Author.Tests.{leb-true, leb-false}
use lib.ListN.{length, get_or, set, replicate, length-set, length-append, get_or-append}
use lib.Seq.{get_or-set_same, get_or-set_other, get_or_at}
use lib.Dec.{leb}
use Rattle.octets.specs.Octets.{xors}
use Rattle.octets.proofs.XorLaws.{xors-comm, xors-assoc, xors-undo, length-xors}
use Rattle.scheme.specs.Lists.{xor_below}
use Rattle.scheme.specs.Primitives.{Primitives}
use Rattle.scheme.specs.Tokens.{row_of, column_of, block_in, columns_of, block_at, index_of, BlockChange, replaced, added, added_from, block_hash, column_hash, drawn_row}
use Rattle.scheme.specs.Tokens.{position_of, row_digest, row_from, digest, mixed, changed_digest, digest_after}
use Rattle.scheme.proofs.laws.SumLaws.{length-xor-below, xor-below-same, xor-below-change, xor-from-none, xor-from-step, xor-from-all}
use Rattle.scheme.proofs.laws.GeometryLaws.{in-column, in_blocks, row-beyond, more-here, more-there, only_row, only-column}

one-back : (a : ℕ) → a + 1 - 1 ≡ a
one-back a = omega arith

-- the blocks after a change: a block put under its number, or at the end
abbrev pub put_block : ℕ → BlockChange → List (List ℕ) → List (List ℕ)
put_block m (replaced old new) blocks = set blocks (m - 1) new
put_block m (added new) blocks = blocks ++ new ∷ []

abbrev pub applied : List (ℕ × BlockChange) → List (List ℕ) → List (List ℕ)
applied [] blocks = blocks
applied (w ∷ changes) blocks = applied changes (put_block w.0 w.1 blocks)

-- what is handed over is right: the number is a block's and the old bytes are its present ones, or the number is the next
abbrev pub RightOne : ℕ → BlockChange → List (List ℕ) → Type 0
RightOne m (replaced old new) blocks = (1 ≤ m) × (m ≤ length blocks) × (old ≡ block_at m blocks)
RightOne m (added new) blocks = m ≡ length blocks + 1

abbrev pub Right : List (ℕ × BlockChange) → List (List ℕ) → Type 0
Right [] blocks = Unit {0}
Right (w ∷ changes) blocks = RightOne w.0 w.1 blocks × Right changes (put_block w.0 w.1 blocks)

-- blocks added one after the other
pub applied-added : (m : ℕ) (news blocks : List (List ℕ)) → applied (added_from m news) blocks ≡ blocks ++ news
unfolding added_from
applied-added m [] blocks = sym (append-nil blocks)
applied-added m (x ∷ news) blocks = applied-added (m + 1) news (blocks ++ x ∷ []) ∙ append_assoc blocks (x ∷ []) news

pub right-added : (m : ℕ) (news blocks : List (List ℕ)) → m ≡ length blocks + 1 → Right (added_from m news) blocks
unfolding added_from
right-added m [] blocks e = tt
right-added m (x ∷ news) blocks e = (e, right-added (m + 1) news (blocks ++ x ∷ []) (omega (arith, length-append blocks (x ∷ []))))

module _ (P : Primitives) where
  -- 32 bytes
  pub length-hash : (c : List ℕ) (index : ℕ) (block : List ℕ) → length (block_hash P c index block) ≡ 32
  unfolding block_hash
  length-hash c index block = P.hash_long _

  pub length-column : (c : List ℕ) (d ρ j : ℕ) (blocks : List (List ℕ)) (q : ℕ) → length (column_hash P c d ρ j blocks q) ≡ 32
  unfolding column_hash
  length-column c d ρ j blocks q = length-hash c _ _

  pub length-row : (c : List ℕ) (d ρ j : ℕ) (blocks : List (List ℕ)) → length (row_digest P c d ρ j blocks) ≡ 32
  unfolding row_digest
  length-row c d ρ j blocks = length-xor-below (column_hash P c d ρ j blocks) (length-column c d ρ j blocks) (columns_of d (length blocks) ρ)

  pub length-digest : (k c : List ℕ) (d r : ℕ) (blocks : List (List ℕ)) → length (digest P k c d r blocks) ≡ 32
  unfolding digest
  length-digest k c d r blocks = length-xor-below _ (λ j. length-row c d _ _ blocks) r

  -- a token keeps its length
  module _ (c : List ℕ) (index : ℕ) where
    mixed-in : (x block : List ℕ) → length x ≡ 32 → length (xors x (block_hash P c index block)) ≡ 32
    mixed-in x block h = length-xors x (block_hash P c index block) (omega (arith, length-hash c index block)) ∙ h

    length-mixed : (ch : BlockChange) (x : List ℕ) → length x ≡ 32 → length (mixed P c index ch x) ≡ 32
    unfolding mixed
    length-mixed (replaced old new) x h = mixed-in (xors x (block_hash P c index old)) new (mixed-in x old h)
    length-mixed (added new) x h = mixed-in x new h

  length-changed : (k c : List ℕ) (d r m : ℕ) (ch : BlockChange) (x : List ℕ) → length x ≡ 32 → length (changed_digest P k c d r m ch x) ≡ 32
  unfolding changed_digest
  length-changed k c d r m ch x h = go (leb (position_of P k d (row_of d m)) r)
    where
      y : List ℕ
      y = mixed P c (index_of d (column_of d m) (position_of P k d (row_of d m))) ch x

      go : (b : Bool) → length (cond b y x) ≡ 32
      go true = length-mixed c (index_of d (column_of d m) (position_of P k d (row_of d m))) ch x h
      go false = h

  pub length-after : (k c : List ℕ) (d r : ℕ) (changes : List (ℕ × BlockChange)) (x : List ℕ) → length x ≡ 32 → length (digest_after P k c d r changes x) ≡ 32
  unfolding digest_after
  length-after k c d r [] x h = h
  length-after k c d r (w ∷ changes) x h =
      length-after k c d r changes (changed_digest P k c d r w.0 w.1 x) (length-changed k c d r w.0 w.1 x h)

  pub after-append : (k c : List ℕ) (d r : ℕ) (changes more : List (ℕ × BlockChange)) (x : List ℕ)
      → digest_after P k c d r (changes ++ more) x ≡ digest_after P k c d r more (digest_after P k c d r changes x)
  unfolding digest_after
  after-append k c d r [] more x = refl
  after-append k c d r (w ∷ changes) more x = after-append k c d r changes more (changed_digest P k c d r w.0 w.1 x)

  module _ (c : List ℕ) (d ρ j : ℕ) (blocks : List (List ℕ)) where
    pub row-from-none : row_from P c d ρ j blocks (columns_of d (length blocks) ρ) ≡ replicate 32 0
    unfolding row_from
    row-from-none = xor-from-none (column_hash P c d ρ j blocks) (columns_of d (length blocks) ρ) (columns_of d (length blocks) ρ) (omega arith)

    -- from q up it is that from q + 1 up with column q's hash
    pub row-from-step : (q : ℕ) → q < columns_of d (length blocks) ρ
        → row_from P c d ρ j blocks q ≡ xors (row_from P c d ρ j blocks (q + 1)) (column_hash P c d ρ j blocks q)
    unfolding row_from
    row-from-step q h = xor-from-step (column_hash P c d ρ j blocks) (columns_of d (length blocks) ρ) q h

    pub row-from-all : row_from P c d ρ j blocks 0 ≡ row_digest P c d ρ j blocks
    unfolding row_from row_digest
    row-from-all =
        let z : columns_of d (length blocks) ρ - 0 ≡ columns_of d (length blocks) ρ = omega arith in
        rw z (xor-from-all (column_hash P c d ρ j blocks) (length-column c d ρ j blocks) (columns_of d (length blocks) ρ))

  -- "rows beyond n are empty and add nothing"
  pub row-empty : (c : List ℕ) (d ρ j : ℕ) (blocks : List (List ℕ)) → 0 < d → length blocks < ρ → ρ ≤ d → row_digest P c d ρ j blocks ≡ replicate 32 0
  unfolding row_digest xor_below
  row-empty c d ρ j blocks pos h l = rw (row-beyond d pos (length blocks) ρ h l)

  -- a row's digest over numbers from 0
  abbrev row_sum : List ℕ → ℕ → ℕ → ℕ → ℕ → List (List ℕ) → List ℕ
  row_sum c d n a j blocks = xor_below (columns_of d n (a + 1)) (λ q. block_hash P c (index_of d q j) (get_or blocks (q * d + a) []))

  row-sum : (c : List ℕ) (d n a j : ℕ) (blocks : List (List ℕ)) → length blocks ≡ n → row_digest P c d (a + 1) j blocks ≡ row_sum c d n a j blocks
  unfolding row_digest column_hash block_at block_in
  row-sum c d n a j blocks e =
      rw e (xor-below-same (λ q. block_hash P c (index_of d q j) (get_or blocks (q * d + a) [])) _ (columns_of d n (a + 1))
      (λ q l. let z : q * d + (a + 1) - 1 ≡ q * d + a = omega arith in rw z))

  module _ (c : List ℕ) (d j : ℕ) (pos : 0 < d) (blocks : List (List ℕ)) (m : ℕ) (new : List ℕ) where
    -- a block is replaced: another row keeps its digest
    set_there : (a : ℕ) → a < d → a ≢ m % d → row_digest P c d (a + 1) j (set blocks m new) ≡ row_digest P c d (a + 1) j blocks
    set_there a l h =
        row-sum c d (length blocks) a j (set blocks m new) (length-set blocks m new)
        ∙ xor-below-same _ _ (columns_of d (length blocks) (a + 1))
        (λ q i. ap (block_hash P c (index_of d q j)) (get_or-set_other blocks m (q * d + a) new [] (λ e. h (only_row d pos a q m l e))))
        ∙ sym (row-sum c d (length blocks) a j blocks refl)

    -- its own row's digest is xored with the two hashes
    set_here : (old : List ℕ) → m < length blocks → old ≡ get_or blocks m []
        → row_digest P c d (m % d + 1) j (set blocks m new)
        ≡ xors (row_digest P c d (m % d + 1) j blocks) (xors (block_hash P c (index_of d (m / d) j) old) (block_hash P c (index_of d (m / d) j) new))
    set_here old h o =
        let a = m % d in
        let x = index_of d (m / d) j in
        let e : m / d * d + m % d ≡ m = div-add-mod' m d in
        let same : get_or (set blocks m new) (m / d * d + m % d) [] ≡ new = rw e (get_or-set_same blocks m new [] h) in
        let was : get_or blocks (m / d * d + m % d) [] ≡ old = rw (e, o) in
        let long : length (block_hash P c x new) ≤ length (block_hash P c x old) = omega (arith, length-hash c x new, length-hash c x old) in
        row-sum c d (length blocks) a j (set blocks m new) (length-set blocks m new)
        ∙ xor-below-change _ _ (columns_of d (length blocks) (a + 1)) (m / d) (xors (block_hash P c x old) (block_hash P c x new)) (in-column d pos (length blocks) m h)
        (λ q i ne. ap (block_hash P c (index_of d q j)) (get_or-set_other blocks m (q * d + a) new [] (λ z. ne (only-column d pos a q m (mod-lt m pos) z))))
        (rw (same, was) (sym (xors-comm _ _ ∙ ap (λ (y : List ℕ). xors y (block_hash P c x old)) (xors-comm _ _) ∙ xors-undo (block_hash P c x new) (block_hash P c x old) long)))
        ∙ ap (λ (y : List ℕ). xors y (xors (block_hash P c x old) (block_hash P c x new))) (sym (row-sum c d (length blocks) a j blocks refl))

  module _ (c : List ℕ) (d j : ℕ) (pos : 0 < d) (blocks : List (List ℕ)) (new : List ℕ) where
    longer : length (blocks ++ new ∷ []) ≡ length blocks + 1
    longer = length-append blocks (new ∷ [])

    kept : (a q : ℕ) → a < d → q < columns_of d (length blocks) (a + 1) → get_or (blocks ++ new ∷ []) (q * d + a) [] ≡ get_or blocks (q * d + a) []
    kept a q l i = get_or-append blocks (new ∷ []) [] (q * d + a) (in_blocks d pos (length blocks) a q l i)

    -- a block is appended: another row keeps its digest
    add-there : (a : ℕ) → a < d → a ≢ length blocks % d → row_digest P c d (a + 1) j (blocks ++ new ∷ []) ≡ row_digest P c d (a + 1) j blocks
    add-there a l h =
        row-sum c d (length blocks + 1) a j (blocks ++ new ∷ []) longer
        ∙ ap (λ (x : ℕ). xor_below x (λ q. block_hash P c (index_of d q j) (get_or (blocks ++ new ∷ []) (q * d + a) []))) (more-there d pos (length blocks) a l h)
        ∙ xor-below-same _ _ (columns_of d (length blocks) (a + 1)) (λ q i. ap (block_hash P c (index_of d q j)) (kept a q l i))
        ∙ sym (row-sum c d (length blocks) a j blocks refl)

    -- its own row's digest is xored with the new hash
    add-here : row_digest P c d (length blocks % d + 1) j (blocks ++ new ∷ [])
        ≡ xors (row_digest P c d (length blocks % d + 1) j blocks) (block_hash P c (index_of d (length blocks / d) j) new)
    unfolding xor_below
    add-here =
        let n = length blocks in
        let a = n % d in
        let f : ℕ → List ℕ = λ q. block_hash P c (index_of d q j) (get_or (blocks ++ new ∷ []) (q * d + a) []) in
        let e : n / d * d + n % d ≡ n = div-add-mod' n d in
        let last : get_or (blocks ++ new ∷ []) (n / d * d + n % d) [] ≡ new = rw e (get_or_at blocks new [] [] n refl) in
        let count = more-here d pos n in
        let up : n / d + 1 ≡ suc (n / d) = omega arith in
        row-sum c d (n + 1) a j (blocks ++ new ∷ []) longer
        ∙ ap (λ (x : ℕ). xor_below x f) (count.1 ∙ up)
        ∙ ap₂ xors
        (ap (λ (x : ℕ). xor_below x f) (sym count.0)
        ∙ xor-below-same _ _ (columns_of d n (a + 1)) (λ q i. ap (block_hash P c (index_of d q j)) (kept a q (mod-lt n pos) i))
        ∙ sym (row-sum c d n a j blocks refl))
        (ap (block_hash P c (index_of d (n / d) j)) last)

  -- a digest whose one row a changes by x at the position that draws it, and whose other rows stay
  module _ (k c : List ℕ) (d r a : ℕ) (blocks after : List (List ℕ)) (most : d ≤ 1048576) (fits : r ≤ d) (low : a < d) (x : ℕ → List ℕ)
      (there : (j b : ℕ) → b < d → b ≢ a → row_digest P c d (b + 1) j after ≡ row_digest P c d (b + 1) j blocks)
      (here : (j : ℕ) → row_digest P c d (a + 1) j after ≡ xors (row_digest P c d (a + 1) j blocks) (x j)) where
    drawn : (j : ℕ) → drawn_row P k d (j + 1) ≡ P.perm k d j + 1
    unfolding drawn_row
    drawn j = rw (one-back j)

    other : (j : ℕ) → j < r → j ≢ P.unperm k d a → row_digest P c d (drawn_row P k d (j + 1)) (j + 1) after ≡ row_digest P c d (drawn_row P k d (j + 1)) (j + 1) blocks
    other j l h =
        rw (drawn j)
        (there (j + 1) (P.perm k d j) (P.perm_below k d j most (omega arith)) (λ e. h (sym (P.unperm_perm k d j most (omega arith)) ∙ ap (P.unperm k d) e)))

    pub covered : P.unperm k d a < r → digest P k c d r after ≡ xors (digest P k c d r blocks) (x (P.unperm k d a + 1))
    unfolding digest
    covered l =
        let j = P.unperm k d a in
        let e : drawn_row P k d (j + 1) ≡ a + 1 = drawn j ∙ ap (λ (y : ℕ). y + 1) (P.perm_unperm k d a most low) in
        xor-below-change _ _ r j (x (j + 1)) l (λ i h. other i h) (rw e (here (j + 1)))

    pub uncovered : r ≤ P.unperm k d a → digest P k c d r after ≡ digest P k c d r blocks
    unfolding digest
    uncovered l = xor-below-same _ _ r (λ i h. other i h (omega arith))

    -- both in one
    pub either : (y : List ℕ → List ℕ) → ((s : List ℕ) → xors s (x (P.unperm k d a + 1)) ≡ y s)
        → digest P k c d r after ≡ cond (leb (P.unperm k d a + 1) r) (y (digest P k c d r blocks)) (digest P k c d r blocks)
    either y h = go (leb (P.unperm k d a + 1) r) refl
      where
        go : (b : Bool) → leb (P.unperm k d a + 1) r ≡ b → digest P k c d r after ≡ cond b (y (digest P k c d r blocks)) (digest P k c d r blocks)
        go true t = covered (omega (arith, leb-true (P.unperm k d a + 1) r t)) ∙ h (digest P k c d r blocks)
        go false t = uncovered (omega (arith, leb-false (P.unperm k d a + 1) r t))

  module _ (k c : List ℕ) (d r : ℕ) (blocks : List (List ℕ)) (pos : 0 < d) (most : d ≤ 1048576) (fits : r ≤ d) where
    -- the update law
    pub digest-replaced : (m : ℕ) (old new : List ℕ) → 1 ≤ m → m ≤ length blocks → old ≡ block_at m blocks
        → digest P k c d r (set blocks (m - 1) new) ≡ changed_digest P k c d r m (replaced old new) (digest P k c d r blocks)
    unfolding changed_digest mixed position_of row_of column_of block_at
    digest-replaced m old new l h o =
        let a = (m - 1) % d in
        let x : ℕ → List ℕ = λ j. xors (block_hash P c (index_of d ((m - 1) / d) j) old) (block_hash P c (index_of d ((m - 1) / d) j) new) in
        let i = index_of d ((m - 1) / d) (P.unperm k d a + 1) in
        let z : a + 1 - 1 ≡ a = omega arith in
        rw z
        (either k c d r a blocks (set blocks (m - 1) new) most fits (mod-lt (m - 1) pos) x
        (λ j b i n. set_there c d j pos blocks (m - 1) new b i n)
        (λ j. set_here c d j pos blocks (m - 1) new old (omega arith) o)
        (λ s. xors (xors s (block_hash P c i old)) (block_hash P c i new))
        (λ s. sym (xors-assoc s (block_hash P c i old) (block_hash P c i new))))

    -- the append law
    pub digest-added : (new : List ℕ)
        → digest P k c d r (blocks ++ new ∷ []) ≡ changed_digest P k c d r (length blocks + 1) (added new) (digest P k c d r blocks)
    unfolding changed_digest mixed position_of row_of column_of
    digest-added new =
        let n = length blocks in
        let z : n % d + 1 - 1 ≡ n % d = omega arith in
        let y : n + 1 - 1 ≡ n = omega arith in
        rw (y, z)
        (either k c d r (n % d) blocks (blocks ++ new ∷ []) most fits (mod-lt n pos) (λ j. block_hash P c (index_of d (n / d) j) new)
        (λ j b i n. add-there c d j pos blocks new b i n)
        (λ j. add-here c d j pos blocks new)
        (λ s. xors s (block_hash P c (index_of d (n / d) (P.unperm k d (n % d) + 1)) new))
        (λ s. refl))

  -- the law of a change: block after block
  module _ (k c : List ℕ) (d r : ℕ) (pos : 0 < d) (most : d ≤ 1048576) (fits : r ≤ d) where
    digest-put : (m : ℕ) (ch : BlockChange) (blocks : List (List ℕ)) → RightOne m ch blocks
        → digest P k c d r (put_block m ch blocks) ≡ changed_digest P k c d r m ch (digest P k c d r blocks)
    digest-put m (replaced old new) blocks h = digest-replaced k c d r blocks pos most fits m old new h.0 h.1 h.2
    digest-put m (added new) blocks h =
        digest-added k c d r blocks pos most fits new ∙ ap (λ (x : ℕ). changed_digest P k c d r x (added new) (digest P k c d r blocks)) (sym h)

    pub digest-after : (changes : List (ℕ × BlockChange)) (blocks : List (List ℕ)) → Right changes blocks
        → digest P k c d r (applied changes blocks) ≡ digest_after P k c d r changes (digest P k c d r blocks)
    unfolding digest_after
    digest-after [] blocks h = refl
    digest-after (w ∷ changes) blocks h =
        digest-after changes (put_block w.0 w.1 blocks) h.1
        ∙ ap (digest_after P k c d r changes) (digest-put w.0 w.1 blocks h.0)
