-- The items of a batch: what they put is of B bytes, and what they hand over stays right while they are carried out. Assumes nothing.
--   FormedItems, FitBatch, batch-has   the contents that items put; what a batch that fits has
--   corrected-applied                  the book carries out what the batch's changes say
--   corrected-formed, corrected-long   the blocks after a batch
--   right-batch                        with rising numbers, bytes that are present before the batch are present at their item
use Prim.Native.Nat.{ℕ, zero, suc, ◌+◌, ◌*◌, ◌-◌, ◌/◌, ◌%◌, ◌≤◌, ◌<◌}
use native.Mathlib.Omega.{arith}
use native.Mathlib.Nat.{div-add-mod'}
use mathlib.Core.Path.{◌≡◌, refl, sym, ap, ◌∙◌}
use mathlib.Core.List.{List, [], ◌∷◌}
use mathlib.Core.Bool.{Bool, true, false, cond, ◌&&◌}
use borrow.Author.Tests.{eqb-true, ltb-true}
use lib.ListN.{length, set, drop, length-set, length-replicate, length-drop}
use lib.Seq.{get_or-set_other}
use lib.Dec.{eqb, ltb}
use Rattle.octets.proofs.PartLaws.{length_part}
use Rattle.scheme.specs.Checks.{within}
use Rattle.scheme.specs.Marks.{marks_in}
use Rattle.scheme.specs.Records.{Card}
use Rattle.scheme.specs.Tokens.{block_at}
use Rattle.scheme.specs.Batches.{Item, item_size, read_item, items_from, items_of, kinds_fit, rising_from, rising, batch_fits, numbers_fit, item_block, batch_changes}
use Rattle.scheme.specs.Book.{corrected, PresentAll}
use Rattle.scheme.proofs.laws.CheckLaws.{both, within-true}
use Rattle.scheme.proofs.laws.TokenLaws.{applied, Right}
use Rattle.scheme.proofs.laws.TableLaws.{one_more, All, all_set}
use Rattle.scheme.proofs.laws.MarkLaws.{Formed, live-formed, deleted-formed}

-- what items put under their numbers are contents of B bytes
abbrev pub FormedItems : ℕ → ℕ → List Item → Type 0
FormedItems v B [] = Unit {0}
FormedItems v B (x ∷ xs) = Formed v B (item_block v B x) × FormedItems v B xs

module _ (v B : ℕ) where
  either : (k : Bool) (x y : List ℕ) → Formed v B x → Formed v B y → Formed v B (cond k x y)
  either true x y h g = h
  either false x y h g = g

  block-formed : (x : Item) → length x.new ≡ B → Formed v B (item_block v B x)
  unfolding item_block
  block-formed x h = either (eqb x.kind 1) _ _ (live-formed v B x.new h) (deleted-formed v B _ (length-replicate B _))

  new-sized : (xs : List ℕ) → item_size v B ≤ length xs → length (read_item v B xs).new ≡ B
  unfolding item_size read_item
  new-sized xs h = length_part (5 + B + marks_in v) B xs (omega arith)

  items-formed : (k : ℕ) (xs : List ℕ) → length xs ≡ k * item_size v B → FormedItems v B (items_from v B k xs)
  unfolding items_from
  items-formed zero xs h = tt
  items-formed (suc k) xs h =
      let e = one_more k (item_size v B) in
      (block-formed (read_item v B xs) (new-sized xs (omega arith)), items-formed k (drop (item_size v B) xs) (length-drop (item_size v B) xs ∙ omega arith))

  pub corrected-applied : (xs : List Item) (blocks : List (List ℕ)) → corrected v B xs blocks ≡ applied (batch_changes v B xs) blocks
  unfolding corrected batch_changes
  corrected-applied [] blocks = refl
  corrected-applied (x ∷ xs) blocks = corrected-applied xs (set blocks (x.number - 1) (item_block v B x))

  pub corrected-long : (xs : List Item) (blocks : List (List ℕ)) → length (corrected v B xs blocks) ≡ length blocks
  unfolding corrected
  corrected-long [] blocks = refl
  corrected-long (x ∷ xs) blocks =
      corrected-long xs (set blocks (x.number - 1) (item_block v B x)) ∙ length-set blocks (x.number - 1) (item_block v B x)

  pub corrected-formed : (xs : List Item) (blocks : List (List ℕ)) → FormedItems v B xs → All (Formed v B) blocks → All (Formed v B) (corrected v B xs blocks)
  unfolding corrected
  corrected-formed [] blocks h s = s
  corrected-formed (x ∷ xs) blocks h s =
      corrected-formed xs (set blocks (x.number - 1) (item_block v B x)) h.1 (all_set (Formed v B) (x.number - 1) blocks (item_block v B x) h.0 s)

  -- items above m do not see a block put under m
  kept_above : (m k : ℕ) (xs : List Item) (blocks : List (List ℕ)) (new : List ℕ) → 1 ≤ m → m ≤ k → rising_from k xs ≡ true
      → PresentAll xs blocks → PresentAll xs (set blocks (m - 1) new)
  unfolding rising_from block_at
  kept_above m k [] blocks new l h r p = tt
  kept_above m k (x ∷ xs) blocks new l h r p =
      let q = both (ltb k x.number) (rising_from x.number xs) r in
      let u : k < x.number = ltb-true k x.number q.0 in (
        p.0 ∙ sym (get_or-set_other blocks (m - 1) (x.number - 1) new [] (λ e. omega arith)),
        kept_above m x.number xs blocks new l (omega arith) q.1 p.1,
      )

  -- the later items rise above the first
  later : (m : ℕ) (xs : List Item) → rising_from m xs ≡ true → rising xs ≡ true
  unfolding rising_from rising
  later m [] h = refl
  later m (x ∷ xs) h = (both (ltb m x.number) (rising_from x.number xs) h).1

  pub right-batch : (xs : List Item) (blocks : List (List ℕ)) (n : ℕ) → length blocks ≡ n → rising xs ≡ true → numbers_fit n xs ≡ true
      → PresentAll xs blocks → Right (batch_changes v B xs) blocks
  unfolding batch_changes numbers_fit rising
  right-batch [] blocks n e r f p = tt
  right-batch (x ∷ xs) blocks n e r f p =
      let q = both (within 1 n x.number) (numbers_fit n xs) f in
      let w = within-true 1 n x.number q.0 in
      let next = set blocks (x.number - 1) (item_block v B x) in (
        (w.0, omega arith, p.0),
        right-batch xs next n (length-set blocks (x.number - 1) (item_block v B x) ∙ e) (later x.number xs r) q.1
            (kept_above x.number x.number xs blocks (item_block v B x) w.0 (omega arith) r p.1),
      )

items-many : (v B k : ℕ) (xs : List ℕ) → length (items_from v B k xs) ≡ k
unfolding items_from
items-many v B zero xs = refl
items-many v B (suc k) xs = ap suc (items-many v B k (drop (item_size v B) xs))

-- a batch that is not turned away with 14
pub record FitBatch (c : Card) (items : List ℕ) : Type 0 where
  pub some : 1 ≤ length (items_of c items)
  pub most : length (items_of c items) ≤ 64
  pub formed : FormedItems c.version c.B (items_of c items)
  pub rises : rising (items_of c items) ≡ true

pub batch-has : (c : Card) (items : List ℕ) → batch_fits c items ≡ true → FitBatch c items
unfolding batch_fits items_of
batch-has c items h =
    let size = item_size c.version c.B in
    let k = length items / size in
    let p₁ = both (eqb (length items % size) 0 && within 1 64 k && kinds_fit (items_from c.version c.B k items)) (rising (items_from c.version c.B k items)) h in
    let p₂ = both (eqb (length items % size) 0 && within 1 64 k) (kinds_fit (items_from c.version c.B k items)) p₁.0 in
    let p₃ = both (eqb (length items % size) 0) (within 1 64 k) p₂.0 in
    let long : length items ≡ k * size = omega (arith, div-add-mod' (length items) size, eqb-true (length items % size) 0 p₃.0) in
    record {
      some = omega (arith, (within-true 1 64 k p₃.1).0, items-many c.version c.B k items);
      most = omega (arith, (within-true 1 64 k p₃.1).1, items-many c.version c.B k items);
      formed = items-formed c.version c.B k items long;
      rises = p₁.1;
    }
