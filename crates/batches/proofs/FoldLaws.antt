-- What is asked of every item of a batch, in a loop from its front: what is left to ask. Assumes nothing.
--   items_left                               the items from one on
--   all-listed, all-each               a test of every item, from those of each; where it holds, that of each
--   kinds-none, kinds-more .. numbers_more     of the kinds, of the marks, of the numbers
--   rise-begun, rise-failed, rise-next, rise-done    numbers that rise
--   code-kinds .. code-none            the code of items from their tests
--   batch-uneven .. batch-items        the code of a batch from its length, and from its items
use Prim.Native.Nat.{ℕ, zero, suc, ◌+◌, ◌*◌, ◌-◌, ◌/◌, ◌%◌, ◌≤◌, ◌<◌}
use native.Mathlib.Omega.{arith}
use native.Mathlib.Nat.{zero-mul}
use native.Mathlib.Numerals.{add-one}
use mathlib.Core.Path.{◌≡◌, refl, sym, ap, ap₂, ◌∙◌}
use mathlib.Core.List.{List, [], ◌∷◌}
use mathlib.Core.Bool.{Bool, true, false, ◌&&◌}
use borrow.Author.Tests.{lt-ltb, le-ltb}
use lib.Dec.{eqb, ltb}
use lib.ListN.{length, drop}
use Rattle.std.specs.List.{range_with_len, list_all}
use Rattle.scheme.specs.Checks.{first, within}
use Rattle.scheme.specs.Batches.{Item, item_size, items_from, items_of, kinds_fit, rising_from, rising, batch_fits, item_marks_fit, numbers_fit}
use Rattle.scheme.specs.Marks.{marks_fit}
use Rattle.scheme.proofs.laws.CheckLaws.{both}
use Rattle.scheme.proofs.laws.LoopLaws.{items-step}
use Rattle.cards.specs.Fields.{card_of}
use Rattle.cards.specs.declared.Card.{Card}
use Rattle.batches.specs.Items.{item_in, item_checks, batch_checks}

abbrev pub items_left : ℕ → ℕ → ℕ → ℕ → List ℕ → List Item
items_left v B k e items = items_from v B (k - e) (drop (e * item_size v B) items)

module _ (v B k : ℕ) (items : List ℕ) where
  left-all : items_left v B k 0 items ≡ items_from v B k items
  left-all =
      let z : k - 0 ≡ k = omega arith in
      ap₂ (λ (n a : ℕ). items_from v B n (drop a items)) z (zero-mul (item_size v B))

  left-none : (e : ℕ) → k ≤ e → items_left v B k e items ≡ []
  unfolding items_from
  left-none e h = let z : k - e ≡ 0 = omega arith in rw z

  -- a test p of every item, by a definition that recurses from the front
  module _ (p : Item → Bool) (all : List Item → Bool) (none : all [] ≡ true) (more : (x : Item) (xs : List Item) → all (x ∷ xs) ≡ (p x && all xs)) where
    pub all-begun : all (items_from v B k items) ≡ all (items_left v B k 0 items)
    all-begun = ap all (sym left-all)

    step : (e : ℕ) → e < k → all (items_left v B k e items) ≡ (p (item_in v B e items) && all (items_left v B k (e + 1) items))
    step e h = ap all (items-step v B k e items h) ∙ more (item_in v B e items) (items_left v B k (e + 1) items)

    all_from : (e : ℕ) → e ≤ k → all (items_from v B k items) ≡ true → all (items_left v B k e items) ≡ true
    all_from zero h f = sym all-begun ∙ f
    all_from (suc e) h f =
        ap (λ (i : ℕ). all (items_left v B k i items)) (sym (add-one e))
        ∙ (both (p (item_in v B e items)) (all (items_left v B k (e + 1) items)) (sym (step e (omega arith)) ∙ all_from e (omega arith) f)).1

    pub all-each : (e : ℕ) → e < k → all (items_from v B k items) ≡ true → p (item_in v B e items) ≡ true
    all-each e h f = (both (p (item_in v B e items)) (all (items_left v B k (e + 1) items)) (sym (step e h) ∙ all_from e (omega arith) f)).0

    pub all_done : (e : ℕ) → k ≤ e → all (items_left v B k e items) ≡ true
    all_done e h = ap all (left-none e h) ∙ none

    listed_from : (n e : ℕ) → e + n ≡ k → list_all (λ (i : ℕ). p (item_in v B i items)) (range_with_len e n) ≡ all (items_left v B k e items)
    listed_from zero e h = sym (all_done e (omega arith))
    listed_from (suc n) e h =
        ap (λ (b : Bool). p (item_in v B e items) && b) (listed_from n (e + 1) (omega arith)) ∙ sym (step e (omega arith))

    pub all-listed : list_all (λ (i : ℕ). p (item_in v B i items)) (range_with_len 0 k) ≡ all (items_from v B k items)
    all-listed = listed_from k 0 (omega arith) ∙ sym all-begun

  pub rise-begun : 1 ≤ k → rising (items_from v B k items) ≡ rising_from (item_in v B 0 items).number (items_left v B k 1 items)
  unfolding rising
  rise-begun h = ap rising (sym left-all ∙ items-step v B k 0 items (omega arith))

  module _ (e last : ℕ) where
    rise-step : e < k → rising_from last (items_left v B k e items) ≡ (ltb last (item_in v B e items).number && rising_from (item_in v B e items).number (items_left v B k (e + 1) items))
    unfolding rising_from
    rise-step h = ap (rising_from last) (items-step v B k e items h)

    pub rise-failed : e < k → (item_in v B e items).number ≤ last → rising_from last (items_left v B k e items) ≡ false
    rise-failed h l =
        rise-step h ∙ ap (λ (b : Bool). b && rising_from (item_in v B e items).number (items_left v B k (e + 1) items)) (le-ltb last (item_in v B e items).number l)

    pub rise-next : e < k → last < (item_in v B e items).number → rising_from last (items_left v B k e items) ≡ rising_from (item_in v B e items).number (items_left v B k (e + 1) items)
    rise-next h l =
        rise-step h ∙ ap (λ (b : Bool). b && rising_from (item_in v B e items).number (items_left v B k (e + 1) items)) (lt-ltb last (item_in v B e items).number l)

    pub rise-done : k ≤ e → rising_from last (items_left v B k e items) ≡ true
    unfolding rising_from
    rise-done h = ap (rising_from last) (left-none e h)

abbrev pub kind_fits : Item → Bool
kind_fits x = within 1 2 x.kind

pub kinds-more : (x : Item) (xs : List Item) → kinds_fit (x ∷ xs) ≡ (kind_fits x && kinds_fit xs)
unfolding kinds_fit
kinds-more x xs = refl

pub kinds-none : kinds_fit [] ≡ true
unfolding kinds_fit
kinds-none = refl

abbrev pub mark_fits : Item → Bool
mark_fits x = marks_fit x.mark

pub marks-more : (x : Item) (xs : List Item) → item_marks_fit (x ∷ xs) ≡ (mark_fits x && item_marks_fit xs)
unfolding item_marks_fit
marks-more x xs = refl

pub marks-none : item_marks_fit [] ≡ true
unfolding item_marks_fit
marks-none = refl

abbrev pub number_fits : ℕ → Item → Bool
number_fits n x = within 1 n x.number

pub numbers_more : (n : ℕ) (x : Item) (xs : List Item) → numbers_fit n (x ∷ xs) ≡ (number_fits n x && numbers_fit n xs)
unfolding numbers_fit
numbers_more n x xs = refl

pub numbers-none : (n : ℕ) → numbers_fit n [] ≡ true
unfolding numbers_fit
numbers-none n = refl

-- the code of items from the tests of them
module _ (kinds rise low numbers : Bool) where
  abbrev code : ℕ
  code = first 0 ((kinds && rise, 14) ∷ (low, 15) ∷ (numbers, 4) ∷ [])

  pub code-kinds : kinds ≡ false → 14 ≡ code
  unfolding first
  code-kinds f = rw f

  pub code-rise : kinds ≡ true → rise ≡ false → 14 ≡ code
  unfolding first
  code-rise k f = rw (k, f)

  pub code-marks : kinds ≡ true → rise ≡ true → low ≡ false → 15 ≡ code
  unfolding first
  code-marks k r f = rw (k, r, f)

  pub code-numbers : kinds ≡ true → rise ≡ true → low ≡ true → numbers ≡ false → 4 ≡ code
  unfolding first
  code-numbers k r l f = rw (k, r, l, f)

  pub code-none : kinds ≡ true → rise ≡ true → low ≡ true → numbers ≡ true → 0 ≡ code
  unfolding first
  code-none k r l n = rw (k, r, l, n)

-- the code of a batch from its length
module _ (c : Card) (items : List ℕ) where
  abbrev size : ℕ
  size = item_size c.version c.block_bytes

  pub batch-uneven : eqb (length items % size) 0 ≡ false → 14 ≡ first 0 (batch_checks (card_of c) items)
  unfolding first batch_fits card_of
  batch-uneven f = rw f

  module _ (even : eqb (length items % size) 0 ≡ true) where
    pub batch-count : within 1 64 (length items / size) ≡ false → 14 ≡ first 0 (batch_checks (card_of c) items)
    unfolding first batch_fits card_of
    batch-count f = rw (even, f)

    pub batch-items : (k : ℕ) → k ≡ length items / size → within 1 64 k ≡ true
        → first 0 (item_checks c.blocks (items_from c.version c.block_bytes k items)) ≡ first 0 (batch_checks (card_of c) items)
    unfolding first batch_fits items_of card_of
    batch-items k ek f = rw (even, ← ek, f)
