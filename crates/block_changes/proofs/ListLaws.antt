-- The list of all block changes of a call. Assumes nothing.
--   items-same         the same change at every place
--   items-added        blocks added one after the other, each with the same mark
--   items-listed       the items of a batch
use Prim.Native.Nat.{ℕ, zero, suc, ◌+◌, ◌*◌}
use native.Mathlib.Omega.{arith}
use native.Mathlib.Nat.{zero-mul, suc-mul}
use mathlib.Core.Path.{◌≡◌, refl, sym, ap, ap₂, ◌∙◌}
use mathlib.Core.List.{List, [], ◌∷◌, ◌++◌}
use lib.ListN.{length, take, drop}
use lib.Seq.{drop-drop}
use Rattle.octets.specs.Octets.{part}
use Rattle.scheme.specs.Marks.{alike}
use Rattle.scheme.specs.Batches.{Item, item_size, read_item, items_from, item_block, batch_changes}
use Rattle.scheme.specs.Lists.{pieces}
use Rattle.scheme.specs.Tokens.{BlockChange, replaced, added, added_from}
use Rattle.scheme.proofs.laws.MarkLaws.{alike-long}
use Rattle.scheme.proofs.laws.TableLaws.{pieces-length}
use Rattle.batches.specs.Items.{item_in}
use Rattle.block_changes.specs.BlockChanges.{items_below}

pub items-same : (f g : ℕ → ℕ × BlockChange) → ((e : ℕ) → f e ≡ g e) → (n : ℕ) → items_below n f ≡ items_below n g
unfolding items_below
items-same f g h zero = refl
items-same f g h (suc n) = ap₂ (λ (xs : List (ℕ × BlockChange)) (x : ℕ × BlockChange). xs ++ (x ∷ [])) (items-same f g h n) (h n)

-- blocks added one after the other
pieces_more : (B n : ℕ) (xs : List ℕ) → pieces B (suc n) xs ≡ pieces B n xs ++ (part (n * B) B xs ∷ [])
unfolding pieces
pieces_more B zero xs = let z : 0 * B ≡ 0 = omega arith in rw z
pieces_more B (suc n) xs =
    ap (λ (l : List (List ℕ)). take B xs ∷ l) (pieces_more B n (drop B xs))
    ∙ ap (λ (u : List ℕ). take B xs ∷ (pieces B n (drop B xs) ++ (take B u ∷ [])))
    (drop-drop (n * B) B xs ∙ ap (λ (k : ℕ). drop k xs) (there n))
  where
    there : (n : ℕ) → B + n * B ≡ suc n * B
    there n = omega (arith, suc-mul n B)

added_more : (m : ℕ) (ys : List (List ℕ)) (y : List ℕ) → added_from m (ys ++ (y ∷ [])) ≡ added_from m ys ++ ((m + length ys, added y) ∷ [])
unfolding added_from
added_more m [] y = let z : m ≡ m + 0 = omega arith in ap (λ (k : ℕ). (k, added y) ∷ []) z
added_more m (x ∷ ys) y =
    let z : m + 1 + length ys ≡ m + suc (length ys) = omega arith in
    ap (λ (l : List (ℕ × BlockChange)). (m, added x) ∷ l) (added_more (m + 1) ys y ∙ ap (λ (k : ℕ). added_from (m + 1) ys ++ ((k, added y) ∷ [])) z)

alike-more : (m : List ℕ) (ys : List (List ℕ)) (y : List ℕ) → alike m (ys ++ (y ∷ [])) ≡ alike m ys ++ ((m ++ y) ∷ [])
unfolding alike
alike-more m [] y = refl
alike-more m (x ∷ ys) y = ap (λ (l : List (List ℕ)). (m ++ x) ∷ l) (alike-more m ys y)

pub items-added : (mark : List ℕ) (m B n : ℕ) (xs : List ℕ)
    → items_below n (λ e. (m + e, added (mark ++ part (e * B) B xs))) ≡ added_from m (alike mark (pieces B n xs))
unfolding items_below added_from pieces alike
items-added mark m B zero xs = refl
items-added mark m B (suc n) xs =
    let last : List ℕ = part (n * B) B xs in
    ap₂ (λ (l : List (ℕ × BlockChange)) (k : ℕ). l ++ ((m + k, added (mark ++ last)) ∷ [])) (items-added mark m B n xs)
    (sym (alike-long mark (pieces B n xs) ∙ pieces-length B n xs))
    ∙ sym (ap (added_from m) (ap (alike mark) (pieces_more B n xs) ∙ alike-more mark (pieces B n xs) last) ∙ added_more m (alike mark (pieces B n xs)) (mark ++ last))

-- the items of a batch
abbrev correction : ℕ → ℕ → Item → ℕ × BlockChange
correction v B x = (x.number, replaced (x.mark ++ x.old) (item_block v B x))

module _ (v B : ℕ) where
  items_more : (k : ℕ) (xs : List ℕ) → items_from v B (suc k) xs ≡ items_from v B k xs ++ (item_in v B k xs ∷ [])
  unfolding items_from
  items_more zero xs = let z : 0 * item_size v B ≡ 0 = zero-mul (item_size v B) in rw z
  items_more (suc k) xs =
      let z : item_size v B + k * item_size v B ≡ suc k * item_size v B = omega (arith, suc-mul k (item_size v B)) in
      ap (λ (l : List Item). read_item v B xs ∷ l) (items_more k (drop (item_size v B) xs))
      ∙ ap (λ (u : List ℕ). read_item v B xs ∷ (items_from v B k (drop (item_size v B) xs) ++ (read_item v B u ∷ [])))
      (drop-drop (k * item_size v B) (item_size v B) xs ∙ ap (λ (i : ℕ). drop i xs) z)

  changes-more : (xs : List Item) (x : Item) → batch_changes v B (xs ++ (x ∷ [])) ≡ batch_changes v B xs ++ (correction v B x ∷ [])
  unfolding batch_changes
  changes-more [] x = refl
  changes-more (y ∷ xs) x = ap (λ (l : List (ℕ × BlockChange)). correction v B y ∷ l) (changes-more xs x)

  pub items-listed : (k : ℕ) (xs : List ℕ) → items_below k (λ e. correction v B (item_in v B e xs)) ≡ batch_changes v B (items_from v B k xs)
  unfolding items_below items_from batch_changes
  items-listed zero xs = refl
  items-listed (suc k) xs =
      ap (λ (l : List (ℕ × BlockChange)). l ++ (correction v B (item_in v B k xs) ∷ [])) (items-listed k xs)
      ∙ sym (ap (batch_changes v B) (items_more k xs) ∙ changes-more (items_from v B k xs) (item_in v B k xs))
