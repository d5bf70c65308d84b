-- What loops over the items of a batch hold: what is left of them. Assumes nothing.
--   items-step, item-at   the items of a batch from one on, and the fields of an item at an offset
use Prim.Native.Nat.{ℕ, suc, ◌+◌, ◌*◌, ◌-◌, ◌<◌}
use native.Mathlib.Omega.{arith}
use native.Mathlib.Nat.{add-mul, one-mul}
use mathlib.Core.Path.{◌≡◌, sym, ap, ◌∙◌}
use mathlib.Core.List.{List, ◌∷◌}
use lib.ListN.{get_or, take, drop}
use lib.Seq.{drop-drop, get_or-drop}
use Rattle.octets.specs.Octets.{of_be, part}
use Rattle.scheme.specs.Marks.{marks_in}
use Rattle.scheme.specs.Batches.{Item, item_size, read_item, items_from}

-- the rest of a buffer, one piece of k elements further
drop_more : (j k : ℕ) (xs : List ℕ) → drop k (drop (j * k) xs) ≡ drop ((j + 1) * k) xs
drop_more j k xs =
    let z : j * k + k ≡ (j + 1) * k = sym (add-mul j 1 k ∙ ap (λ (x : ℕ). j * k + x) (one-mul k)) in
    drop-drop k (j * k) xs ∙ ap (λ (a : ℕ). drop a xs) z

-- the items from j on
pub items-step : (v B k j : ℕ) (xs : List ℕ) → j < k
    → items_from v B (k - j) (drop (j * item_size v B) xs)
    ≡ read_item v B (drop (j * item_size v B) xs) ∷ items_from v B (k - (j + 1)) (drop ((j + 1) * item_size v B) xs)
unfolding items_from
items-step v B k j xs h =
    let z : k - j ≡ suc (k - (j + 1)) = omega arith in
    rw z (ap (λ (ys : List ℕ). read_item v B (drop (j * item_size v B) xs) ∷ items_from v B (k - (j + 1)) ys) (drop_more j (item_size v B) xs))

-- the fields of an item at offset a
pub record ItemAt (v B a : ℕ) (xs : List ℕ) (x : Item) : Type 0 where
  pub kind : x.kind ≡ get_or xs a 0
  pub number : x.number ≡ of_be (part (a + 1) 4 xs)
  pub old : x.old ≡ part (a + 5) B xs
  pub mark : x.mark ≡ part (a + (5 + B)) (marks_in v) xs
  pub new : x.new ≡ part (a + (5 + B + marks_in v)) B xs

pub item-at : (v B a : ℕ) (xs : List ℕ) → ItemAt v B a xs (read_item v B (drop a xs))
unfolding read_item
item-at v B a xs =
    let z : a + 0 ≡ a = omega arith in
    record {
      kind = get_or-drop a xs 0 0 ∙ ap (λ (i : ℕ). get_or xs i 0) z;
      number = ap (λ (ys : List ℕ). of_be (take 4 ys)) (drop-drop 1 a xs);
      old = ap (take B) (drop-drop 5 a xs);
      mark = ap (take (marks_in v)) (drop-drop (5 + B) a xs);
      new = ap (take B) (drop-drop (5 + B + marks_in v) a xs);
    }
