-- Where the items of a batch lie, and what is read there. Assumes nothing.
--   marks-few              a mark has at most one byte
--   item-within, item-few       a piece of a buffer of several is in it; where an item begins is a small number
--   kind-read .. new-read   what is read of an item that begins at an offset
--   mark-none, mark-byte   its mark, where marks have no byte and where they have one
use Prim.Native.Nat.{ℕ, ◌+◌, ◌*◌, ◌≤◌, ◌<◌}
use native.Mathlib.Omega.{arith}
use native.Mathlib.Nat.{suc-mul, mul-le-mul_right, le_trans}
use mathlib.Core.Path.{◌≡◌, sym, ap, subst, ◌∙◌}
use mathlib.Core.List.{List, [], ◌∷◌}
use mathlib.Core.Bool.{Bool, true, false, cond}
use lib.ListN.{length, get_or, take}
use lib.Seq.{drop-cons}
use lib.Dec.{eqb}
use Rattle.octets.specs.Octets.{of_be, part}
use Rattle.scheme.specs.Marks.{marks_in}
use Rattle.scheme.specs.Batches.{item_size}
use Rattle.scheme.proofs.laws.LoopLaws.{item-at}
use Rattle.batches.specs.Items.{item_in}

pub item-within : (e n B : ℕ) → e < n → e * B + B ≤ n * B
item-within e n B h = subst (λ (x : ℕ). x ≤ n * B) (suc-mul e B) (mul-le-mul_right B (omega arith))

pub marks-few : (v : ℕ) → marks_in v ≤ 1
unfolding marks_in
marks-few v = go (eqb v 1)
  where
    go : (b : Bool) → cond b 0 1 ≤ 1
    go true = omega arith
    go false = omega arith

pub item-long : (v B : ℕ) → item_size v B ≡ 5 + 2 * B + marks_in v
unfolding item_size
item-long v B = omega arith

pub item-few : (e v B r : ℕ) → r ≡ item_size v B → e ≤ 64 → B ≤ 4096 → e * r ≤ 524672
item-few e v B r er h l = le_trans (mul-le-mul_right r h) (omega (arith, er, item-long v B, marks-few v))

pub item_room : (e k v B long : ℕ) → e < k → k * item_size v B ≤ long → e * item_size v B + item_size v B ≤ long
item_room e k v B long h l = le_trans (item-within e k (item_size v B) h) l

module _ (v B e a : ℕ) (items : List ℕ) (ea : a ≡ e * item_size v B) where
  pub kind-read : get_or items a 0 ≡ (item_in v B e items).kind
  kind-read = ap (λ (k : ℕ). get_or items k 0) ea ∙ sym (item-at v B (e * item_size v B) items).kind

  pub number_read : of_be (part (a + 1) 4 items) ≡ (item_in v B e items).number
  number_read = ap (λ (k : ℕ). of_be (part (k + 1) 4 items)) ea ∙ sym (item-at v B (e * item_size v B) items).number

  pub old-read : part (a + 5) B items ≡ (item_in v B e items).old
  old-read = ap (λ (k : ℕ). part (k + 5) B items) ea ∙ sym (item-at v B (e * item_size v B) items).old

  pub mark-read : part (a + 5 + B) (marks_in v) items ≡ (item_in v B e items).mark
  mark-read =
      let z : a + 5 + B ≡ e * item_size v B + (5 + B) = omega (arith, ea) in
      ap (λ (k : ℕ). part k (marks_in v) items) z ∙ sym (item-at v B (e * item_size v B) items).mark

  pub new-read : part (a + 5 + B + marks_in v) B items ≡ (item_in v B e items).new
  new-read =
      let z : a + 5 + B + marks_in v ≡ e * item_size v B + (5 + B + marks_in v) = omega (arith, ea) in
      ap (λ (k : ℕ). part k B items) z ∙ sym (item-at v B (e * item_size v B) items).new

  pub mark-byte : (marks_in v ≡ 0 → ⊥) → a + item_size v B ≤ length items → take (marks_in v) (get_or items (a + 5 + B) 0 ∷ []) ≡ (item_in v B e items).mark
  mark-byte some h =
      let one : marks_in v ≡ 1 = omega (arith, marks-few v) in
      ap (λ (k : ℕ). take k (get_or items (a + 5 + B) 0 ∷ [])) one
      ∙ sym (ap (λ (k : ℕ). part (a + 5 + B) k items) one ∙ ap (take 1) (drop-cons items (a + 5 + B) 0 (omega (arith, item-long v B))))
      ∙ mark-read

pub mark-none : (v B e : ℕ) (items : List ℕ) (x : ℕ) → marks_in v ≡ 0 → take (marks_in v) (x ∷ []) ≡ (item_in v B e items).mark
mark-none v B e items x none =
    ap (λ (k : ℕ). take k (x ∷ [])) none
    ∙ sym (ap (λ (k : ℕ). part (e * item_size v B + (5 + B)) k items) none)
    ∙ sym (item-at v B (e * item_size v B) items).mark
