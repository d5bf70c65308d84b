-- What is read and hashed of a block change. Assumes nothing.
--   alone-listed, alone-counted    whether it comes alone
--   piece-few                      where a block of several begins is a small number
--   number-listed, number-added    the number of its block
--   hashes-listed, hashes-added    how many hashes it takes
--   deleted-mark                   the mark of a deleted block, as many bytes of it as its version has
--   hash-said                      a head as far as it is lent and a block are hashed as the block, with its mark, at its index
--   added-mixed                    an added block
--   updated-mixed, deleted-mixed   the two kinds of items
use Prim.Native.Nat.{ℕ, ◌+◌, ◌*◌, ◌≤◌, ◌<◌}
use native.Mathlib.Omega.{arith}
use native.Mathlib.Nat.{mul-le-mul_right, le_trans}
use mathlib.Core.Path.{◌≡◌, refl, sym, ap, ap₂, ◌∙◌}
use mathlib.Core.List.{List, [], ◌∷◌, ◌++◌}
use mathlib.Core.Bool.{Bool, true, false, cond}
use lib.Dec.{eqb}
use lib.ListN.{length, take, replicate}
use Rattle.octets.specs.Octets.{be, part, xors}
use Rattle.sha256.specs.Sha256.{sha256}
use Rattle.scheme.specs.Marks.{marks_in, live, deleted}
use Rattle.scheme.specs.Batches.{item_size, item_block}
use Rattle.scheme.specs.Tokens.{block_hash, mixed}
use Rattle.scheme.specs.Totals.{hashes_in}
use Rattle.standard.specs.Standard.{standard}
use Rattle.hash_queue.specs.Waiting.{said}
use Rattle.batches.specs.Items.{item_in}
use Rattle.batches.proofs.ItemLaws.{old-read, new-read}
use Rattle.tokens.specs.Keyed.{block_change_of}
use Rattle.tokens.proofs.HeadLaws.{head-hashed, live-mark}
use Rattle.block_changes.specs.BlockChanges.{number_at, block_change_at, several_at, alone}
use Rattle.block_changes.specs.declared.BlockChanges.{BlockChanges}

pub alone-listed : (w : BlockChanges) → w.listed ≡ true → false ≡ alone w
unfolding alone
alone-listed w l = rw l

pub alone-counted : (w : BlockChanges) → w.listed ≡ false → eqb w.count 1 ≡ alone w
unfolding alone
alone-counted w l = rw l

pub hashes-listed : (w : BlockChanges) → w.listed ≡ true → (new : List ℕ) (e : ℕ) → 2 ≡ hashes_in (several_at w new e)
unfolding block_change_at
hashes-listed w l new e = rw l

pub hashes-added : (w : BlockChanges) → w.listed ≡ false → w.fresh ≡ true → (new : List ℕ) (e : ℕ) → 1 ≡ hashes_in (several_at w new e)
unfolding block_change_at block_change_of
hashes-added w l f new e = rw (l, f)

pub piece-few : (e n B : ℕ) → e < n → n ≤ 16777216 → B ≤ 4096 → e * B ≤ 68719476736
piece-few e n B h l s = le_trans (mul-le-mul_right B (le_trans (omega arith) l)) (omega (arith, s))

pub number-listed : (w : BlockChanges) (new : List ℕ) (e : ℕ) → w.listed ≡ true → (item_in w.version w.size e new).number ≡ number_at w new e
unfolding number_at
number-listed w new e l = rw l

pub number-added : (w : BlockChanges) (new : List ℕ) (e : ℕ) → w.listed ≡ false → w.first + e ≡ number_at w new e
unfolding number_at
number-added w new e l = rw l

pub deleted-mark : (v : ℕ) → take {A = ℕ} (marks_in v) (1 ∷ []) ≡ deleted v
unfolding marks_in deleted
deleted-mark v = go (eqb v 1)
  where
    go : (b : Bool) → take {A = ℕ} (cond b 0 1) (1 ∷ []) ≡ cond b [] (1 ∷ [])
    go true = refl
    go false = refl

pub hash-said : (c head : List ℕ) (index mark k h a B : ℕ) (far : List ℕ) → length c ≡ 32 → head ≡ c ++ be 4 index ++ (mark ∷ []) → h ≡ 36 + k
    → sha256 (said (take h head) a B far) ≡ block_hash standard c index (take k (mark ∷ []) ++ part a B far)
unfolding said
hash-said c head index mark k h a B far l e eh =
    ap (λ (n : ℕ). sha256 (take n head ++ part a B far)) eh ∙ head-hashed c head (part a B far) index mark k l e

module _ (w : BlockChanges) (new c x : List ℕ) (index e : ℕ) where
  -- a block with the mark of a live one
  alive : (z : List ℕ) → take {A = ℕ} (marks_in w.version) (0 ∷ []) ++ z ≡ live w.version ++ z
  alive z = ap (λ (m : List ℕ). m ++ z) (live-mark w.version)

  pub added-mixed : (a : ℕ) → w.listed ≡ false → w.fresh ≡ true → a ≡ e * w.size
      → xors x (block_hash standard c index (take (marks_in w.version) (0 ∷ []) ++ part a w.size new)) ≡ mixed standard c index (several_at w new e) x
  unfolding block_change_at block_change_of mixed
  added-mixed a l f ea = ap (λ (z : List ℕ). xors x (block_hash standard c index z)) (alive (part a w.size new)) ∙ rw (l, f, ea)

  -- an item of a batch: old and new
  module _ (a mark : ℕ) (y : List ℕ) (l : w.listed ≡ true) (ea : a ≡ e * item_size w.version w.size)
      (em : take (marks_in w.version) (mark ∷ []) ≡ (item_in w.version w.size e new).mark)
      (ey : y ≡ xors x (block_hash standard c index (take (marks_in w.version) (mark ∷ []) ++ part (a + 5) w.size new))) where
    replaced-mixed : (z : List ℕ) → z ≡ item_block w.version w.size (item_in w.version w.size e new)
        → xors y (block_hash standard c index z) ≡ mixed standard c index (several_at w new e) x
    unfolding block_change_at mixed
    replaced-mixed z ez =
        ap₂ (λ (u v : List ℕ). xors u (block_hash standard c index v))
        (ey ∙ ap₂ (λ (m o : List ℕ). xors x (block_hash standard c index (m ++ o))) em (old-read w.version w.size e a new ea)) ez
        ∙ rw l

    pub updated-mixed : (d : ℕ) → d ≡ a + 5 + w.size + marks_in w.version → eqb (item_in w.version w.size e new).kind 1 ≡ true
        → xors y (block_hash standard c index (take (marks_in w.version) (0 ∷ []) ++ part d w.size new)) ≡ mixed standard c index (several_at w new e) x
    unfolding item_block
    updated-mixed d ed k =
        replaced-mixed (take (marks_in w.version) (0 ∷ []) ++ part d w.size new)
        (alive (part d w.size new)
        ∙ ap (λ (z : List ℕ). live w.version ++ z) (ap (λ (i : ℕ). part i w.size new) ed ∙ new-read w.version w.size e a new ea)
        ∙ sym (rw k))

    pub deleted-mixed : eqb (item_in w.version w.size e new).kind 1 ≡ false
        → xors y (block_hash standard c index (deleted w.version ++ replicate w.size 0)) ≡ mixed standard c index (several_at w new e) x
    unfolding item_block
    deleted-mixed k = replaced-mixed (deleted w.version ++ replicate w.size 0) (sym (rw k))
