-- How the block changes of a call lie in the buffers that it is lent. Assumes nothing.
--   number_at w new e              the number of the block that change e is of, from 0
--   changeAt w om old nm new e    what is handed over of it: om and nm are the marks of the old and the new blocks
--   several_at w new e             the same of several, which lie in one buffer: added blocks are live
--   items_below n f                f 0 .. f (n - 1)
--   items_of w om old nm new       all block changes
--   alone w                       a block change that comes alone, its contents in two buffers
--   One w om old nm new           such a change is within the limits, and the buffers hold its contents
--   Added w new                   blocks that are added, within the limits, in one buffer
--   Listed w items                the items of a batch, within the limits
--   Several w new                 either of these two
--   Lent w om old nm new          a change that comes alone, or several
use Rattle.std.specs.Prelude.{ℕ, zero, suc, ◌+◌, ◌*◌, ◌≤◌, ◌<◌, Bool, true, false, cond, List, [], ◌∷◌, ◌++◌, ◌≡◌, eqb, length}
use Rattle.octets.specs.Octets.{part}
use Rattle.counts.specs.Limits.{most_block_bytes, most_rows, most_blocks}
use Rattle.scheme.specs.Marks.{marks_in, live}
use Rattle.scheme.specs.Batches.{item_size, item_block}
use Rattle.scheme.specs.Tokens.{BlockChange, replaced}
use Rattle.batches.specs.Items.{item_in}
use Rattle.tokens.specs.Keyed.{block_change_of}
use Rattle.block_changes.specs.declared.BlockChanges.{BlockChanges}

unfoldable pub number_at : BlockChanges → List ℕ → ℕ → ℕ
number_at w new e = cond w.listed (item_in w.version w.size e new).number (w.first + e)

unfoldable pub block_change_at : BlockChanges → List ℕ → List ℕ → List ℕ → List ℕ → ℕ → BlockChange
block_change_at w om old nm new e =
    cond w.listed
    (replaced ((item_in w.version w.size e new).mark ++ (item_in w.version w.size e new).old) (item_block w.version w.size (item_in w.version w.size e new)))
    (block_change_of w.fresh (om ++ part (e * w.size) w.size old) (nm ++ part (e * w.size) w.size new))

-- "Set-up, append, load and update make blocks live"
abbrev pub several_at : BlockChanges → List ℕ → ℕ → BlockChange
several_at w new e = block_change_at w [] [] (live w.version) new e

unfoldable pub items_below : ℕ → (ℕ → ℕ × BlockChange) → List (ℕ × BlockChange)
items_below zero f = []
items_below (suc n) f = items_below n f ++ (f n ∷ [])

unfoldable pub items_of : BlockChanges → List ℕ → List ℕ → List ℕ → List ℕ → List (ℕ × BlockChange)
items_of w om old nm new = items_below w.count (λ e. (number_at w new e, block_change_at w om old nm new e))

unfoldable pub alone : BlockChanges → Bool
alone w = cond w.listed false (eqb w.count 1)

-- the table of limits, as far as the code asks for it
pub record One (w : BlockChanges) (om old nm new : List ℕ) : Type 0 where
  pub rowed : 1 ≤ w.rows
  pub few_rows : w.rows ≤ most_rows
  pub small : w.size ≤ most_block_bytes
  pub from_one : 1 ≤ w.first
  pub most : w.first ≤ most_blocks
  pub old_mark : length om ≤ 1
  pub old_whole : w.size ≤ length old
  pub new_mark : length nm ≤ 1
  pub new_whole : w.size ≤ length new

pub record Added (w : BlockChanges) (new : List ℕ) : Type 0 where
  pub fresh : w.fresh ≡ true
  pub from_one : 1 ≤ w.first
  pub most : w.first + w.count ≤ 16777217
  pub whole : w.count * w.size ≤ length new

pub record Listed (w : BlockChanges) (items : List ℕ) : Type 0 where
  pub few : w.count ≤ 64
  pub whole : w.count * item_size w.version w.size ≤ length items
  pub from_one : (e : ℕ) → e < w.count → 1 ≤ (item_in w.version w.size e items).number
  pub most : (e : ℕ) → e < w.count → (item_in w.version w.size e items).number ≤ most_blocks

pub record Several (w : BlockChanges) (new : List ℕ) : Type 0 where
  pub rowed : 1 ≤ w.rows
  pub few_rows : w.rows ≤ most_rows
  pub drawn : w.positions ≤ w.rows
  pub small : w.size ≤ most_block_bytes
  pub few : w.count ≤ most_blocks
  pub added : w.listed ≡ false → Added w new
  pub listed : w.listed ≡ true → Listed w new

pub record Lent (w : BlockChanges) (om old nm new : List ℕ) : Type 0 where
  pub one : alone w ≡ true → One w om old nm new
  pub several : alone w ≡ false → Several w new
  pub living : alone w ≡ false → nm ≡ live w.version
