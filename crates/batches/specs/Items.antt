-- The items of a batch where they lie, and what is checked of them. Assumes nothing.
--   item_in v B e items    item e, from 0
--   item_checks n xs       what is checked of items, in a file of n blocks
--   batch_checks c items   what is checked of a batch
use Rattle.std.specs.Prelude.{ℕ, ◌*◌, Bool, ◌&&◌, List, [], ◌∷◌, drop}
use Rattle.counts.specs.Codes.{no_such_block, bad_batch, bad_mark}
use Rattle.scheme.specs.Batches.{Item, item_size, read_item, items_of, kinds_fit, rising, batch_fits, item_marks_fit, numbers_fit}
use Rattle.scheme.specs.Records.{Card}

abbrev pub item_in : ℕ → ℕ → ℕ → List ℕ → Item
item_in v B e items = read_item v B (drop (e * item_size v B) items)

abbrev pub item_checks : ℕ → List Item → List (Bool × ℕ)
item_checks n xs = (kinds_fit xs && rising xs, bad_batch) ∷ (item_marks_fit xs, bad_mark) ∷ (numbers_fit n xs, no_such_block) ∷ []

-- "just before 4, a batch of another size or kind, or with numbers that don't rise (14)"; "a mark above 1 (15), in a batch straight after 14"
abbrev pub batch_checks : Card → List ℕ → List (Bool × ℕ)
batch_checks c items = (batch_fits c items, bad_batch) ∷ (item_marks_fit (items_of c items), bad_mark) ∷ (numbers_fit c.n (items_of c items), no_such_block) ∷ []
