-- What is left to reseal gives the same table, the records left still open, and each turn takes one, by turn and reseal-more; what is counted and the
-- totals that are left are the whole, by totals-step.
use mathlib.Core.Path.{◌≡◌}
use mathlib.Core.Bool.{false}
use mathlib.Core.List.{List}
use Prim.Native.Nat.{ℕ, ◌+◌, ◌*◌, ◌-◌, ◌≤◌}
use lib.ListN.{length}
use Rattle.scheme.specs.Table.{first_bad, reseal}
use Rattle.standard.specs.Standard.{standard}
use Rattle.cards.specs.Fields.{card_of}
use Rattle.tokens.specs.Keyed.{Keyed}
use Rattle.block_changes.specs.BlockChanges.{items_of, alone}
use Rattle.reseals.specs.Resealed.{turns_from, hashes_from}
use Rattle.reseals.proofs.reseal_in.Given as goal

abbrev pub invariant-loop-i : goal.invariant-loop-i
invariant-loop-i l =
    (length l.table ≡ l.c.tokens * 63)
    × (first_bad standard l.keys.k l.c.version l.c.counter l.table (l.c.tokens + 1 - l.i) l.i ≡ 0)
    × ((master : List ℕ) → Keyed master l.c.id l.keys
    → reseal standard master (card_of l.c) (items_of l.changes l.old_mark l.old l.new_mark l.new) (l.c.tokens + 1 - l.i) l.i l.table
    ≡ reseal standard master (card_of l.c) (items_of l.changes l.old_mark l.old l.new_mark l.new) (l.c.tokens + 1 - l.c.next) l.c.next l.initial.table)
    × (l.turns + turns_from l.keys (card_of l.c) (items_of l.changes l.old_mark l.old l.new_mark l.new) l.i ≡ turns_from l.keys (card_of l.c) (items_of l.changes l.old_mark l.old l.new_mark l.new) l.c.next)
    × (l.hashes + hashes_from l.keys (card_of l.c) (items_of l.changes l.old_mark l.old l.new_mark l.new) l.i ≡ hashes_from l.keys (card_of l.c) (items_of l.changes l.old_mark l.old l.new_mark l.new) l.c.next)
    × (alone l.changes ≡ false → 1 ≤ length l.scratch)
