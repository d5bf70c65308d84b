-- Before token i the first i - 1 records are in place, by fill-turn; what is hashed is every block behind the mark of a live one, by contents-live.
-- What was counted and the totals of the tokens from i on are the totals of all, by counted-more.
use Prim.Native.Nat.{◌*◌}
use mathlib.Core.Path.{◌≡◌}
use lib.ListN.{length}
use Rattle.scheme.specs.Lists.{pieces}
use Rattle.scheme.specs.Marks.{live, alike}
use Rattle.scheme.proofs.laws.TableLaws.{Filled}
use Rattle.set_ups.proofs.SetUpLaws.{turns_of, hashes_of, Counted, new_record}
use Rattle.set_ups.proofs.fill_table.Given as goal

abbrev pub invariant-loop-i : goal.invariant-loop-i
invariant-loop-i l =
    (length l.table ≡ l.c.tokens * 63) × (length l.initial.table ≡ l.c.tokens * 63)
    × Filled (new_record l.w l.z l.k l.c.version l.c.rows l.c.positions (alike (live l.c.version) (pieces l.c.block_bytes l.c.blocks l.blocks))) l.c.tokens l.table l.i
    × Counted (turns_of l.w l.c.rows l.c.positions) l.c.tokens l.turns l.i
    × Counted (hashes_of l.w l.c.rows l.c.positions l.c.blocks) l.c.tokens l.hashes l.i
