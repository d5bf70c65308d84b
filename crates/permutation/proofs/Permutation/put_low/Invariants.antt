-- After k turns the low bits of k words are written, by low_turn. The table keeps its length.
use mathlib.Core.Path.{◌≡◌}
use lib.ListN.{length}
use Rattle.permutation.specs.Table.{put_low}
use Rattle.permutation.proofs.Permutation.put_low.Given as goal

abbrev pub invariant-loop-k : goal.invariant-loop-k
invariant-loop-k l = (length l.table ≡ 8192) × (l.table ≡ put_low l.self.h l.fn.words l.i l.k l.initial.table)
