-- After each turn the entries of the groups below this one stand. The table keeps its length.
use mathlib.Core.Path.{◌≡◌}
use Prim.Native.Nat.{◌*◌}
use lib.ListN.{length}
use Rattle.permutation.specs.Table.{Entered}
use Rattle.permutation.proofs.Permutation.fill.Given as goal

abbrev pub invariant-loop-group : goal.invariant-loop-group
invariant-loop-group l = (length l.table ≡ 8192) × Entered l.self.key l.self.h (l.group * 16) l.table
