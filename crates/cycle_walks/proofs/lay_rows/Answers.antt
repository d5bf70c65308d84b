-- After i turns the first i rows stand, and the next is at hand (row_next).
use native.Mathlib.Omega.{arith}
use Prim.Native.Nat.{◌+◌, ◌%◌}
use mathlib.Core.Path.{◌≡◌}
use Rattle.cycle_walks.proofs.EachLaws.{set_more}
use Rattle.cycle_walks.proofs.AlongLaws.{row_next}
use Rattle.cycle_walks.proofs.lay_rows.Goals as goal

pub loop-v-preserved : goal.loop-v-preserved
loop-v-preserved c =
    let a = c.args in
    let l = c.loop-v in (
      row_next a.d a.from l.v-index l.row _ l.invariant.0 c.next_row-row.ensures,
      set_more (λ j v. v ≡ (a.from + j) % a.d) l.vs l.v-index _ (omega arith) l.invariant.0 l.invariant.1,
    )
