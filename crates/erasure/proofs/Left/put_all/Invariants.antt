-- After n turns the first n data blocks are in place, by filled_more.
use mathlib.Core.Path.{◌≡◌}
use Prim.Native.Nat.{◌*◌}
use lib.ListN.{length}
use Rattle.erasure.specs.Group.{lost_data}
use Rattle.erasure.proofs.ListLaws.{Filled}
use Rattle.erasure.proofs.RebuildLaws.{data_at}
use Rattle.erasure.proofs.Left.put_all.Given as goal

abbrev pub invariant-loop-n : goal.invariant-loop-n
invariant-loop-n l =
    let s = l.self in
    (l.i ≡ length (lost_data s.lost.now l.n))
    × Filled (l.n * s.blocks.size) (data_at s.blocks.size s.lost.now s.us.now s.vs.now s.qs.now s.blocks.bytes.now) l.group
