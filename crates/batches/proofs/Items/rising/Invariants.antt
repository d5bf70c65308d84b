-- What is left to ask stays, item by item, by rise-next.
use mathlib.Core.Path.{◌≡◌}
use Rattle.scheme.specs.Batches.{items_from, rising_from}
use Rattle.scheme.specs.Batches as S
use Rattle.batches.proofs.FoldLaws.{items_left}
use Rattle.batches.proofs.Items.rising.Given as goal

abbrev pub invariant-loop-e : goal.invariant-loop-e
invariant-loop-e l =
    let a = l.self in
    S.rising (items_from a.version a.size a.count a.bytes.now) ≡ rising_from l.last (items_left a.version a.size a.count l.e a.bytes.now)
