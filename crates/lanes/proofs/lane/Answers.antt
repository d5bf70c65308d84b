-- After j turns the array holds the first j words of the lane, by get-turn.
use Rattle.std.proofs.Common.{refl, arith, rules}
use Rattle.std.proofs.lemmas.List.{length-replicate}
use Rattle.lanes.proofs.LaneLaws.{get_none, get-turn, get-done}
use Rattle.lanes.proofs.lane.Goals as goal

pub loop-j-init : goal.loop-j-init
loop-j-init g c = (length-replicate _ _, get_none _ _)

pub loop-j-preserved : goal.loop-j-preserved
loop-j-preserved g c =
    let l = c.loop-j in
    (search rules, get-turn _ _ _ l.j _ (omega (arith, l.invariant.0)) l.invariant.1 refl)

pub returns : goal.returns
returns g c =
    let l = c.loop-j in
    get-done _ _ _ l.j _ (omega arith) (omega arith) l.invariant.0 l.invariant.1
