-- The first i words stand in the array, by first_step and next-step.
use Rattle.std.proofs.Common.{refl, length-set, rules}
use Rattle.sha256.specs.Sha256 as S
use Rattle.sha256.proofs.ScheduleLaws.{zero, first_step, next-step, done}
use Rattle.sha256.proofs.schedule.Goals as goal

pub loop-i-init : goal.loop-i-init
loop-i-init c = (refl, zero _)

pub loop-i-preserved : goal.loop-i-preserved
unfolding S.word
loop-i-preserved c =
    let l = c.loop-i in
    (simp length-set l.invariant.0, first_step _ _ _ _ c.loop-i-test.true l.invariant.0 l.invariant.1 c.be.ensures.0)

pub loop-i-2-preserved : goal.loop-i-2-preserved
unfolding S.next
loop-i-2-preserved c =
    let l = c.loop-i-2 in
    (simp length-set l.invariant.0, next-step _ _ _ _ (search rules) (search rules) l.invariant.0 l.invariant.1 c.next.ensures)

pub returns : goal.returns
returns c =
    let l = c.loop-i-2 in
    done _ _ _ (search rules) (search rules) l.invariant.0 l.invariant.1
