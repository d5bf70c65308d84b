-- `schedule::wait_from` meets its contract. The loop's invariant: no minute of the days passed is allowed.
use Rattle.schedule.proofs.WaitLaws.{Quiet, seen}
use Rattle.schedule.proofs.wait_from.Given as goal

abbrev pub invariant-loop-k : goal.invariant-loop-k
invariant-loop-k l = Quiet l.plan l.w l.m (seen l.m l.k)
