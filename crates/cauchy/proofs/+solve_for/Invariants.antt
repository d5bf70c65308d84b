-- Each call is on shorter lists.
use Rattle.std.proofs.Common.{length}
use Rattle.cauchy.proofs.+solve_for.Given as goal

abbrev pub decreases-solve_for : goal.decreases-solve_for
decreases-solve_for l = length l.us.now
