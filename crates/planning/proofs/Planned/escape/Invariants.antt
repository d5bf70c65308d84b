-- The figure is that after the first j factors.
use mathlib.Core.Path.{◌≡◌}
use Rattle.planning.specs.Sheet as S
use Rattle.planning.proofs.Planned.escape.Given as goal

abbrev pub invariant-loop-j : goal.invariant-loop-j
invariant-loop-j l = l.figure ≡ S.figure l.self.rows l.self.damaged l.j
