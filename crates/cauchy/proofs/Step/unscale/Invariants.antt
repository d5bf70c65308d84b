-- After i turns the first i unknowns are unscaled, by zip_more.
use mathlib.Core.Path.{◌≡◌}
use Rattle.cauchy.specs.Solve.{unscaled_one}
use Rattle.gf256.proofs.ZipLaws.{zip_to}
use Rattle.cauchy.proofs.Step.unscale.Given as goal

abbrev pub invariant-loop-i : goal.invariant-loop-i
invariant-loop-i l = l.es ≡ zip_to (unscaled_one l.self.w l.self.v) l.i l.xs l.initial.es
