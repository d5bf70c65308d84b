-- After i turns the first i sums are reduced, by zip_more.
use mathlib.Core.Path.{◌≡◌}
use Rattle.cauchy.specs.Solve.{reduced_one}
use Rattle.gf256.proofs.ZipLaws.{zip_to}
use Rattle.cauchy.proofs.Step.reduce.Given as goal

abbrev pub invariant-loop-i : goal.invariant-loop-i
invariant-loop-i l = l.ts ≡ zip_to (reduced_one l.self.w l.self.v l.s) l.i l.us l.initial.ts
