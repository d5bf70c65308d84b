-- After i turns the first i weights are in place, by zip_more.
use mathlib.Core.Path.{◌≡◌}
use Prim.Native.Nat.{ℕ}
use Rattle.cauchy.specs.Solve.{row}
use Rattle.gf256.proofs.ZipLaws.{zip_to, first}
use Rattle.cauchy.proofs.weights_of.Given as goal

abbrev pub invariant-loop-i : goal.invariant-loop-i
invariant-loop-i l = l.out ≡ zip_to (first (λ (q : ℕ). row q l.us l.cs)) l.i l.qs l.initial.out
