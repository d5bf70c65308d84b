-- A table that is not empty has every value (full).
use mathlib.Core.Path.{subst, sym}
use native.Mathlib.Omega.{arith}
use Rattle.permutation.specs.Table.{Whole}
use Rattle.permutation.proofs.TableLaws.{full}
use Rattle.permutation.proofs.Permutation.over.Goals as goal

pub invariant_of-result : goal.invariant_of-result
invariant_of-result c =
    let p = c.args.self in
    let chunk = c.in_ok-values.ensures.cases in
    record { whole = subst (Whole p.key p.h) (sym chunk.same) (full p.key c.args.table.now p.h c.requires (λ none. omega (arith, chunk.long, none))) }
