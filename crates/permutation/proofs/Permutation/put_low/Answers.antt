-- After k turns the low bits of k words are written, by low_turn. The table keeps its length.
use borrow.Author.Rules.{rules}
use mathlib.Core.Path.{ap, ◌∙◌}
use native.Mathlib.Omega.{arith}
use Prim.Native.Nat.{ℕ, ◌%◌, ◌^◌}
use lib.ListN.{length-set}
use Rattle.permutation.proofs.TableLaws.{low-none, low_turn, low-done}
use Rattle.permutation.proofs.Permutation.put_low.Goals as goal

pub loop-k-init : goal.loop-k-init
loop-k-init c = (search rules, low-none _ _ _ _)

pub loop-k-preserved : goal.loop-k-preserved
loop-k-preserved c =
    let l = c.loop-k in (
      simp length-set l.invariant.0,
      low_turn _ _ _ _ _ l.k _ _ l.invariant.1 c.place_of-place.ensures.0 (c.low.ensures ∙ ap (λ (w : ℕ). w % 2 ^ c.args.self.h) c.from.ensures),
    )

pub returns : goal.returns
returns c =
    let l = c.loop-k in
    low-done _ _ _ _ _ l.k (omega arith) (omega arith) l.invariant.1
