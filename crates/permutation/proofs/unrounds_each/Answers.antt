-- The numbers are split (Split), the rounds undone one after the other on each (Left), and the halves joined (undone-is).
use native.Mathlib.Omega.{arith}
use mathlib.Core.Path.{◌≡◌, ap, ◌∙◌}
use Prim.Native.Nat.{ℕ, ◌+◌, ◌-◌}
use lib.ListN.{get_or, length-set}
use Rattle.permutation.specs.Rounds.{joined}
use Rattle.permutation.specs.Permutation.{round_function, eight_undone}
use Rattle.permutation.specs.declared.Permutation.{Permutation}
use Rattle.permutation.specs.declared.Halves.{Halves}
use Rattle.permutation.proofs.HalfLaws.{Undoing, undoing-turn}
use Rattle.permutation.proofs.EachLaws.{at, written, behind, undone-is}
use Rattle.permutation.proofs.unrounds_each.Goals as goal

pub loop-v-preserved : goal.loop-v-preserved
loop-v-preserved g c =
    let p = g.V.Values.under c.args.f in
    let F = round_function p.key p.h in
    let l = c.loop-v in
    let Q : ℕ → ℕ → Halves → Type 0 = λ q k v. Undoing F p.h (get_or c.args.xs k 0) q v.high v.low in (
      length-set l.v-items l.v-index _ ∙ l.invariant.0,
      written l.v-items _ _ l.v-index (Q (c.loop-q.q - 1)) (omega arith) (undoing-turn (l.invariant.2 l.v-index (omega arith) (omega arith)) c.unround.ensures) l.invariant.1,
      behind l.v-items _ _ l.v-index (Q (c.loop-q.q - 1 + 1)) g.row.N l.invariant.2,
    )

pub loop-k-2-preserved : goal.loop-k-2-preserved
loop-k-2-preserved g c =
    let p = g.V.Values.under c.args.f in
    let l = c.loop-k-2 in
    let v = at c.loop-q.vs l.k in (
      length-set l.ys l.k _ ∙ l.invariant.0,
      written l.ys 0 _ l.k (λ k y. y ≡ eight_undone p.key p.d (get_or c.args.xs k 0)) (omega arith)
          (undone-is p c.loop-q-test.false (c.loop-q.invariant.1 l.k (omega arith))
          (c.join.ensures ∙ ap (λ (p : Permutation). joined p.h v.high v.low) c.permutation-p.ensures))
          l.invariant.1,
    )
