-- The step keeps to two halves, and is undone (undone).
use mathlib.Core.Path.{subst}
use Prim.Native.Nat.{ℕ, ◌-◌, ◌^◌}
use borrow.Author.Rules.{rules}
use Rattle.permutation.specs.Rounds.{half}
use Rattle.permutation.specs.Walk.{Undone, Ends}
use Rattle.permutation.specs.Permutation.{eight_rounds, eight_undone, forward, forward_turns}
use Rattle.permutation.specs.declared.Permutation.{Permutation}
use Rattle.permutation.proofs.PermutationLaws.{undone}
use Rattle.permutation.proofs.Table.forward.Goals as goal

undoing : (p : Permutation) → Undone (eight_rounds p.key p.d) (eight_undone p.key p.d) (4 ^ p.h)
undoing p = rw p.half (undone p.key (half p.d))

pub walk-requires : goal.walk-requires
walk-requires c =
    let p = c.args.self.of in
    record { below = c.requires; callable = λ v b. search rules; undone = (eight_rounds p.key p.d, eight_undone p.key p.d, undoing p, λ v u e. search rules) }

pub returns : goal.returns
unfolding forward forward_turns
returns c =
    let p = c.args.self.of in
    let w = c.walk.result in
    let e : Ends (eight_rounds p.key p.d) p.d (4 ^ p.h - p.d) c.args.x w.value w.turns = c.walk.ensures (eight_rounds p.key p.d) (eight_undone p.key p.d) (undoing p) (λ v u e. search rules) in
    let e' = subst (λ (h : ℕ). Ends (eight_rounds p.key p.d) p.d (4 ^ h - p.d) c.args.x w.value w.turns) p.half e in
    record { value_value = e'.0; value_lt_d = e'.1 }
