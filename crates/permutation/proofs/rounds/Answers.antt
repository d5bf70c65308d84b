-- A turn of the loop is done-turn, and the eight rounds are those at the half width of d (rounds-at).
use mathlib.Core.Path.{◌≡◌, ap, sym, ◌∙◌, subst}
use Prim.Native.Nat.{ℕ}
use native.Mathlib.Omega.{arith}
use Rattle.permutation.specs.Rounds.{joined, Halved, Parted, rounds}
use Rattle.permutation.specs.Permutation.{round_function}
use Rattle.permutation.specs.declared.Permutation.{Permutation}
use Rattle.permutation.proofs.HalfLaws.{done-turn}
use Rattle.permutation.proofs.PermutationLaws.{rounds-at}
use Rattle.permutation.proofs.rounds.Goals as goal

pub loop-q-init : goal.loop-q-init
unfolding rounds
loop-q-init g c =
    subst (λ (p : Permutation). Parted p.h c.split-v.result.high c.split-v.result.low c.args.x) c.permutation-p.ensures c.split-v.ensures

pub round-v-requires : goal.round-v-requires
round-v-requires g c = (omega arith, c.loop-q.invariant.0)

pub loop-q-preserved : goal.loop-q-preserved
loop-q-preserved g c =
    let p = g.V.Values.under c.args.f in
    done-turn (round_function p.key p.h) p.h c.loop-q.q c.args.x c.loop-q.invariant c.round-v.ensures

pub join-requires : goal.join-requires
join-requires g c =
    subst (λ (p : Permutation). Halved p.h c.loop-q.v.high c.loop-q.v.low) (sym c.permutation-p.ensures) c.loop-q.invariant.0

pub returns : goal.returns
returns g c =
    let p = g.V.Values.under c.args.f in
    let all : c.loop-q.q ≡ 8 = omega arith in
    c.join.ensures
    ∙ ap (λ (p : Permutation). joined p.h c.loop-q.v.high c.loop-q.v.low) c.permutation-p.ensures
    ∙ c.loop-q.invariant.1
    ∙ ap (λ (n : ℕ). rounds (round_function p.key p.h) p.h n c.args.x) all
    ∙ rounds-at p.key p.d c.args.x p.half
