-- After k turns the first k places stand, by known-turn.
use Rattle.std.proofs.Common.{ℕ, ◌*◌, ◌≤◌, refl, arith, length-set}
use Rattle.std.proofs.Math.Nat.{mul-le-mul_right}
use Rattle.lanes.proofs.LaneLaws.{known-turn}
use Rattle.sha256_many.proofs.places.Goals as goal

pub loop-k-init : goal.loop-k-init
loop-k-init c = (refl, λ i h. absurd (omega arith))

pub overflow_mul-at : goal.overflow_mul-at
overflow_mul-at c =
    let k = c.loop-k.k in
    let n = c.args.n in
    let below : k * n ≤ 16 * n = mul-le-mul_right n (omega (arith, c.loop-k-test.true)) in
    omega arith

pub loop-k-preserved : goal.loop-k-preserved
loop-k-preserved c =
    let l = c.loop-k in
    let n = c.args.n in
    (simp length-set l.invariant.0, known-turn l.at (λ (i : ℕ). i * n) l.k _ (omega (arith, l.invariant.0, c.loop-k-test.true)) refl l.invariant.1)

pub returns : goal.returns
returns c = λ i h. c.loop-k.invariant.1 i (omega (arith, c.loop-k-test.false))
