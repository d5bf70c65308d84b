-- One byte more, by le-before; the sum fits, by below-more.
use Prim.Native.Nat.{suc, ◌+◌, ◌-◌}
use borrow.Author.Rules.{rules}
use native.Mathlib.Omega.{arith}
use native.Mathlib.Nat.{sub_self}
use mathlib.Core.Path.{◌≡◌, refl}
use Rattle.octets.proofs.NumberLaws.{below-more, fits-eight}
use Rattle.octets.proofs.PartLaws.{le-before}
use Rattle.octets.specs.Octets.{of_le}
use Rattle.octets.proofs.le.Goals as goal

pub loop-i-init : goal.loop-i-init
unfolding of_le
loop-i-init g c = rw sub_self (refl, omega arith)

pub overflow_mul-x : goal.overflow_mul-x
overflow_mul-x g c = omega (arith, below-more c.loop-i.x 0 (g.row.N - c.loop-i.i) c.loop-i.invariant.1 (omega arith), fits-eight (suc (g.row.N - c.loop-i.i)) (omega arith))

pub overflow_add-x : goal.overflow_add-x
overflow_add-x g c =
    omega (arith, below-more c.loop-i.x c.from.result (g.row.N - c.loop-i.i) c.loop-i.invariant.1 (search rules), fits-eight (suc (g.row.N - c.loop-i.i)) (omega arith))

pub loop-i-preserved : goal.loop-i-preserved
loop-i-preserved g c =
    let a : suc (c.args.at + (c.loop-i.i - 1)) ≡ c.args.at + c.loop-i.i = omega arith in
    let k : suc (g.row.N - c.loop-i.i) ≡ g.row.N - (c.loop-i.i - 1) = omega arith in
    let e = le-before (c.args.at + (c.loop-i.i - 1)) c.args.s.now (g.row.N - c.loop-i.i) (omega arith) in
    let b = below-more c.loop-i.x c.from.result (g.row.N - c.loop-i.i) c.loop-i.invariant.1 (search rules) in
    (cc, rw k at b)
