-- One byte more, by be-more; the sum fits, by below-more.
use borrow.Author.Rules.{rules}
use Prim.Native.Nat.{suc}
use native.Mathlib.Omega.{arith}
use native.Mathlib.Numerals.{add-one}
use Rattle.octets.proofs.NumberLaws.{below-more, fits-eight}
use Rattle.octets.proofs.PartLaws.{be-more}
use Rattle.octets.specs.Octets.{of_be, of_le}
use Rattle.octets.proofs.be.Goals as goal

pub loop-i-init : goal.loop-i-init
unfolding of_be of_le
loop-i-init g c = search rules

pub overflow_mul-x : goal.overflow_mul-x
overflow_mul-x g c = omega (arith, below-more c.loop-i.x 0 c.loop-i.i c.loop-i.invariant.1 (omega arith), fits-eight (suc c.loop-i.i) (omega arith))

pub overflow_add-x : goal.overflow_add-x
overflow_add-x g c = omega (arith, below-more c.loop-i.x c.from.result c.loop-i.i c.loop-i.invariant.1 (search rules), fits-eight (suc c.loop-i.i) (omega arith))

pub loop-i-preserved : goal.loop-i-preserved
loop-i-preserved g c =
    let e = be-more c.args.at c.args.s.now c.loop-i.i (omega arith) in
    let b = below-more c.loop-i.x c.from.result c.loop-i.i c.loop-i.invariant.1 (search rules) in
    (rw add-one cc, rw add-one b)
