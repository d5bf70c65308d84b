-- One byte more, by put-le-more.
use native.Mathlib.Omega.{arith}
use native.Mathlib.Nat.{div-one}
use native.Mathlib.Numerals.{add-one}
use mathlib.Core.Path.{sym}
use Rattle.octets.proofs.NumberLaws.{div-more}
use Rattle.octets.proofs.PartLaws.{put-le-more, put-none}
use Rattle.octets.specs.Octets.{le}
use Rattle.octets.proofs.put_le.Goals as goal

pub loop-i-init : goal.loop-i-init
unfolding le
loop-i-init g c = (sym (put-none c.args.at c.args.s.now), sym (div-one c.args.x))

pub loop-i-preserved : goal.loop-i-preserved
loop-i-preserved g c =
    let e = put-le-more c.args.at c.args.s.now c.args.x c.loop-i.i c.loop-i.s (omega arith) c.loop-i.invariant.0 in
    let d = div-more c.args.x c.loop-i.i in
    (cc, rw add-one cc)
