-- One byte more, by put-be-more.
use Prim.Native.Nat.{suc, ◌+◌, ◌-◌}
use native.Mathlib.Omega.{arith}
use native.Mathlib.Nat.{sub_self, div-one}
use mathlib.Core.Path.{◌≡◌, sym}
use Rattle.octets.proofs.NumberLaws.{div-more}
use Rattle.octets.proofs.PartLaws.{put-none, put-be-more}
use Rattle.octets.specs.Octets.{be, le}
use Rattle.octets.proofs.put_be.Goals as goal

pub loop-i-init : goal.loop-i-init
unfolding be le
loop-i-init g c = rw sub_self (sym (put-none (c.args.at + g.row.N) c.args.s.now), sym (div-one c.args.x))

pub loop-i-preserved : goal.loop-i-preserved
loop-i-preserved g c =
    let a : c.args.at + (c.loop-i.i - 1) + 1 ≡ c.args.at + c.loop-i.i = omega arith in
    let k : suc (g.row.N - c.loop-i.i) ≡ g.row.N - (c.loop-i.i - 1) = omega arith in
    let e = put-be-more (c.args.at + (c.loop-i.i - 1)) c.args.s.now c.args.x (g.row.N - c.loop-i.i) c.loop-i.s (omega arith) (rw a c.loop-i.invariant.0) in
    let d = div-more c.args.x (g.row.N - c.loop-i.i) in
    (cc, cc)

pub returns : goal.returns
returns g c =
    let a : c.args.at + c.loop-i.i ≡ c.args.at = omega arith in
    let k : g.row.N - c.loop-i.i ≡ g.row.N = omega arith in
    rw (a, k) at c.loop-i.invariant.0
