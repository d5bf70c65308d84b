-- After n turns the first n data blocks are in place, by filled_more.
use mathlib.Core.Path.{refl, sym, ap}
use Prim.Native.Nat.{ℕ, ◌+◌, ◌-◌, ◌*◌, ◌≤◌}
use native.Mathlib.Omega.{arith}
use lib.ListN.{length}
use borrow.Author.Rules.{rules}
use Rattle.erasure.specs.Group.{chosen}
use Rattle.erasure.proofs.ListLaws.{filled_more, filled-made}
use Rattle.erasure.proofs.BlockLaws.{room_for, next-at, whole-at}
use Rattle.erasure.proofs.RebuildLaws.{data-new}
use Rattle.erasure.proofs.Left.put_all.Goals as goal

pub loop-n-init : goal.loop-n-init
unfolding chosen
loop-n-init c = (refl, λ i h. absurd (omega arith))

pub loop-n-preserved : goal.loop-n-preserved
loop-n-preserved c =
    let s = c.args.self.now in
    let B = s.blocks.size in
    let l = c.loop-n in
    let p = c.put-i in
    let at = c.from.result * B in
    let e = ap (λ (m : ℕ). m * B) c.from.ensures in
    let room : at + B ≤ length l.group = room_for l.n B at s.k (length l.group) e c.loop-n-test.true (search rules) in (
      p.ensures.value,
      filled_more (l.n * B) at B (at + B - at) ((l.n + 1) * B) _ l.group p.new.acc e (omega arith) (sym (next-at l.n B at e)) room (search rules) l.invariant.1
          (data-new B l.n at s.lost.now s.us.now s.vs.now s.qs.now s.blocks.bytes.now _ e p.ensures.put),
    )

pub returns : goal.returns
returns c =
    let s = c.args.self.now in
    let B = s.blocks.size in
    let l = c.loop-n in
    filled-made (s.k * B) (l.n * B) _ l.group (search rules) (whole-at l.n s.k B (l.n * B) refl (omega arith)) l.invariant.1
