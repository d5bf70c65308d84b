-- After i turns the first 2 * i parity blocks are in place, and then the last one where p is odd, by filled_more.
use mathlib.Core.Path.{◌≡◌, refl, sym, ap, ◌∙◌}
use Prim.Native.Nat.{ℕ, ◌+◌, ◌-◌, ◌*◌, ◌≤◌}
use native.Mathlib.Omega.{arith}
use lib.ListN.{length}
use borrow.Author.Rules.{rules}
use Rattle.erasure.specs.Group.{encoded}
use Rattle.erasure.proofs.ListLaws.{filled_more, filled-made}
use Rattle.erasure.proofs.BlockLaws.{room_for, room-some, next-at, next-some, whole-at}
use Rattle.erasure.proofs.ParityLaws.{parity_at, parity-from}
use Rattle.erasure.proofs.Data.encode.Goals as goal

pub loop-i-preserved : goal.loop-i-preserved
loop-i-preserved c =
    let d = c.args.self.now in
    let B = d.blocks.size in
    let l = c.loop-i in
    let at = c.from.result * B in
    let e = ap (λ (m : ℕ). m * B) c.from.ensures in
    let room : at + 2 * B ≤ length l.parity = room-some (2 * l.i) B at 2 2 c.args.p (length l.parity) e refl (omega arith) (omega arith) (search rules) in
    let next : 2 * (l.i + 1) * B ≡ at + 2 * B = ap (λ (m : ℕ). m * B) (omega arith) ∙ sym (next-some (2 * l.i) B at 2 2 e refl) in
    filled_more (2 * l.i * B) at (2 * B) (at + 2 * B - at) (2 * (l.i + 1) * B) (parity_at B d.k d.k d.blocks.bytes.now) l.parity c.encode_two.new.out
    e (omega arith) next room (search rules) l.invariant (parity-from B d.k (2 * l.i) 2 at d.blocks.bytes.now _ c.requires.le_size.0 e c.encode_two.ensures)

pub returns-then-p-eq1 : goal.returns-then-p-eq1
unfolding encoded
returns-then-p-eq1 c =
    let d = c.args.self.now in
    let B = d.blocks.size in
    let p = c.args.p in
    let l = c.loop-i in
    let w = c.from-then-p-eq1 in
    let at = w.result * B in
    let f = parity_at B d.k d.k d.blocks.bytes.now in
    let e : at ≡ (p - 1) * B = ap (λ (m : ℕ). m * B) w.ensures in
    let before : at ≡ 2 * l.i * B = ap (λ (m : ℕ). m * B) (omega (arith, w.ensures)) in
    let whole : p * B ≡ at + B = ap (λ (m : ℕ). m * B) (omega arith) ∙ sym (next-at (p - 1) B at e) in
    let out = c.encode_one.new.out in
    let room : at + B ≤ length l.parity = room_for (p - 1) B at p (length l.parity) e (omega arith) (search rules) in
    filled-made (p * B) (p * B) f _ (search rules) (omega arith)
    (filled_more (2 * l.i * B) at B (at + B - at) (p * B) f l.parity out before (omega arith) whole room (search rules) l.invariant
    (λ t h. parity-from B d.k (p - 1) 1 at d.blocks.bytes.now out c.requires.le_size.0 e c.encode_one.ensures t (omega arith)))

pub returns-else-p-eq1 : goal.returns-else-p-eq1
unfolding encoded
returns-else-p-eq1 c =
    let d = c.args.self.now in
    let B = d.blocks.size in
    let l = c.loop-i in
    filled-made (c.args.p * B) (2 * l.i * B) _ l.parity (search rules) (whole-at (2 * l.i) c.args.p B (2 * l.i * B) refl (omega arith)) l.invariant
