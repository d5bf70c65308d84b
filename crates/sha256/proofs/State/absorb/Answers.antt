-- A piece that leaves the block open, by short, or fills it, by long.
use Rattle.std.proofs.Common.{◌≡◌, ◌+◌, ◌-◌, ◌*◌, ◌/◌, ◌%◌, ◌++◌, length, take, drop, refl, sym, ap, ◌∙◌, arith, rules, take_all, length-drop, zero-add}
use Rattle.octets.specs.Octets.{put}
use Rattle.octets.proofs.PartLaws.{take_put, put-end}
use Rattle.sha256.specs.Sha256.{chain}
use Rattle.sha256.proofs.AbsorbLaws.{short, long}
use Rattle.sha256.proofs.State.absorb.Goals as goal

pub returns-then-n-room : goal.returns-then-n-room
returns-then-n-room c =
    let s = c.args.self.now in
    let fill = s.fill in
    let p = c.args.piece.now in
    let n : length s.buf ≡ 64 = search rules in (
      omega arith,
      refl,
      short s _ p (search rules) n refl (omega arith) refl refl
          (ap (take (fill + length p)) c.copy.ensures ∙ take_put fill p s.buf (omega arith)),
    )

pub returns-else-n-room : goal.returns-else-n-room
returns-else-n-room c =
    let s = c.args.self.now in
    let fill = s.fill in
    let p = c.args.piece.now in
    let a = c.split_at.result.0.now in
    let d = c.split_at.result.1.now in
    let n : length s.buf ≡ 64 = search rules in
    let la : length a ≡ 64 - fill = search rules in
    let whole : a ++ d ≡ p = search rules in
    let ld : length (drop (length d / 64 * 64) d) ≡ length d % 64 = length-drop (length d / 64 * 64) d ∙ omega arith in
    let tail = drop (length d / 64 * 64) d in
    let b = c.copy-else-n-room.new.dst in
    let all : take (length d - length d / 64 * 64) tail ≡ tail = take_all _ _ (omega (arith, ld)) in
    let kept : take (length d % 64) (put 0 tail b) ≡ tail =
    ap (λ k. take k (put 0 tail b)) (sym (zero-add _ ∙ ld)) ∙ take_put 0 tail b (omega (arith, ld)) in (
      omega (arith, ld),
      refl,
      long s _ p (search rules) n refl a d _ whole la (omega (arith, ld)) (c.copy-else-n-room.ensures ∙ put-end fill a s.buf (omega arith))
          (c.blocks-else-n-room.ensures ∙ ap (λ h. chain (length d / 64) h d) c.compress.ensures)
          (ap (take (length d % 64)) (c.copy-else-n-room-2.ensures ∙ ap (λ l. put 0 l b) all) ∙ kept),
    )
