-- Before round 16 * i every lane stands where All says, by first, turn, last_turn and last.
use Rattle.std.proofs.Common.{◌≡◌, ◌+◌, ◌*◌, ◌≤◌, length, ap, ◌∙◌, arith}
use Rattle.sha256_lanes.proofs.CompressLaws.{All_at, first, turn, last_turn, last, length-sums}
use Rattle.sha256_lanes.proofs.compress.Goals as goal
use Rattle.sha256_lanes.proofs.compress.Goals.{then-i-lt3, else-i-lt3}

pub loop-i-init : goal.loop-i-init
loop-i-init c = first _ _ _ _ _ c.requires.0 _ _ c.requires.3 c.requires.2 c.load_each.ensures

pub loop-i-preserved : goal.loop-i-preserved
loop-i-preserved c =
    let l = c.loop-i in
    let early : 16 * l.i ≤ 48 = omega (arith, c.loop-i-test.true) in
    let on : 16 * l.i + 16 ≡ 16 * (l.i + 1) = omega arith in
    All_at on (
    elim c.if-i-lt3.branch [
      | then-i-lt3 w ↦ turn _ _ _ _ _ c.requires.0 _ _ _ (16 * l.i) early c.rounds_each.ensures l.invariant _ (w.w-is ∙ w.next_each.ensures)
      | else-i-lt3 w ↦ last_turn _ _ _ _ _ c.requires.0 _ _ _ (16 * l.i) early c.rounds_each.ensures l.invariant _ w.w-is (omega (arith, w.if-i-lt3.false))
    ]
    )

pub returns : goal.returns
returns c =
    let l = c.loop-i in record {
      pressed = last _ _ _ _ _ _ _ _ (16 * l.i) c.requires.0 c.requires.2 (omega (arith, c.loop-i-test.false)) (omega arith) c.sums.ensures l.invariant;
      h_len = (ap length c.sums.ensures ∙ length-sums 128 _ _ ∙ c.requires.2, l.invariant.lw);
    }
