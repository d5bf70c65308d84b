-- Before round 16 * i every lane stands where All says, by first, turn, last_turn and last.
use Rattle.std.proofs.Common.{◌*◌}
use Rattle.sha256_lanes.proofs.CompressLaws.{All}
use Rattle.sha256_lanes.proofs.compress.Given as goal

abbrev pub invariant-loop-i : goal.invariant-loop-i
invariant-loop-i l = All l.p l.at l.a l.l l.h l.w l.s (16 * l.i)
