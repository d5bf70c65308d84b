-- The first i words stand in the array, by first_step and next-step.
use Rattle.std.proofs.Common.{◌≡◌, length, take}
use Rattle.sha256.specs.Sha256 as S
use Rattle.sha256.proofs.schedule.Given as goal

abbrev pub invariant-loop-i : goal.invariant-loop-i
invariant-loop-i l = (length l.w ≡ 64) × (take l.i l.w ≡ S.schedule l.block l.i)

abbrev pub invariant-loop-i-2 : goal.invariant-loop-i-2
invariant-loop-i-2 l = (length l.w ≡ 64) × (take l.i l.w ≡ S.schedule l.block l.i)
