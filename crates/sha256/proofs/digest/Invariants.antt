-- After i turns the bytes of the first i words are in place, by again.
use Rattle.std.proofs.Common.{◌≡◌, ◌*◌, length, take}
use Rattle.sha256.specs.Sha256 as S
use Rattle.sha256.proofs.digest.Given as goal

abbrev pub invariant-loop-i : goal.invariant-loop-i
invariant-loop-i l = (length l.out ≡ 32) × (take (l.i * 4) l.out ≡ S.digest (take l.i l.h))
