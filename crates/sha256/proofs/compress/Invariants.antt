-- After i turns the working variables are those of 8 * i rounds, by eight, and then the first i words are sums.
use Rattle.std.proofs.Common.{◌≡◌, ℕ, ◌*◌, ◌<◌, ◌≤◌, length, get_or}
use Rattle.sha256.specs.Sha256 as S
use Rattle.sha256.specs.Sha256.{◌⊞◌}
use Rattle.sha256.proofs.compress.Given as goal

abbrev pub invariant-loop-i : goal.invariant-loop-i
invariant-loop-i l = (length l.v ≡ 8) × (l.v ≡ S.rounds l.w l.h (8 * l.i))

abbrev pub invariant-loop-i-2 : goal.invariant-loop-i-2
invariant-loop-i-2 l = record {
  eight : length l.h ≡ 8;
  added : (k : ℕ) → k < l.i → get_or l.h k 0 ≡ get_or l.v k 0 ⊞ get_or l.initial.h k 0;
  left : (k : ℕ) → l.i ≤ k → get_or l.h k 0 ≡ get_or l.initial.h k 0;
}
