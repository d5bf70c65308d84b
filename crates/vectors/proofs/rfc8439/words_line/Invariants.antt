-- Word i goes to the four bytes from 4 i on.
use Rattle.std.proofs.Common.{◌≡◌, length}
use Rattle.vectors.proofs.rfc8439.words_line.Given as goal

abbrev pub invariant-loop-i : goal.invariant-loop-i
invariant-loop-i g l = length l.out ≡ 64
