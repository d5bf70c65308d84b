-- The half width of d is at most 10 (half_le).
use native.Mathlib.Omega.{arith}
use Rattle.permutation.proofs.WidthLaws.{half_le}
use Rattle.permutation.proofs.Permutation.new.Goals as goal

pub invariant_of-result : goal.invariant_of-result
invariant_of-result c = record {
  some = c.requires.0;
  few = c.requires.1;
  half = c.half_width-h.ensures;
  narrow = omega (arith, c.half_width-h.ensures, half_le c.args.d c.requires.1);
}
