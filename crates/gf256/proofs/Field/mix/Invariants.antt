-- After i turns the first i bytes are mixed, by mixed-more.
use mathlib.Core.Path.{◌≡◌}
use Rattle.gf256.specs.Mixing.{mixed_one}
use Rattle.gf256.proofs.ZipLaws.{zip_to}
use Rattle.gf256.proofs.Field.mix.Given as goal

abbrev pub invariant-loop-i : goal.invariant-loop-i
invariant-loop-i l = l.acc ≡ zip_to (mixed_one l.w) l.i l.block l.initial.acc
