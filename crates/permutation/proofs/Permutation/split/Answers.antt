-- The halves of a number (split-is).
use mathlib.Core.Path.{refl}
use Rattle.permutation.proofs.HalfLaws.{split-is}
use Rattle.permutation.proofs.Permutation.split.Goals as goal

pub returns : goal.returns
returns c = split-is c.args.self.h c.args.x _ _ c.requires refl c.low.ensures
