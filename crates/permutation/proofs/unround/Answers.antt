-- The round function keeps to h bits, so that the halves are those of the round undone (undone-is).
use Rattle.permutation.specs.Permutation.{round_function}
use Rattle.permutation.proofs.PermutationLaws.{within}
use Rattle.permutation.proofs.HalfLaws.{undone-is}
use Rattle.permutation.proofs.unround.Goals as goal

pub returns : goal.returns
returns g c =
    let p = g.V.Values.under c.args.f in
    undone-is (round_function p.key p.h) p.h (within p.key p.h) c.args.q c.args.x.high c.args.x.low _ (c.requires.1) c.value.ensures
