-- Eight rounds in turn.
use Rattle.std.proofs.Common.{add-zero}
use Rattle.sha256.specs.Sha256.{rounds_from}
use Rattle.sha256.proofs.rounds8.Goals as goal

pub returns : goal.returns
unfolding rounds_from
returns c =
    let e = add-zero c.args.t in
    cc
