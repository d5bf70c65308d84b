-- Two halves put together (joined_is).
use Rattle.permutation.proofs.MachineLaws.{joined_is}
use Rattle.permutation.proofs.Permutation.join.Goals as goal

pub returns : goal.returns
returns c = joined_is c.args.self.h c.args.x.high c.args.x.low c.args.self.narrow c.requires.0 c.requires.1
