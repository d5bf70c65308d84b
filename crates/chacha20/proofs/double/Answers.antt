-- `chacha20::double` meets its contract: its eight quarter rounds, by `double-is` of `BlockLaws`.
-- Assumes nothing.
use Rattle.chacha20.proofs.BlockLaws.{double-is}
use Rattle.std.proofs.Common.{rules}
use Rattle.chacha20.proofs.double.Goals as goal

pub returns : goal.returns
returns c =
    double-is c.args.v (search rules)
    c.quarter-p.ensures
    c.quarter-q.ensures
    c.quarter-r.ensures
    c.quarter-s.ensures
    c.quarter-t.ensures
    c.quarter-u.ensures
    c.quarter-w.ensures
    c.quarter-x.ensures
