-- What is summed and what is left of the row are the row, by row_more.
use Rattle.std.proofs.Common.{◌≡◌, length, drop}
use Rattle.gf256.specs.Field.{plus}
use Rattle.cauchy.specs.Solve.{row}
use Rattle.cauchy.proofs.row_of.Given as goal

abbrev pub invariant-loop-v : goal.invariant-loop-v
invariant-loop-v l =
    plus l.sum (row l.u (drop (length l.yielded) l.vs) (drop (length l.yielded) l.ds)) ≡ row l.u l.vs l.ds
