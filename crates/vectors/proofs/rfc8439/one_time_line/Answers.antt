-- The block has 64 bytes.
use lib.ListN.{length-take}
use borrow.Author.Rules.{rules}
use Rattle.vectors.proofs.rfc8439.one_time_line.Goals as goal

pub slice_bounds-line-end : goal.slice_bounds-line-end
slice_bounds-line-end g c = simp length-take (search rules)
