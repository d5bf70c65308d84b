-- The HMAC has 32 bytes.
use lib.ListN.{length-take}
use borrow.Author.Rules.{rules}
use Rattle.vectors.proofs.rfc4231.show.Goals as goal

pub slice_bounds-line-end : goal.slice_bounds-line-end
slice_bounds-line-end g c = simp length-take (search rules)
