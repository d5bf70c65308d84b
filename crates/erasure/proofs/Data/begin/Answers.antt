-- There are k numbers.
use mathlib.Core.Path.{sym, ap, ◌∙◌}
use lib.ListN.{length}
use Rattle.erasure.proofs.BlockLaws.{count-length}
use Rattle.erasure.proofs.Data.begin.Goals as goal

pub weights_of-requires-clause-out_len : goal.weights_of-requires-clause-out_len
weights_of-requires-clause-out_len c =
    c.requires ∙ sym (ap length c.args.self.now.counted ∙ count-length 0 c.args.self.now.k)
