-- Head, number and sum behind one another, by front-put.
use Rattle.pools.proofs.GatherLaws.{head-long, front-put}
use Rattle.octets.proofs.NumberLaws.{length-be}
use Rattle.octets.specs.Octets.{be}
use native.Mathlib.Omega.{arith}
use mathlib.Core.List.{[], ◌∷◌, ◌++◌}
use mathlib.Core.Path.{◌∙◌}
use Prim.Native.Nat.{◌+◌, ◌*◌}
use Rattle.pools.proofs.gathering.put_front.Goals as goal

pub returns : goal.returns
returns c =
    c.copy.ensures
    ∙ front-put (be 2 (35 + 75 * c.args.count) ++ (1 ∷ [])) (be 2 c.args.count) c.args.sum c.args.pooled.now _ _ (head-long (35 + 75 * c.args.count)) (length-be 2 c.args.count)
    (omega arith) c.requires.0 c.put_head.ensures c.put_be.ensures
