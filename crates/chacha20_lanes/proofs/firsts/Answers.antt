-- The states, ten double rounds and the sums of the first words, by first-is.
use Rattle.std.proofs.Common.{refl, rules}
use Rattle.chacha20.specs.ChaCha20.{◌⊞◌}
use Rattle.chacha20_lanes.proofs.FirstLaws.{first-is}
use Rattle.chacha20_lanes.proofs.firsts.Goals as goal

pub returns : goal.returns
unfolding ◌⊞◌
returns c =
    λ k h. first-is c.args.key _ _ _ _ (search rules) _ refl c.states-s.ensures c.doubles_each.ensures k _ h (search rules)
