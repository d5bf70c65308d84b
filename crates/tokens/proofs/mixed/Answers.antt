-- The hash of the new content alone, or both.
use mathlib.Core.Path.{ap, ap₂, ◌∙◌}
use Rattle.octets.specs.Octets.{xors}
use Rattle.scheme.specs.Tokens.{mixed}
use Rattle.tokens.proofs.mixed.Goals as goal

pub returns-in-None : goal.returns-in-None
unfolding mixed
returns-in-None c = rw c.in-None.is (c.xor.ensures ∙ ap (xors c.args.x) c.block_hash-added.ensures)

pub returns-in-Some : goal.returns-in-Some
unfolding mixed
returns-in-Some c =
    rw c.in-Some.is (c.xor-in-Some.ensures ∙ ap₂ xors (c.xor-y.ensures ∙ ap (xors c.args.x) c.block_hash-removed.ensures) c.block_hash-added.ensures)
