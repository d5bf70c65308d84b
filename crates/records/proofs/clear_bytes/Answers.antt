-- Head, counter and number fill the array.
use mathlib.Core.Path.{refl}
use Rattle.scheme.specs.Records.{clear_bytes}
use Rattle.records.proofs.FieldLaws.{opened, head-long, number, filled}
use Rattle.octets.specs.Octets.{be}
use mathlib.Core.List.{[], ◌∷◌, ◌++◌}
use Rattle.records.proofs.clear_bytes.Goals as goal

pub returns : goal.returns
unfolding clear_bytes
returns c =
    let start = c.args in
    let s₁ = opened 15 3 (be 2 61 ++ (start.version ∷ [])) _ refl (head-long 61 start.version) c.put_head.ensures in
    let s₂ = number 8 start.counter s₁ refl c.put_be.ensures in
    filled (number 4 start.token.0 s₂ refl c.put_be-2.ensures)
