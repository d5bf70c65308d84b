-- Counter and number fill the array.
use mathlib.Core.Path.{refl}
use Rattle.scheme.specs.Records.{nonce_bytes}
use Rattle.records.proofs.FieldLaws.{opened, number, filled}
use Rattle.octets.proofs.NumberLaws.{length-be}
use Rattle.octets.specs.Octets.{be}
use Rattle.records.proofs.nonce_bytes.Goals as goal

pub returns : goal.returns
unfolding nonce_bytes
returns c =
    let start = c.args in
    let s₁ = opened 12 8 (be 8 start.counter) _ refl (length-be 8 start.counter) c.put_be.ensures in
    filled (number 4 start.token.0 s₁ refl c.put_be-2.ensures)
