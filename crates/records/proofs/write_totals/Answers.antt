-- Turns and hashes fill the buffer.
use mathlib.Core.Path.{refl}
use Rattle.scheme.specs.Totals.{totals_bytes}
use Rattle.records.proofs.FieldLaws.{opened, number, filled}
use Rattle.octets.proofs.NumberLaws.{length-be}
use Rattle.octets.specs.Octets.{be}
use Rattle.records.proofs.write_totals.Goals as goal

pub returns : goal.returns
unfolding totals_bytes
returns c =
    let s₁ = opened 16 8 (be 8 c.args.t.turns) c.args.s.now c.requires (length-be 8 c.args.t.turns) c.put_be.ensures in
    filled (number 8 c.args.t.hashes s₁ refl c.put_be-2.ensures)
