-- The fields of a reply, each behind the one before, fill the buffer.
use mathlib.Core.Path.{◌≡◌, refl}
use mathlib.Core.List.{[], ◌∷◌, ◌++◌}
use lib.ListN.{length}
use Rattle.octets.specs.Octets.{be}
use Rattle.scheme.specs.Records.{reply_bytes}
use Rattle.records.proofs.FieldLaws.{opened, front_long, field, number, filled}
use borrow.Author.Rules.{rules}
use Rattle.records.proofs.write_reply.Goals as goal

pub returns : goal.returns
unfolding reply_bytes
returns c =
    let id8 : length c.args.id ≡ 8 = search rules in
    let dg32 : length c.args.digest ≡ 32 = search rules in
    let s₁ =
    opened 110 11 (be 2 108 ++ (c.args.version ∷ []) ++ c.args.id) c.args.s.now c.requires.0
    (front_long 108 c.args.version c.args.id id8)
    c.put_front.ensures in
    let s₂ = number 4 c.args.token.0 s₁ refl c.put_be.ensures in
    let s₃ = field 32 c.args.digest s₂ refl dg32 c.put32.ensures in
    filled (field 63 c.args.rec.now s₃ refl c.requires.2 c.copy.ensures)
