-- The fields of a message, each behind the one before, fill the buffer.
use mathlib.Core.Path.{◌≡◌, refl}
use mathlib.Core.List.{[], ◌∷◌, ◌++◌}
use lib.ListN.{length}
use Rattle.octets.specs.Octets.{be}
use Rattle.scheme.specs.Records.{message_bytes}
use Rattle.records.specs.Fields.{message_of}
use Rattle.records.proofs.FieldLaws.{opened, front_long, field, shape, number, filled}
use borrow.Author.Rules.{rules}
use Rattle.records.proofs.write_message.Goals as goal

pub returns : goal.returns
unfolding message_bytes message_of
returns c =
    let id8 : length c.args.m.id ≡ 8 = search rules in
    let k32 : length c.args.m.draw_key ≡ 32 = search rules in
    let c32 : length c.args.m.hash_key ≡ 32 = search rules in
    let s₁ =
    opened 91 11 (be 2 89 ++ (c.args.m.version ∷ []) ++ c.args.m.id) c.args.s.now c.requires.0
    (front_long 89 c.args.m.version c.args.m.id id8)
    c.put_front.ensures in
    let s₂ = number 4 c.args.m.token s₁ refl c.put_be.ensures in
    let s₃ = shape c.args.m.block_bytes c.args.m.rows c.args.m.positions s₂ refl c.put_shape.ensures in
    let s₄ = number 4 c.args.m.blocks s₃ refl c.put_be-2.ensures in
    let s₅ = field 32 c.args.m.draw_key s₄ refl k32 c.put32.ensures in
    filled (field 32 c.args.m.hash_key s₅ refl c32 c.put32-2.ensures)
