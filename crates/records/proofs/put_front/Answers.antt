-- The file id stands behind the head, by front-put.
use mathlib.Core.Path.{◌≡◌}
use lib.ListN.{length}
use Rattle.records.proofs.FieldLaws.{front-put}
use borrow.Author.Rules.{rules}
use Rattle.records.proofs.put_front.Goals as goal

pub returns : goal.returns
returns c =
    let id8 : length c.args.id ≡ 8 = search rules in
    front-put c.args.len c.args.version c.args.id c.args.s.now c.requires.0 id8
    c.put_head.ensures c.copy.ensures
