-- Three numbers in a row, by three-put.
use mathlib.Core.Path.{refl}
use Rattle.records.proofs.FieldLaws.{three-put}
use Rattle.cards.proofs.put_asks.Goals as goal

pub returns : goal.returns
returns c =
    three-put 43 8 8 4 51 59 c.args.last c.args.pending c.args.count c.args.s.now refl refl c.requires
    c.put_be.ensures c.put_be-2.ensures c.put_be-3.ensures
