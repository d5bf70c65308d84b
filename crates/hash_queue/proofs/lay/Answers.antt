-- The head, the parts of the block and the padding are written one behind the other, by short-laid.
use borrow.Author.Rules.{rules}
use mathlib.Core.Path.{ap}
use lib.ListN.{length}
use Rattle.hash_queue.proofs.MessageLaws.{short-laid}
use Rattle.hash_queue.proofs.lay.Goals as goal

pub copy-requires-4 : goal.copy-requires-4
copy-requires-4 c =
    let padded = ap length c.requires.2 in
    search rules

pub returns : goal.returns
returns c =
    let a = c.args in
    short-laid a.head.now a.message.now a.far.now a.pad.now a.a a.size a.f c.requires.0 c.requires.1 c.requires.2 c.requires.3 _ _ _ _
    c.copy.ensures
    c.copy-2.ensures
    c.copy-3.ensures
    c.copy-4.ensures
