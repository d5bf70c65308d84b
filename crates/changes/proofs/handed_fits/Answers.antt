-- Each arm's test is that of its change.
use Rattle.cards.specs.Fields.{card_of}
use Rattle.changes.proofs.handed_fits.Goals as goal

pub returns-in-Update : goal.returns-in-Update
unfolding card_of
returns-in-Update c = rw (c.in-Update.is, c.marks_in-told.ensures.0)

pub returns-in-Delete : goal.returns-in-Delete
unfolding card_of
returns-in-Delete c = rw (c.in-Delete.is, c.marks_in-told.ensures.0)

pub returns-in-Append : goal.returns-in-Append
unfolding card_of
returns-in-Append c = rw c.in-Append.is

pub returns-in-Load : goal.returns-in-Load
returns-in-Load c = rw c.in-Load.is

pub returns-in-Batch : goal.returns-in-Batch
returns-in-Batch c = rw c.in-Batch.is
