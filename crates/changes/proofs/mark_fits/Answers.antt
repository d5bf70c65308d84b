-- The mark of an update or a deletion; the other changes hand over none.
use Rattle.scheme.specs.Marks.{marks_fit}
use Rattle.changes.proofs.mark_fits.Goals as goal

pub returns-in-Update : goal.returns-in-Update
returns-in-Update c = rw c.in-Update.is c.marks_fit.ensures

pub returns-in-Delete : goal.returns-in-Delete
returns-in-Delete c = rw c.in-Delete.is c.marks_fit-in-Delete.ensures

pub returns-in-Append : goal.returns-in-Append
unfolding marks_fit
returns-in-Append c = rw c.in-Append.is

pub returns-in-Load : goal.returns-in-Load
unfolding marks_fit
returns-in-Load c = rw c.in-Load.is

pub returns-in-Batch : goal.returns-in-Batch
unfolding marks_fit
returns-in-Batch c = rw c.in-Batch.is
