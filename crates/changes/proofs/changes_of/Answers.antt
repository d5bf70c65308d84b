-- The change is known in each arm.
use Rattle.changes.proofs.changes_of.Goals as goal

pub returns-in-Update : goal.returns-in-Update
returns-in-Update c = rw c.in-Update.is c.changes_with.ensures

pub returns-in-Delete : goal.returns-in-Delete
returns-in-Delete c = rw c.in-Delete.is c.changes_with-in-Delete.ensures

pub returns-in-Append : goal.returns-in-Append
returns-in-Append c = rw c.in-Append.is c.changes_with-in-Append.ensures

pub returns-in-Load : goal.returns-in-Load
returns-in-Load c = rw c.in-Load.is c.changes_with-in-Load.ensures

pub returns-in-Batch : goal.returns-in-Batch
returns-in-Batch c = rw (c.in-Batch.is, ← c.item_bytes-each.ensures.0) c.changes_with-in-Batch.ensures
