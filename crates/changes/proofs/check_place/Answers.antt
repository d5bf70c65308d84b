-- The refusal of each arm is that of its change.
use Rattle.cards.specs.Fields.{card_of}
use Rattle.changes.proofs.check_place.Goals as goal

pub returns-in-Update : goal.returns-in-Update
unfolding card_of
returns-in-Update c = rw c.in-Update.is c.check_block.ensures

pub returns-in-Delete : goal.returns-in-Delete
unfolding card_of
returns-in-Delete c = rw c.in-Delete.is c.check_block-in-Delete.ensures

pub returns-in-Append : goal.returns-in-Append
unfolding card_of
returns-in-Append c = rw c.in-Append.is c.check_append.ensures

pub returns-in-Load : goal.returns-in-Load
unfolding card_of
returns-in-Load c = rw c.in-Load.is c.check_load.ensures

pub returns-in-Batch : goal.returns-in-Batch
returns-in-Batch c = rw c.in-Batch.is c.check_batch.ensures
