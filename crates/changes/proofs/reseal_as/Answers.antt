-- Each arm hands over the block changes of its change, with their marks, by update-changes to batch-changes; what they leave and take is the change's, by resealed.
use mathlib.Core.Path.{sym}
use lib.Seq.{length-take-le}
use Rattle.changes.proofs.BlockChangeLaws.{zeros-long, resealed, update-changes, delete-changes, append-changes, load-changes, batch-changes}
use Rattle.changes.proofs.reseal_as.Goals as goal

pub slice_bounds-live-end : goal.slice_bounds-live-end
slice_bounds-live-end c =
    let counted = c.marks_in-k in
    sym (length-take-le counted.result _ counted.ensures.1)

pub reseal-requires : goal.reseal-requires
reseal-requires c =
    let a = c.args in
    let w = update-changes a.c a.change a.changes c.requires.changes_value.0 c.requires.changes_value.1 _ c.marks_in-k.ensures.0 _ _ _ _ c.in-Update.is in
    (c.requires.opens, w.shaped, w.lent)

pub slice_bounds-reseal-end : goal.slice_bounds-reseal-end
slice_bounds-reseal-end c =
    let counted = c.marks_in-k in
    sym (length-take-le counted.result _ counted.ensures.1)

pub slice_bounds-reseal-end-in-Delete : goal.slice_bounds-reseal-end-in-Delete
slice_bounds-reseal-end-in-Delete c =
    zeros-long c.args.c.block_bytes 4096 c.requires.changes_value.1.small

pub reseal-requires-in-Delete : goal.reseal-requires-in-Delete
reseal-requires-in-Delete c =
    let a = c.args in
    let w = delete-changes a.c a.change a.changes c.requires.changes_value.0 c.requires.changes_value.1 _ c.marks_in-k.ensures.0 _ _ _ c.in-Delete.is in
    (c.requires.opens, w.shaped, w.lent)

pub reseal-requires-in-Append : goal.reseal-requires-in-Append
reseal-requires-in-Append c =
    let a = c.args in
    let w = append-changes a.c a.change a.changes c.requires.changes_value.0 c.requires.changes_value.1 _ c.marks_in-k.ensures.0 _ c.in-Append.is in
    (c.requires.opens, w.shaped, w.lent)

pub reseal-requires-in-Load : goal.reseal-requires-in-Load
reseal-requires-in-Load c =
    let a = c.args in
    let w = load-changes a.c a.change a.changes c.requires.changes_value.0 c.requires.changes_value.1 _ c.marks_in-k.ensures.0 _ c.in-Load.is in
    (c.requires.opens, w.shaped, w.lent)

pub reseal-requires-in-Batch : goal.reseal-requires-in-Batch
reseal-requires-in-Batch c =
    let a = c.args in
    let w = batch-changes a.c a.change a.changes c.requires.changes_value.0 c.requires.changes_value.1 _ c.marks_in-k.ensures.0 _ c.in-Batch.is in
    (c.requires.opens, w.shaped, w.lent)

pub returns-in-Update : goal.returns-in-Update
returns-in-Update c =
    let a = c.args in
    let w = update-changes a.c a.change a.changes c.requires.changes_value.0 c.requires.changes_value.1 _ c.marks_in-k.ensures.0 _ _ _ _ c.in-Update.is in
    let whole =
    resealed a.keys a.table.now _ _ _ w (c.reseal.ensures.by_index, c.reseal.ensures.by_index_2) in record {
      by_index = whole.0;
      by_index_2 = whole.1;
    }

pub returns-in-Delete : goal.returns-in-Delete
returns-in-Delete c =
    let a = c.args in
    let w = delete-changes a.c a.change a.changes c.requires.changes_value.0 c.requires.changes_value.1 _ c.marks_in-k.ensures.0 _ _ _ c.in-Delete.is in
    let whole =
    resealed a.keys a.table.now _ _ _ w (c.reseal-in-Delete.ensures.by_index, c.reseal-in-Delete.ensures.by_index_2) in record {
      by_index = whole.0;
      by_index_2 = whole.1;
    }

pub returns-in-Append : goal.returns-in-Append
returns-in-Append c =
    let a = c.args in
    let w = append-changes a.c a.change a.changes c.requires.changes_value.0 c.requires.changes_value.1 _ c.marks_in-k.ensures.0 _ c.in-Append.is in
    let whole =
    resealed a.keys a.table.now _ _ _ w (c.reseal-in-Append.ensures.by_index, c.reseal-in-Append.ensures.by_index_2) in record {
      by_index = whole.0;
      by_index_2 = whole.1;
    }

pub returns-in-Load : goal.returns-in-Load
returns-in-Load c =
    let a = c.args in
    let w = load-changes a.c a.change a.changes c.requires.changes_value.0 c.requires.changes_value.1 _ c.marks_in-k.ensures.0 _ c.in-Load.is in
    let whole =
    resealed a.keys a.table.now _ _ _ w (c.reseal-in-Load.ensures.by_index, c.reseal-in-Load.ensures.by_index_2) in record {
      by_index = whole.0;
      by_index_2 = whole.1;
    }

pub returns-in-Batch : goal.returns-in-Batch
returns-in-Batch c =
    let a = c.args in
    let w = batch-changes a.c a.change a.changes c.requires.changes_value.0 c.requires.changes_value.1 _ c.marks_in-k.ensures.0 _ c.in-Batch.is in
    let whole =
    resealed a.keys a.table.now _ _ _ w (c.reseal-in-Batch.ensures.by_index, c.reseal-in-Batch.ensures.by_index_2) in record {
      by_index = whole.0;
      by_index_2 = whole.1;
    }
