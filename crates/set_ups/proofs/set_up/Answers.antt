-- The code, then the records one by one, then the card and the totals, by set-up-table, set-up-card and set-up-totals.
use mathlib.Core.Path.{refl, ◌∙◌}
use Rattle.counts.specs.Refused.{number}
use Rattle.counts.proofs.RefusedLaws.{refuses, passed-on}
use Rattle.cards.specs.Fields.{card_of}
use Rattle.set_ups.proofs.SetUpLaws.{set-up-held, set-up-kept, set-up-card, set-up-table, set-up-totals}
use Rattle.set_ups.proofs.set_up.Goals as goal

pub returns-in_err-check : goal.returns-in_err-check
returns-in_err-check c =
    let a = c.args in
    let e = c.in_err-check.field-0.0 in
    let k = set-up-kept a.master.now a.id.now a.numbers.version a.numbers.block_bytes a.numbers.rows a.numbers.positions a.numbers.tokens a.numbers.blocks a.blocks.now a.card.now a.table.now a.totals.now {code = number e} c.in_err-check.ensures (refuses e) in record {
      value = passed-on _ e c.from_residual.ensures ∙ c.in_err-check.ensures;
      card_after = k.0;
      table_after = k.1;
      totals_after = k.2;
    }

pub file_id-file-requires : goal.file_id-file-requires
file_id-file-requires c = let a = c.args in (set-up-held a.master.now a.id.now a.numbers.version a.numbers.block_bytes a.numbers.rows a.numbers.positions a.numbers.tokens a.numbers.blocks a.blocks.now a.card.now a.table.now a.totals.now {code = 0} c.in_ok-check.ensures refl).id8

pub file_keys-keys-requires : goal.file_keys-keys-requires
file_keys-keys-requires c = let a = c.args in (set-up-held a.master.now a.id.now a.numbers.version a.numbers.block_bytes a.numbers.rows a.numbers.positions a.numbers.tokens a.numbers.blocks a.blocks.now a.card.now a.table.now a.totals.now {code = 0} c.in_ok-check.ensures refl).key32

pub fill_table-changes-requires : goal.fill_table-changes-requires
fill_table-changes-requires c =
    let a = c.args in
    let h = set-up-held a.master.now a.id.now a.numbers.version a.numbers.block_bytes a.numbers.rows a.numbers.positions a.numbers.tokens a.numbers.blocks a.blocks.now a.card.now a.table.now a.totals.now {code = 0} c.in_ok-check.ensures refl in record {
      version_bound = (h.small, h.shape.d1, h.shape.dmost, h.shape.Bmost, h.nmost, h.whole);
      positions_le_rows = (h.shape.rd, h.shape.rmost, h.tmost, h.table_long);
    }

pub write_card-requires : goal.write_card-requires
write_card-requires c =
    let a = c.args in
    let h = set-up-held a.master.now a.id.now a.numbers.version a.numbers.block_bytes a.numbers.rows a.numbers.positions a.numbers.tokens a.numbers.blocks a.blocks.now a.card.now a.table.now a.totals.now {code = 0} c.in_ok-check.ensures refl in
    (h.card_long, h.small)

pub write_totals-requires : goal.write_totals-requires
write_totals-requires c = let a = c.args in (set-up-held a.master.now a.id.now a.numbers.version a.numbers.block_bytes a.numbers.rows a.numbers.positions a.numbers.tokens a.numbers.blocks a.blocks.now a.card.now a.table.now a.totals.now {code = 0} c.in_ok-check.ensures refl).room

pub returns : goal.returns
unfolding card_of
returns c =
    let a = c.args in
    let e = c.in_ok-check.ensures in
    let id = c.file_id-file in record {
      value = e;
      card_after = set-up-card a.master.now a.id.now a.numbers.version a.numbers.block_bytes a.numbers.rows a.numbers.positions a.numbers.tokens a.numbers.blocks a.blocks.now a.card.now a.table.now a.totals.now {code = 0} e refl _ _ id.ensures c.write_card.ensures;
      table_after = set-up-table a.master.now a.id.now a.numbers.version a.numbers.block_bytes a.numbers.rows a.numbers.positions a.numbers.tokens a.numbers.blocks a.blocks.now a.card.now a.table.now a.totals.now {code = 0} e refl _ _ _ id.ensures c.file_keys-keys.ensures c.fill_table-changes.ensures.table_after;
      totals_after = set-up-totals a.master.now a.id.now a.numbers.version a.numbers.block_bytes a.numbers.rows a.numbers.positions a.numbers.tokens a.numbers.blocks a.blocks.now a.card.now a.table.now a.totals.now {code = 0} e refl _ _ _ _ _ id.ensures c.file_keys-keys.ensures
          c.fill_table-changes.ensures.turns_value.0 c.fill_table-changes.ensures.turns_value.1 c.write_totals.ensures;
    }
