-- The code by change-early and change-last; a refusal leaves card, table and totals by refusal-keeps; what is written is the scheme's by change-writes.
use Prim.Native.Nat.{ℕ}
use mathlib.Core.Path.{◌≡◌, refl, sym, ◌∙◌}
use Rattle.counts.proofs.RefusedLaws.{refuses, passed-on}
use Rattle.scheme.specs.Changes.{change_code}
use Rattle.standard.specs.Standard.{standard}
use Rattle.cards.proofs.FaultLaws.{card-read}
use Rattle.changes.specs.Kinds.{change_of, table_fault}
use Rattle.changes.proofs.LateLaws.{Early, Held, late-held, fault-keyed, opened, taken}
use Rattle.changes.proofs.CheckLaws.{early-has, change-early, change-last, refusal-keeps, change-writes, changed-room}
use Rattle.changes.proofs.make.Goals.{After-read_card-c, After-file_keys-keys}
use Rattle.changes.proofs.make.Goals as goal

-- what a change has whose checks pass
passes : (c : After-read_card-c) → let a = c.args in Early a.master.now a.card.now a.table.now (change_of a.change) a.totals.now
passes c =
    let a = c.args in
    early-has a.master.now a.card.now a.table.now (change_of a.change) a.totals.now 0 c.in_ok-check.ensures refl

-- and what the card has that was read
holds : (c : After-read_card-c) → let a = c.args in Held c.read_card-c.result a.table.now (change_of a.change)
holds c = late-held c.read_card-c.result c.read_card-c.ensures (passes c)

-- the code is the table's
coded : (c : After-file_keys-keys) (n : ℕ) → n ≡ table_fault c.file_keys-keys.result.k c.read_card-c.result c.args.table.now
    → let a = c.args in n ≡ change_code standard a.master.now a.card.now a.table.now (change_of a.change) a.totals.now
coded c n e =
    let keys = c.file_keys-keys in
    let a = c.args in
    change-last a.master.now a.card.now a.table.now (change_of a.change) a.totals.now 0 n c.in_ok-check.ensures refl
    (fault-keyed a.master.now a.card.now a.table.now keys.result c.read_card-c.result n keys.ensures c.read_card-c.ensures e)

pub returns-in_err-check : goal.returns-in_err-check
returns-in_err-check c =
    let a = c.args in
    let change = change_of a.change in
    let refused = c.in_err-check in
    let s = refuses refused.field-0.0 in
    let whole =
    refusal-keeps a.master.now a.card.now a.table.now change a.totals.now _
    (change-early a.master.now a.card.now a.table.now change a.totals.now _ refused.ensures s) s in record {
      value = passed-on _ _ c.from_residual.ensures ∙ whole.0;
      card_after = whole.1.0;
      table_after = whole.1.1.0;
      totals_after = whole.1.1.1;
    }

pub read_card-c-requires : goal.read_card-c-requires
read_card-c-requires c =
    let a = c.args in
    card-read a.card.now (early-has a.master.now a.card.now a.table.now (change_of a.change) a.totals.now 0 c.in_ok-check.ensures refl).fault

pub file_keys-keys-requires : goal.file_keys-keys-requires
file_keys-keys-requires c = (passes (goal.at.file_keys-keys-requires c).After-read_card-c).key32

pub check_table-requires : goal.check_table-requires
check_table-requires c =
    let h = holds (goal.at.check_table-requires c).After-read_card-c in
    (h.limits.tmost, h.limits.next1, h.limits.nextmost, h.whole)

pub returns-in_err-check_table : goal.returns-in_err-check_table
returns-in_err-check_table c =
    let a = c.args in
    let refused = c.in_err-check_table in
    let whole =
    refusal-keeps a.master.now a.card.now a.table.now (change_of a.change) a.totals.now _
    (coded (goal.at.returns-in_err-check_table c).After-file_keys-keys _ refused.ensures) (refuses refused.field-0.0) in record {
      value = passed-on _ _ c.from_residual-in_err-check_table.ensures ∙ whole.0;
      card_after = whole.1.0;
      table_after = whole.1.1.0;
      totals_after = whole.1.1.1;
    }

pub reseal_for-blocks-requires : goal.reseal_for-blocks-requires
reseal_for-blocks-requires c =
    let before = (goal.at.reseal_for-blocks-requires c).After-read_card-c in
    let h = holds before in
    let r = c.read_card-c.result in
    (opened c.file_keys-keys.result.k r c.args.table.now h (sym c.in_ok-check_table.ensures), taken r h, (passes before).counted)

pub asked-pending-requires : goal.asked-pending-requires
asked-pending-requires c = (holds (goal.at.asked-pending-requires c).After-read_card-c).room

pub write_card-requires : goal.write_card-requires
write_card-requires c =
    let a = c.args in
    let asked = c.asked-pending in
    changed-room a.master.now a.card.now a.table.now (change_of a.change) a.totals.now c.read_card-c.result asked.result c.committed.result c.reseal_for-blocks.result c.read_card-c.ensures
    (passes (goal.at.write_card-requires c).After-read_card-c).fault c.committed.ensures asked.ensures

pub returns : goal.returns
returns c =
    let committed = c.committed in
    let asked = c.asked-pending in
    let sealed = c.reseal_for-blocks in
    let keys = c.file_keys-keys in
    let a = c.args in
    let whole =
    change-writes a.master.now a.card.now a.table.now (change_of a.change) a.totals.now c.read_card-c.result asked.result committed.result sealed.result _ _ _ c.read_card-c.ensures
    (coded (goal.at.returns c).After-file_keys-keys _ c.in_ok-check_table.ensures) c.write_card.ensures committed.ensures asked.ensures
    sealed.ensures.value (sealed.ensures.by_index a.master.now keys.ensures) (sealed.ensures.by_index_2 a.master.now keys.ensures) in record {
      value = whole.0;
      card_after = whole.1.0;
      table_after = whole.1.1.0;
      totals_after = whole.1.1.1;
    }
