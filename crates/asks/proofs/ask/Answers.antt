-- The code by ask-early and ask-last; a refusal leaves card, second table and totals by refusal-keeps; what is written is the scheme's by ask-writes.
use native.Mathlib.Omega.{arith}
use Prim.Native.Nat.{ℕ}
use mathlib.Core.Path.{◌≡◌, refl, sym, subst, ◌∙◌}
use mathlib.Core.List.{List}
use Rattle.counts.proofs.RefusedLaws.{refuses, passed-on}
use Rattle.scheme.specs.Asks.{ask_code}
use Rattle.standard.specs.Standard.{standard}
use Rattle.cards.proofs.FaultLaws.{card-read}
use Rattle.reseals.specs.Resealed.{Opens}
use Rattle.changes.specs.Kinds.{change_of, table_fault}
use Rattle.changes.proofs.LateLaws.{Held, late-held, fault-keyed, opened, taken}
use Rattle.asks.proofs.AskLaws.{Asked, asked-has, ask-early, ask-last, refusal-keeps, copied, ask-writes, asked-room}
use Rattle.asks.proofs.ask.Goals.{After-copy, After-read_card-c, After-file_keys-keys}
use Rattle.asks.proofs.ask.Goals as goal

-- what an ask has whose checks pass
passes : (c : After-read_card-c)
    → let a = c.args in Asked a.master.now a.card.now a.table.now a.second.now (change_of a.change) a.totals.now
passes c =
    let a = c.args in
    let change = change_of a.change in
    asked-has a.master.now a.card.now a.table.now a.second.now change a.totals.now 0 c.in_ok-check.ensures refl

-- and what the card has that was read
holds : (c : After-read_card-c) → let a = c.args in Held c.read_card-c.result a.table.now (change_of a.change)
holds c = late-held c.read_card-c.result c.read_card-c.ensures (passes c).early

-- the code is the table's
coded : (c : After-file_keys-keys) (n : ℕ) → n ≡ table_fault c.file_keys-keys.result.k c.read_card-c.result c.args.table.now
    → let a = c.args in n ≡ ask_code standard a.master.now a.card.now a.table.now a.second.now (change_of a.change) a.totals.now
coded c n e =
    let keys = c.file_keys-keys in
    let a = c.args in
    ask-last a.master.now a.card.now a.table.now a.second.now (change_of a.change) a.totals.now 0 n c.in_ok-check.ensures refl
    (fault-keyed a.master.now a.card.now a.table.now keys.result c.read_card-c.result n keys.ensures c.read_card-c.ensures e)

-- the second table, once the standing one is copied
doubled : (c : After-copy) → let a = c.args in c.copy.new.dst ≡ a.table.now
doubled c =
    let a = c.args in
    let change = change_of a.change in
    copied a.master.now a.card.now a.table.now a.second.now change a.totals.now _ (asked-has a.master.now a.card.now a.table.now a.second.now change a.totals.now 0 c.in_ok-check.ensures refl) c.copy.ensures

pub returns-in_err-check : goal.returns-in_err-check
returns-in_err-check c =
    let a = c.args in
    let change = change_of a.change in
    let refused = c.in_err-check in
    let s = refuses refused.field-0.0 in
    let whole =
    refusal-keeps a.master.now a.card.now a.table.now a.second.now change a.totals.now _
    (ask-early a.master.now a.card.now a.table.now a.second.now change a.totals.now _ refused.ensures s) s in record {
      value = passed-on _ _ c.from_residual.ensures ∙ whole.0;
      card_after = whole.1.0;
      second_after = whole.1.1.0;
      totals_after = whole.1.1.1;
    }

pub read_card-c-requires : goal.read_card-c-requires
read_card-c-requires c =
    let a = c.args in
    card-read a.card.now (asked-has a.master.now a.card.now a.table.now a.second.now (change_of a.change) a.totals.now 0 c.in_ok-check.ensures refl).early.fault

pub file_keys-keys-requires : goal.file_keys-keys-requires
file_keys-keys-requires c = (passes (goal.at.file_keys-keys-requires c).After-read_card-c).early.key32

pub check_table-requires : goal.check_table-requires
check_table-requires c =
    let h = holds (goal.at.check_table-requires c).After-read_card-c in
    (h.limits.tmost, h.limits.next1, h.limits.nextmost, h.whole)

pub returns-in_err-check_table : goal.returns-in_err-check_table
returns-in_err-check_table c =
    let a = c.args in
    let refused = c.in_err-check_table in
    let whole =
    refusal-keeps a.master.now a.card.now a.table.now a.second.now (change_of a.change) a.totals.now _
    (coded (goal.at.returns-in_err-check_table c).After-file_keys-keys _ refused.ensures) (refuses refused.field-0.0) in record {
      value = passed-on _ _ c.from_residual-in_err-check_table.ensures ∙ whole.0;
      card_after = whole.1.0;
      second_after = whole.1.1.0;
      totals_after = whole.1.1.1;
    }

pub copy-requires : goal.copy-requires
copy-requires c =
    let h = passes (goal.at.copy-requires c).After-read_card-c in
    omega (arith, h.room, h.early.late.whole)

pub reseal_for-blocks-requires : goal.reseal_for-blocks-requires
reseal_for-blocks-requires c =
    let h = holds (goal.at.reseal_for-blocks-requires c).After-read_card-c in
    let r = c.read_card-c.result in
    let key = c.file_keys-keys.result.k in (
      subst (λ (xs : List ℕ). Opens key r xs) (sym (doubled (goal.at.reseal_for-blocks-requires c).After-copy))
          (opened key r c.args.table.now h (sym c.in_ok-check_table.ensures)),
      taken r h,
      (passes (goal.at.reseal_for-blocks-requires c).After-read_card-c).early.counted,
    )

pub asked-requires : goal.asked-requires
asked-requires c = (holds (goal.at.asked-requires c).After-read_card-c).room

pub write_card-requires : goal.write_card-requires
write_card-requires c =
    let a = c.args in
    let change = change_of a.change in
    asked-room a.master.now a.card.now a.table.now a.second.now change a.totals.now c.read_card-c.result c.asked.result c.reseal_for-blocks.result c.read_card-c.ensures
    (passes (goal.at.write_card-requires c).After-read_card-c).early.fault c.asked.ensures

pub returns : goal.returns
returns c =
    let asked = c.asked in
    let sealed = c.reseal_for-blocks in
    let keys = c.file_keys-keys in
    let a = c.args in
    let change = change_of a.change in
    let whole =
    ask-writes a.master.now a.card.now a.table.now a.second.now change a.totals.now c.read_card-c.result asked.result sealed.result _ _ _ _ c.read_card-c.ensures
    (coded (goal.at.returns c).After-file_keys-keys _ c.in_ok-check_table.ensures) c.write_card.ensures asked.ensures sealed.ensures.value (doubled (goal.at.returns c).After-copy)
    (sealed.ensures.by_index a.master.now keys.ensures) (sealed.ensures.by_index_2 a.master.now keys.ensures) in record {
      value = whole.0;
      card_after = whole.1.0;
      second_after = whole.1.1.0;
      totals_after = whole.1.1.1;
    }
