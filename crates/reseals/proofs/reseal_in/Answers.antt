-- What is left to reseal gives the same table, the records left still open, and each turn takes one, by turn and reseal-more; what is counted and the
-- totals that are left are the whole, by totals-step.
use borrow.Author.Rules.{rules}
use native.Mathlib.Omega.{arith}
use mathlib.Core.Path.{refl, sym, ◌∙◌}
use Prim.Native.Nat.{◌≤◌, ◌<◌}
use Rattle.scheme.proofs.laws.TableLaws.{reseal-end}
use Rattle.standard.specs.Standard.{standard}
use Rattle.cards.specs.Fields.{card_of}
use Rattle.block_changes.specs.BlockChanges.{items_of}
use Rattle.reseals.specs.Resealed.{turns_from, hashes_from}
use Rattle.reseals.proofs.ResealLaws.{bad-opens, turn, reseal-more, lent-few, totals-step, totals-end, totals-fit, totals-keyed}
use Rattle.reseals.proofs.reseal_in.Goals.{Start}
use Rattle.reseals.proofs.reseal_in.Goals as goal

pub loop-i-init : goal.loop-i-init
loop-i-init c =
    (c.requires.opens.0.whole, c.requires.opens.0.opens, (λ master k. refl), omega arith, omega arith, c.requires.space)

pub reseal_one-done-requires : goal.reseal_one-done-requires
reseal_one-done-requires c =
    let l = c.loop-i in
    let a = c.args in
    let h : l.i ≤ a.c.tokens = omega arith in record {
      room = l.invariant.5;
      version_bound = (c.requires.opens.0.small_version, c.requires.opens.0.room, c.requires.opens.1, c.requires.opens.2);
      le_i = ((omega (arith, c.requires.opens.0.next1)), omega (arith, h, c.requires.opens.0.few_tokens), omega (arith, h, l.invariant.0));
      table_value = bad-opens a.keys.k a.c.version a.c.counter a.c.tokens l.i l.table (omega (arith, c.requires.opens.0.next1)) h l.invariant.1;
    }

-- the totals of the whole change fit
fit : (s : Start)
    → (turns_from s.args.keys (card_of s.args.c) (items_of s.args.changes s.args.old_mark.now s.args.old.now s.args.new_mark.now s.args.new.now) s.args.c.next < 18446744073709551616)
    × (hashes_from s.args.keys (card_of s.args.c) (items_of s.args.changes s.args.old_mark.now s.args.old.now s.args.new_mark.now s.args.new.now) s.args.c.next < 18446744073709551616)
unfolding card_of
fit s =
    let a = s.args in
    let few = lent-few a.changes a.old_mark.now a.old.now a.new_mark.now a.new.now s.requires.opens.2 in
    let rows = s.requires.opens.1.rows in
    totals-fit a.keys (card_of a.c) (items_of a.changes a.old_mark.now a.old.now a.new_mark.now a.new.now)
    (omega (arith, few.0, rows)) (omega (arith, few.1, rows)) s.requires.opens.0.few_tokens s.requires.opens.0.next1 few.2

pub overflow_add-turns : goal.overflow_add-turns
unfolding card_of
overflow_add-turns c =
    let l = c.loop-i in
    let a = c.args in
    let items = items_of a.changes a.old_mark.now a.old.now a.new_mark.now a.new.now in
    omega (arith, c.reseal_one-done.ensures.turns_value.0, (totals-step a.keys (card_of a.c) items l.i (omega arith)).0, l.invariant.3, (fit (goal.at.overflow_add-turns c).Start).0)

pub overflow_add-hashes : goal.overflow_add-hashes
unfolding card_of
overflow_add-hashes c =
    let l = c.loop-i in
    let a = c.args in
    let items = items_of a.changes a.old_mark.now a.old.now a.new_mark.now a.new.now in
    omega (arith, c.reseal_one-done.ensures.turns_value.1, (totals-step a.keys (card_of a.c) items l.i (omega arith)).1, l.invariant.4, (fit (goal.at.overflow_add-hashes c).Start).1)

pub loop-i-preserved : goal.loop-i-preserved
unfolding card_of
loop-i-preserved c =
    let one = c.reseal_one-done in
    let l = c.loop-i in
    let a = c.args in
    let items = items_of a.changes a.old_mark.now a.old.now a.new_mark.now a.new.now in
    let h : l.i ≤ a.c.tokens = omega arith in
    let put = one.ensures.table_after in
    let both = turn a.keys (card_of a.c) items a.c.tokens l.i l.table _ (omega (arith, c.requires.opens.0.next1)) h l.invariant.0 l.invariant.1 one.ensures.table_len put in
    let step = totals-step a.keys (card_of a.c) items l.i h in (
      both.0,
      both.1,
      (λ master k. reseal-more (card_of a.c) items a.c.tokens l.i l.table _ k h put ∙ l.invariant.2 master k),
      omega (arith, one.ensures.turns_value.0, step.0, l.invariant.3),
      omega (arith, one.ensures.turns_value.1, step.1, l.invariant.4),
      (λ m. search (rules, l.invariant.5 m)),
    )

pub shape_of-table : goal.shape_of-table
shape_of-table c = c.loop-i.invariant.0 ∙ sym c.requires.opens.0.whole

pub returns : goal.returns
unfolding card_of
returns c =
    let l = c.loop-i in
    let a = c.args in
    let items = items_of a.changes a.old_mark.now a.old.now a.new_mark.now a.new.now in
    let end = totals-end a.keys (card_of a.c) items l.i (omega arith) in record {
      by_index = (λ master k. sym (reseal-end standard master (card_of a.c) items a.c.tokens l.i l.table (omega arith)) ∙ l.invariant.2 master k);
      by_index_2 = λ master k.
          let all = totals-keyed a.keys (card_of a.c) items k in
          (omega (arith, all.0, end.0, l.invariant.3), omega (arith, all.1, end.1, l.invariant.4));
    }
