-- A refusal leaves the reply and the totals, by prove-kept; else the reply holds digest and record, by prove-done, and the totals the digest's totals, by
-- prove-counted.
use mathlib.Core.List.{List}
use Prim.Native.Nat.{ℕ}
use mathlib.Core.Path.{refl, ap₂, ◌∙◌}
use Rattle.counts.specs.Refused.{number}
use Rattle.counts.proofs.RefusedLaws.{refuses, passed-on}
use native.Mathlib.Omega.{arith}
use Rattle.records.specs.Fields.{message_of}
use Rattle.scheme.specs.Records.{reply_bytes}
use Rattle.scheme.specs.Totals.{totals_bytes}
use Rattle.audits.proofs.AuditLaws.{prove-held, prove-long, prove-kept, prove-done, prove-counted, record-cut, cut-long}
use Rattle.audits.proofs.prove.Goals as goal

pub returns-in_err-check_prove : goal.returns-in_err-check_prove
returns-in_err-check_prove c =
    let e = c.in_err-check_prove.field-0.0 in
    let k = prove-kept c.args.message.now c.args.blocks.now c.args.marks.now c.args.table.now c.args.reply.now c.args.totals.now (number e) c.in_err-check_prove.ensures (refuses e) in record {
      value = passed-on _ e c.from_residual.ensures ∙ c.in_err-check_prove.ensures;
      reply_after = k.0;
      totals_after = k.1;
    }

pub read_message-m-requires : goal.read_message-m-requires
read_message-m-requires c =
    prove-long c.args.message.now c.args.blocks.now c.args.marks.now c.args.table.now c.args.reply.now c.args.totals.now 0 c.in_ok-check_prove.ensures refl

pub answer-x-requires : goal.answer-x-requires
answer-x-requires c =
    let message = c.read_message-m in
    let held = prove-held c.args.message.now c.args.blocks.now c.args.marks.now c.args.table.now c.args.reply.now c.args.totals.now 0 c.in_ok-check_prove.ensures message.result message.ensures refl in
    let l = held.limits in record {
      le_rows = (l.shape.d1, l.shape.dmost, l.shape.Bmost, l.nmost, l.shape.rd, l.shape.rmost);
      blocks_len = (held.whole, held.each);
    }

pub overflow_sub-a : goal.overflow_sub-a
overflow_sub-a c =
    let message = c.read_message-m in
    let held = prove-held c.args.message.now c.args.blocks.now c.args.marks.now c.args.table.now c.args.reply.now c.args.totals.now 0 c.in_ok-check_prove.ensures message.result message.ensures refl in
    held.limits.i1

pub overflow_mul-a : goal.overflow_mul-a
overflow_mul-a c =
    let message = c.read_message-m in
    let held = prove-held c.args.message.now c.args.blocks.now c.args.marks.now c.args.table.now c.args.reply.now c.args.totals.now 0 c.in_ok-check_prove.ensures message.result message.ensures refl in
    let most = held.limits.imost in
    omega arith

pub overflow_add-e : goal.overflow_add-e
overflow_add-e c =
    let message = c.read_message-m in
    let held = prove-held c.args.message.now c.args.blocks.now c.args.marks.now c.args.table.now c.args.reply.now c.args.totals.now 0 c.in_ok-check_prove.ensures message.result message.ensures refl in
    let most = held.limits.imost in
    omega arith

pub slice_bounds-write_reply-end : goal.slice_bounds-write_reply-end
slice_bounds-write_reply-end c =
    let message = c.read_message-m in
    let held = prove-held c.args.message.now c.args.blocks.now c.args.marks.now c.args.table.now c.args.reply.now c.args.totals.now 0 c.in_ok-check_prove.ensures message.result message.ensures refl in
    let fits = held.there in
    let one = held.limits.i1 in
    omega arith

pub write_reply-requires : goal.write_reply-requires
write_reply-requires c =
    let message = c.read_message-m in
    let held = prove-held c.args.message.now c.args.blocks.now c.args.marks.now c.args.table.now c.args.reply.now c.args.totals.now 0 c.in_ok-check_prove.ensures message.result message.ensures refl in
    (held.room, held.small, cut-long message.result.token c.args.table.now held.limits.i1 held.there)

pub write_totals-requires : goal.write_totals-requires
write_totals-requires c =
    let message = c.read_message-m in
    let held = prove-held c.args.message.now c.args.blocks.now c.args.marks.now c.args.table.now c.args.reply.now c.args.totals.now 0 c.in_ok-check_prove.ensures message.result message.ensures refl in
    held.counted

pub returns : goal.returns
unfolding message_of
returns c =
    let message = c.read_message-m in
    let m = message.result in record {
      value = c.in_ok-check_prove.ensures;
      reply_after = prove-done c.args.message.now c.args.blocks.now c.args.marks.now c.args.table.now c.args.reply.now c.args.totals.now 0 c.in_ok-check_prove.ensures (message_of m) _ refl message.ensures
          (c.write_reply.ensures
          ∙ ap₂ (λ (u v : List ℕ). reply_bytes m.version m.id m.token u v) c.answer-x.ensures.digest_value (record-cut m.token c.args.table.now));
      totals_after = prove-counted c.args.message.now c.args.blocks.now c.args.marks.now c.args.table.now c.args.reply.now c.args.totals.now 0 c.in_ok-check_prove.ensures (message_of m) _ refl message.ensures
          (c.write_totals.ensures ∙ ap₂ totals_bytes c.answer-x.ensures.turns_value.0 c.answer-x.ensures.turns_value.1);
    }
