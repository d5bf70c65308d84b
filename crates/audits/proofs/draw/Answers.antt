-- A refusal leaves both buffers, by draw-kept; else they hold the message and the turned card, by draw-done.
use mathlib.Core.Path.{refl, ap, ◌∙◌}
use Rattle.counts.specs.Refused.{number}
use Rattle.counts.proofs.RefusedLaws.{refuses, passed-on}
use Rattle.audits.specs.Moments.{moment_of}
use native.Mathlib.Omega.{arith}
use Rattle.cards.specs.Fields.{card_of}
use Rattle.cards.proofs.FaultLaws.{card-read, card-held, turned-room}
use Rattle.scheme.specs.Records.{card_bytes, message_bytes}
use Rattle.audits.proofs.AuditLaws.{draw-held, draw-kept, draw-done, message-small}
use Rattle.audits.proofs.draw.Goals as goal

pub returns-in_err-check_draw : goal.returns-in_err-check_draw
returns-in_err-check_draw c =
    let e = c.in_err-check_draw.field-0.0 in
    let whole = draw-kept c.args.master.now c.args.card.now c.args.message.now c.args.plan.now (moment_of c.args.time) (number e) c.in_err-check_draw.ensures (refuses e) in record {
      value = passed-on _ e c.from_residual.ensures ∙ c.in_err-check_draw.ensures;
      card_after = whole.0;
      message_after = whole.1;
    }

pub read_card-c-requires : goal.read_card-c-requires
read_card-c-requires c =
    let held = draw-held c.args.master.now c.args.card.now c.args.message.now c.args.plan.now (moment_of c.args.time) 0 c.in_ok-check_draw.ensures refl in
    card-read c.args.card.now held.fault

pub message_for-m-requires : goal.message_for-m-requires
message_for-m-requires c =
    let held = draw-held c.args.master.now c.args.card.now c.args.message.now c.args.plan.now (moment_of c.args.time) 0 c.in_ok-check_draw.ensures refl in
    held.key32

pub write_message-requires : goal.write_message-requires
write_message-requires c =
    let card = c.read_card-c in
    let held = draw-held c.args.master.now c.args.card.now c.args.message.now c.args.plan.now (moment_of c.args.time) 0 c.in_ok-check_draw.ensures refl in
    (held.room, message-small c.args.master.now card.result c.message_for-m.result c.args.card.now card.ensures held.fault c.message_for-m.ensures)

pub overflow_add-c : goal.overflow_add-c
overflow_add-c c =
    let card = c.read_card-c in
    let held = draw-held c.args.master.now c.args.card.now c.args.message.now c.args.plan.now (moment_of c.args.time) 0 c.in_ok-check_draw.ensures refl in
    let limits = card-held c.args.card.now card.result card.ensures held.fault in
    let most = limits.tmost in
    let next = limits.nextmost in
    omega arith

pub write_card-requires : goal.write_card-requires
write_card-requires c =
    let card = c.read_card-c in
    let held = draw-held c.args.master.now c.args.card.now c.args.message.now c.args.plan.now (moment_of c.args.time) 0 c.in_ok-check_draw.ensures refl in
    turned-room c.args.card.now card.result card.ensures held.fault c.turned-after.result _ _ c.turned-after.ensures

pub returns : goal.returns
unfolding card_of
returns c =
    let card = c.read_card-c in
    let done =
    draw-done c.args.master.now c.args.card.now c.args.message.now c.args.plan.now (moment_of c.args.time) 0 c.in_ok-check_draw.ensures (card_of card.result) _ _ refl card.ensures
    (c.write_card.ensures ∙ ap card_bytes c.turned-after.ensures)
    (c.write_message.ensures ∙ ap message_bytes c.message_for-m.ensures) in
    let whole = done in record {
      value = c.in_ok-check_draw.ensures;
      card_after = whole.0;
      message_after = whole.1;
    }
