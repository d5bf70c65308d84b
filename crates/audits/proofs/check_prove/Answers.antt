-- The code of the host's proof from its tests, by prove-of.
use mathlib.Core.Path.{refl, sym, ◌∙◌}
use Rattle.counts.specs.Refused.{number}
use Rattle.counts.proofs.RefusedLaws.{refuses, passed-on}
use Rattle.records.proofs.FaultLaws.{message-fine, message-held}
use Rattle.audits.proofs.AuditLaws.{prove-short, prove-refused, prove-of}
use Rattle.audits.proofs.check_prove.Goals as goal

pub returns-then-not-room_fits : goal.returns-then-not-room_fits
returns-then-not-room_fits c =
    prove-short c.args.message.now c.args.blocks.now c.args.marks.now c.args.table.now c.args.reply.now c.args.totals.now (sym c.room_fits.ensures ∙ c.if-not-room_fits.true)

pub returns-in_err-check_message : goal.returns-in_err-check_message
returns-in_err-check_message c =
    let e = c.in_err-check_message.field-0.0 in
    passed-on _ e c.from_residual.ensures
    ∙ prove-refused c.args.message.now c.args.blocks.now c.args.marks.now c.args.table.now c.args.reply.now c.args.totals.now (number e) c.in_err-check_message.ensures
    (sym c.room_fits.ensures ∙ c.if-not-room_fits.false) (refuses e)

pub read_message-m-requires : goal.read_message-m-requires
read_message-m-requires c = (message-fine c.args.message.now (sym c.in_ok-check_message.ensures)).long

pub host_fits-requires : goal.host_fits-requires
host_fits-requires c =
    let l =
    message-held c.read_message-m.result c.args.message.now c.read_message-m.ensures
    (sym c.in_ok-check_message.ensures) in
    (l.shape.Bmost, l.nmost, l.imost)

pub returns-then-not-host_fits : goal.returns-then-not-host_fits
returns-then-not-host_fits c =
    prove-of c.args.message.now c.args.blocks.now c.args.marks.now c.args.table.now c.args.reply.now c.args.totals.now c.read_message-m.result (sym c.room_fits.ensures ∙ c.if-not-room_fits.false)
    (sym c.in_ok-check_message.ensures) c.read_message-m.ensures (sym c.host_fits.ensures ∙ c.if-not-host_fits.true) refl

pub returns-then-not-marks_fit : goal.returns-then-not-marks_fit
returns-then-not-marks_fit c =
    prove-of c.args.message.now c.args.blocks.now c.args.marks.now c.args.table.now c.args.reply.now c.args.totals.now c.read_message-m.result (sym c.room_fits.ensures ∙ c.if-not-room_fits.false)
    (sym c.in_ok-check_message.ensures) c.read_message-m.ensures (sym c.host_fits.ensures ∙ c.if-not-host_fits.false) (sym c.marks_fit.ensures ∙ c.if-not-marks_fit.true)

pub returns : goal.returns
returns c =
    prove-of c.args.message.now c.args.blocks.now c.args.marks.now c.args.table.now c.args.reply.now c.args.totals.now c.read_message-m.result (sym c.room_fits.ensures ∙ c.if-not-room_fits.false)
    (sym c.in_ok-check_message.ensures) c.read_message-m.ensures (sym c.host_fits.ensures ∙ c.if-not-host_fits.false) (sym c.marks_fit.ensures ∙ c.if-not-marks_fit.false)
