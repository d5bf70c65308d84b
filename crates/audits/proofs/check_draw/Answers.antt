-- The code of a draw from its two parts, by draw-refused and draw-passed.
use mathlib.Core.Path.{refl, sym, ap, ◌∙◌}
use mathlib.Core.List.{List}
use Prim.Native.Nat.{ℕ}
use Rattle.counts.specs.Refused.{number}
use Rattle.counts.proofs.RefusedLaws.{refuses, passed-on}
use Rattle.scheme.specs.Checks.{first}
use Rattle.scheme.specs.Calls.{draw_late}
use Rattle.standard.specs.Standard.{standard}
use Rattle.cards.specs.Fields.{card_of}
use Rattle.cards.proofs.FaultLaws.{card-read}
use Rattle.audits.specs.Moments.{moment_of}
use Rattle.audits.proofs.AuditLaws.{early-held, draw-refused, draw-passed}
use Rattle.audits.proofs.check_draw.Goals as goal

pub returns-in_err-plan : goal.returns-in_err-plan
returns-in_err-plan c =
    let e = c.in_err-plan.field-0.0 in
    passed-on _ e c.from_residual.ensures
    ∙ draw-refused c.args.master.now c.args.card.now c.args.message.now c.args.plan.now (moment_of c.args.time) (number e) c.in_err-plan.ensures.code (refuses e)

pub read_card-requires : goal.read_card-requires
read_card-requires c =
    card-read c.args.card.now (early-held c.args.master.now c.args.card.now c.args.message.now c.args.plan.now (moment_of c.args.time) (sym c.in_ok-plan.ensures.code)).fault

pub late-requires : goal.late-requires
late-requires c = (early-held c.args.master.now c.args.card.now c.args.message.now c.args.plan.now (moment_of c.args.time) (sym c.in_ok-plan.ensures.code)).timely

pub returns : goal.returns
returns c =
    draw-passed c.args.master.now c.args.card.now c.args.message.now c.args.plan.now (moment_of c.args.time) 0 c.in_ok-plan.ensures.code _ c.read_card.result refl c.read_card.ensures
    (c.late.ensures ∙ ap (λ (p : List ℕ). first 0 (draw_late standard (card_of c.read_card.result) p (moment_of c.args.time))) c.in_ok-plan.ensures.kept)
