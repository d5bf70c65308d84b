-- A refusal leaves the card, by judge-kept; either verdict closes the draw, by judge-done.
use mathlib.Core.Path.{refl, ap, ◌∙◌}
use mathlib.Core.List.{List}
use Prim.Native.Nat.{ℕ}
use Rattle.counts.specs.Refused.{number}
use Rattle.counts.proofs.RefusedLaws.{refuses, err-on}
use Rattle.cards.specs.Fields.{card_of}
use Rattle.cards.proofs.FaultLaws.{turned-room}
use Rattle.scheme.specs.Records.{card_bytes}
use Rattle.scheme.specs.Judging as J
use Rattle.standard.specs.Standard.{standard}
use Rattle.judging.specs.Causes.{verdict_in}
use Rattle.judging.proofs.JudgeLaws.{judge-held, judge-kept, judge-done}
use Rattle.judging.proofs.judge.Goals as goal

pub returns-in_err-master : goal.returns-in_err-master
returns-in_err-master c =
    let e = c.in_err-master.field-0.0 in
    let kept = judge-kept c.args.master.now c.args.card.now c.args.reply.now (number e) c.in_err-master.ensures.code (refuses e) in
    record { value = ap verdict_in (err-on _ e c.from_residual.ensures) ∙ kept.0; card_after = kept.1 }

pub write_card-requires : goal.write_card-requires
write_card-requires c =
    let k = c.in_ok-master.ensures in
    let held = judge-held c.args.master.now c.args.card.now 0 k.code refl in
    turned-room c.args.card.now c.in_ok-master.c k.kept.1 held.fault c.turned.result _ _ c.turned.ensures

pub returns : goal.returns
unfolding card_of
returns c =
    let k = c.in_ok-master.ensures in
    let why = c.reply_cause-why.ensures ∙ ap (λ (m : List ℕ). J.cause standard m (card_of c.in_ok-master.c) c.args.reply.now) k.kept.0 in
    let done =
    judge-done c.args.master.now c.args.card.now c.args.reply.now 0 k.code (card_of c.in_ok-master.c) _ _ refl k.kept.1
    (c.from.ensures ∙ ap J.verdict_of why) (c.write_card.ensures ∙ ap card_bytes c.turned.ensures) in
    record { value = done.0; card_after = done.1 }
