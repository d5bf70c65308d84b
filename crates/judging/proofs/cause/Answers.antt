-- A refusal is judge's, by cause-kept; else it is the cause's place, by cause-done.
use Prim.Native.Nat.{ℕ, ◌*◌}
use mathlib.Core.Path.{refl, ap, ◌∙◌}
use mathlib.Core.List.{List}
use Rattle.counts.specs.Refused.{number}
use Rattle.counts.proofs.RefusedLaws.{refuses, err-on}
use Rattle.cards.specs.Fields.{card_of}
use Rattle.scheme.specs.Judging as J
use Rattle.standard.specs.Standard.{standard}
use Rattle.judging.specs.Causes.{cause_in}
use Rattle.judging.proofs.JudgeLaws.{cause-kept, cause-done}
use Rattle.judging.proofs.cause.Goals as goal

pub returns-in_err-master : goal.returns-in_err-master
returns-in_err-master c =
    let e = c.in_err-master.field-0.0 in
    ap cause_in (err-on _ e c.from_residual.ensures)
    ∙ cause-kept c.args.master.now c.args.card.now c.args.reply.now (number e) c.in_err-master.ensures.code (refuses e)

pub returns : goal.returns
returns c =
    let k = c.in_ok-master.ensures in
    let why = c.reply_cause.ensures ∙ ap (λ (m : List ℕ). J.cause standard m (card_of c.in_ok-master.c) c.args.reply.now) k.kept.0 in
    cause-done c.args.master.now c.args.card.now c.args.reply.now 0 k.code (card_of c.in_ok-master.c) _ refl k.kept.1
    (ap (λ (w : J.Cause). 256 * J.cause_number w) why)
