-- The cause from its tests in their order, by cause-of: those of the 110 bytes that the reply has.
use mathlib.Core.Path.{◌≡◌, refl, sym, ap, ◌∙◌}
use mathlib.Core.Bool.{true}
use mathlib.Core.List.{List}
use Prim.Native.Nat.{ℕ}
use borrow.Author.Tests.{eq-eqb, ne_eqb}
use lib.Dec.{eqb}
use lib.ListN.{length}
use Rattle.scheme.specs.Judging as J
use Rattle.standard.specs.Standard.{standard}
use Rattle.cards.specs.Fields.{card_of}
use Rattle.judging.specs.Causes.{sealed_cause}
use Rattle.judging.proofs.JudgeLaws.{cause-of}
use Rattle.judging.proofs.reply_cause.Goals.{In-Ok}
use Rattle.judging.proofs.reply_cause.Goals as goal

-- the reply has 110 bytes
long : (c : In-Ok) → eqb (length c.in-Ok.reply.now) 110 ≡ true
long c = eq-eqb (length c.in-Ok.reply.now) 110 (ap length c.in-Ok.ensures.1.same ∙ c.in-Ok.ensures.1.long)

pub returns-in_default : goal.returns-in_default
returns-in_default c =
    cause-of c.args.master.now c.args.c c.args.reply.now (ne_eqb (length c.args.reply.now) 110 c.in_default.ensures.1) refl refl refl refl

pub returns-then-not-heads_fit : goal.returns-then-not-heads_fit
returns-then-not-heads_fit c =
    cause-of c.args.master.now c.args.c c.in-Ok.reply.now (long (goal.at.returns-then-not-heads_fit c).In-Ok)
    (sym c.heads_fit.ensures ∙ c.if-not-heads_fit.true) refl refl refl
    ∙ ap (J.cause standard c.args.master.now (card_of c.args.c)) c.in-Ok.ensures.1.same

pub returns-then-not-names_fit : goal.returns-then-not-names_fit
returns-then-not-names_fit c =
    let names = rw (c.bytes.ensures, c.be-i.ensures.0, c.record_in-rec.ensures) at c.names_fit.ensures in
    cause-of c.args.master.now c.args.c c.in-Ok.reply.now (long (goal.at.returns-then-not-names_fit c).In-Ok)
    (sym c.heads_fit.ensures ∙ c.if-not-heads_fit.false) (sym names ∙ c.if-not-names_fit.true) refl refl
    ∙ ap (J.cause standard c.args.master.now (card_of c.args.c)) c.in-Ok.ensures.1.same

pub returns-then-be-c : goal.returns-then-be-c
returns-then-be-c c =
    let names = rw (c.bytes.ensures, c.be-i.ensures.0, c.record_in-rec.ensures) at c.names_fit.ensures in
    let counter = rw c.record_in-rec.ensures at c.be.ensures.0 in
    cause-of c.args.master.now c.args.c c.in-Ok.reply.now (long (goal.at.returns-then-be-c c).In-Ok)
    (sym c.heads_fit.ensures ∙ c.if-not-heads_fit.false) (sym names ∙ c.if-not-names_fit.false)
    (ne_eqb _ c.args.c.counter (λ z. c.if-be-c.true (counter ∙ z))) refl
    ∙ ap (J.cause standard c.args.master.now (card_of c.args.c)) c.in-Ok.ensures.1.same

pub returns : goal.returns
returns c =
    let names = rw (c.bytes.ensures, c.be-i.ensures.0, c.record_in-rec.ensures) at c.names_fit.ensures in
    let counter = rw c.record_in-rec.ensures at c.be.ensures.0 in
    cause-of c.args.master.now c.args.c c.in-Ok.reply.now (long (goal.at.returns c).In-Ok)
    (sym c.heads_fit.ensures ∙ c.if-not-heads_fit.false) (sym names ∙ c.if-not-names_fit.false)
    (eq-eqb _ c.args.c.counter (sym counter ∙ c.if-be-c.false))
    (c.sealed_cause.ensures
    ∙ ap (λ (key : List ℕ). sealed_cause key c.args.c.counter c.args.c.open_token c.in-Ok.reply.now) c.sealing_key-k.ensures)
    ∙ ap (J.cause standard c.args.master.now (card_of c.args.c)) c.in-Ok.ensures.1.same
