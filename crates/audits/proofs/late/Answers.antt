-- The code behind the hours from its tests, by late_of.
use mathlib.Core.Path.{refl, sym, ◌∙◌}
use borrow.Author.Tests.{eq-eqb, ne_eqb, lt-leb, le-leb}
use Rattle.audits.specs.Moments.{moment_of}
use Rattle.audits.proofs.AuditLaws.{late_of}
use Rattle.audits.proofs.late.Goals as goal

pub returns-then-not-allowed : goal.returns-then-not-allowed
returns-then-not-allowed c =
    let a = c.args in
    late_of a.plan.now (moment_of a.time) a.c (sym c.allowed.ensures ∙ c.if-not-allowed.true) refl refl refl

pub returns-then-c-ne0 : goal.returns-then-c-ne0
returns-then-c-ne0 c =
    let a = c.args in
    late_of a.plan.now (moment_of a.time) a.c (sym c.allowed.ensures ∙ c.if-not-allowed.false)
    (ne_eqb a.c.open_token 0 c.if-c-ne0.true) refl refl

pub returns-then-c-ne0-2 : goal.returns-then-c-ne0-2
returns-then-c-ne0-2 c =
    let a = c.args in
    late_of a.plan.now (moment_of a.time) a.c (sym c.allowed.ensures ∙ c.if-not-allowed.false)
    (eq-eqb a.c.open_token 0 c.if-c-ne0.false) (ne_eqb a.c.pending 0 c.if-c-ne0-2.true) refl

pub returns-then-c : goal.returns-then-c
returns-then-c c =
    let a = c.args in
    late_of a.plan.now (moment_of a.time) a.c (sym c.allowed.ensures ∙ c.if-not-allowed.false)
    (eq-eqb a.c.open_token 0 c.if-c-ne0.false) (eq-eqb a.c.pending 0 c.if-c-ne0-2.false) (lt-leb a.c.next a.c.tokens c.if-c.true)

pub returns : goal.returns
returns c =
    let a = c.args in
    late_of a.plan.now (moment_of a.time) a.c (sym c.allowed.ensures ∙ c.if-not-allowed.false)
    (eq-eqb a.c.open_token 0 c.if-c-ne0.false) (eq-eqb a.c.pending 0 c.if-c-ne0-2.false) (le-leb a.c.next a.c.tokens c.if-c.false)
