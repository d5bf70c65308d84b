-- The ways out of the checks, by late_of.
use borrow.Author.Rules.{rules}
use borrow.Author.Tests.{lt-ltb, le-ltb, eq-eqb, ne_eqb}
use Prim.Native.Nat.{◌*◌}
use mathlib.Core.Path.{◌≡◌, refl, sym, ◌∙◌}
use mathlib.Core.Bool.{true}
use lib.ListN.{length}
use Rattle.scheme.proofs.laws.CheckLaws.{refusal-kept}
use Rattle.counts.specs.Refused.{number}
use Rattle.counts.proofs.RefusedLaws.{refuses, passed-on}
use Rattle.changes.specs.Kinds.{change_of}
use Rattle.changes.proofs.LateLaws.{late_of}
use Rattle.changes.proofs.late.Goals as goal

pub returns-then-table-c : goal.returns-then-table-c
returns-then-table-c c =
    let a = c.args in
    let change = change_of a.change in
    late_of a.c a.table.now change (ne_eqb (length a.table.now) (a.c.tokens * 63) c.if-table-c.true) refl refl refl refl refl refl refl refl

pub returns-then-not-handed : goal.returns-then-not-handed
returns-then-not-handed c =
    let a = c.args in
    let change = change_of a.change in
    late_of a.c a.table.now change (eq-eqb (length a.table.now) (a.c.tokens * 63) c.if-table-c.false)
    c.handed_fits-handed.ensures (c.if-not-handed.true) refl refl refl refl refl refl

pub returns-then-not-low : goal.returns-then-not-low
returns-then-not-low c =
    let a = c.args in
    let change = change_of a.change in
    late_of a.c a.table.now change (eq-eqb (length a.table.now) (a.c.tokens * 63) c.if-table-c.false)
    c.handed_fits-handed.ensures (c.if-not-handed.false)
    c.mark_fits-low.ensures (c.if-not-low.true) refl refl refl refl

pub returns-then-c-ne0 : goal.returns-then-c-ne0
returns-then-c-ne0 c =
    let a = c.args in
    let change = change_of a.change in
    late_of a.c a.table.now change (eq-eqb (length a.table.now) (a.c.tokens * 63) c.if-table-c.false)
    c.handed_fits-handed.ensures (c.if-not-handed.false)
    c.mark_fits-low.ensures (c.if-not-low.false)
    (ne_eqb a.c.open_token 0 c.if-c-ne0.true) refl refl refl

pub returns-then-c-ne0-2 : goal.returns-then-c-ne0-2
returns-then-c-ne0-2 c =
    let a = c.args in
    let change = change_of a.change in
    late_of a.c a.table.now change (eq-eqb (length a.table.now) (a.c.tokens * 63) c.if-table-c.false)
    c.handed_fits-handed.ensures (c.if-not-handed.false)
    c.mark_fits-low.ensures (c.if-not-low.false)
    (eq-eqb a.c.open_token 0 c.if-c-ne0.false) (ne_eqb a.c.pending 0 c.if-c-ne0-2.true) refl refl

pub returns-in_err-check_place : goal.returns-in_err-check_place
returns-in_err-check_place c =
    let a = c.args in
    let refused = c.in_err-check_place in
    let change = change_of a.change in
    passed-on _ _ c.from_residual.ensures
    ∙ refusal-kept (number refused.field-0.0) _ (number refused.field-0.0) _ refl (refuses refused.field-0.0)
    ∙ late_of a.c a.table.now change (eq-eqb (length a.table.now) (a.c.tokens * 63) c.if-table-c.false)
    c.handed_fits-handed.ensures (c.if-not-handed.false)
    c.mark_fits-low.ensures (c.if-not-low.false)
    (eq-eqb a.c.open_token 0 c.if-c-ne0.false) (eq-eqb a.c.pending 0 c.if-c-ne0-2.false)
    (sym refused.ensures) refl

pub returns-then-c-lt-MOST_COUNTER : goal.returns-then-c-lt-MOST_COUNTER
returns-then-c-lt-MOST_COUNTER c =
    let a = c.args in
    let change = change_of a.change in
    late_of a.c a.table.now change (eq-eqb (length a.table.now) (a.c.tokens * 63) c.if-table-c.false)
    c.handed_fits-handed.ensures (c.if-not-handed.false)
    c.mark_fits-low.ensures (c.if-not-low.false)
    (eq-eqb a.c.open_token 0 c.if-c-ne0.false) (eq-eqb a.c.pending 0 c.if-c-ne0-2.false)
    (sym c.in_ok-check_place.ensures) (lt-ltb a.c.last 4294967295 c.if-c-lt-MOST_COUNTER.true)

pub returns : goal.returns
returns c =
    let a = c.args in
    let change = change_of a.change in
    let low : c.mark_fits-low.result ≡ true = search rules in
    late_of a.c a.table.now change (eq-eqb (length a.table.now) (a.c.tokens * 63) c.if-table-c.false)
    c.handed_fits-handed.ensures (c.if-not-handed.false)
    c.mark_fits-low.ensures low
    (eq-eqb a.c.open_token 0 c.if-c-ne0.false) (eq-eqb a.c.pending 0 c.if-c-ne0-2.false)
    (sym c.in_ok-check_place.ensures) (le-ltb a.c.last 4294967295 (search rules))
