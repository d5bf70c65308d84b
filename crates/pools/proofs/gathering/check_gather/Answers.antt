-- The list of checks from its tests, by code_of.
use Rattle.pools.proofs.GatherLaws.{code_of}
use lib.ListN.{length}
use borrow.Author.Tests.{eq-eqb, ne_eqb}
use mathlib.Core.Path.{refl, sym, ◌∙◌}
use Prim.Native.Nat.{◌+◌, ◌*◌, ◌/◌, ◌%◌}
use Rattle.pools.proofs.gathering.check_gather.Goals as goal

pub returns-then-long-ne0 : goal.returns-then-long-ne0
returns-then-long-ne0 c =
    let a = c.args in
    code_of a.replies.now a.pooled.now (ne_eqb (length a.replies.now % 110) 0 c.if-long-ne0.true) refl refl refl

pub returns-then-not-heads_fit : goal.returns-then-not-heads_fit
returns-then-not-heads_fit c =
    let a = c.args in
    code_of a.replies.now a.pooled.now (eq-eqb (length a.replies.now % 110) 0 c.if-long-ne0.false) (sym c.heads_fit.ensures ∙ c.if-not-heads_fit.true) refl refl

pub returns-then-not-within : goal.returns-then-not-within
returns-then-not-within c =
    let a = c.args in
    code_of a.replies.now a.pooled.now (eq-eqb (length a.replies.now % 110) 0 c.if-long-ne0.false) (sym c.heads_fit.ensures ∙ c.if-not-heads_fit.false) (sym c.within.ensures ∙ c.if-not-within.true) refl

pub returns-then-pooled-count : goal.returns-then-pooled-count
returns-then-pooled-count c =
    let a = c.args in
    code_of a.replies.now a.pooled.now (eq-eqb (length a.replies.now % 110) 0 c.if-long-ne0.false) (sym c.heads_fit.ensures ∙ c.if-not-heads_fit.false) (sym c.within.ensures ∙ c.if-not-within.false)
    (ne_eqb (length a.pooled.now) (37 + 75 * (length a.replies.now / 110)) c.if-pooled-count.true)

pub returns : goal.returns
returns c =
    let a = c.args in
    code_of a.replies.now a.pooled.now (eq-eqb (length a.replies.now % 110) 0 c.if-long-ne0.false) (sym c.heads_fit.ensures ∙ c.if-not-heads_fit.false) (sym c.within.ensures ∙ c.if-not-within.false)
    (eq-eqb (length a.pooled.now) (37 + 75 * (length a.replies.now / 110)) c.if-pooled-count.false)
