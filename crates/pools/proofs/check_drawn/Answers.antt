-- The list of checks from 3 on, from its tests, by drawn-limits and the laws beside it.
use mathlib.Core.Path.{sym, ap, ◌∙◌}
use borrow.Author.Tests.{not-true, not-false}
use lib.ListN.{length}
use Rattle.scheme.specs.Checks.{within}
use Rattle.scheme.specs.Pools as P
use Rattle.scheme.specs.Pools.{cut, read_all, every, in_limits, is_open}
use Rattle.pools.proofs.PoolLaws.{drawn-limits, drawn-number, drawn-twice, drawn-closed, drawn-none}
use Rattle.pools.proofs.check_drawn.Goals as goal

pub returns-then-not-all : goal.returns-then-not-all
returns-then-not-all c =
    let a = c.args.cards.bytes.now in
    drawn-limits (every in_limits (cut a)) (within 2 16 (length (cut a))) (P.distinct (read_all (cut a))) (every is_open (cut a)) (sym c.seen-all.ensures.fit ∙ not-true _ c.if-not-all.true)

pub returns-then-not-within : goal.returns-then-not-within
returns-then-not-within c =
    let a = c.args.cards.bytes.now in
    drawn-number (every in_limits (cut a)) (within 2 16 (length (cut a))) (P.distinct (read_all (cut a))) (every is_open (cut a)) (sym c.seen-all.ensures.fit ∙ not-false _ c.if-not-all.false)
    (sym (c.within.ensures ∙ ap (within 2 16) c.count_of.ensures) ∙ c.if-not-within.true)

pub returns-then-not-distinct : goal.returns-then-not-distinct
returns-then-not-distinct c =
    let a = c.args.cards.bytes.now in
    drawn-twice (every in_limits (cut a)) (within 2 16 (length (cut a))) (P.distinct (read_all (cut a))) (every is_open (cut a)) (sym c.seen-all.ensures.fit ∙ not-false _ c.if-not-all.false)
    (sym (c.within.ensures ∙ ap (within 2 16) c.count_of.ensures) ∙ c.if-not-within.false) (sym c.distinct.ensures ∙ c.if-not-distinct.true)

pub returns-then-not-all-2 : goal.returns-then-not-all-2
returns-then-not-all-2 c =
    let a = c.args.cards.bytes.now in
    drawn-closed (every in_limits (cut a)) (within 2 16 (length (cut a))) (P.distinct (read_all (cut a))) (every is_open (cut a)) (sym c.seen-all.ensures.fit ∙ not-false _ c.if-not-all.false)
    (sym (c.within.ensures ∙ ap (within 2 16) c.count_of.ensures) ∙ c.if-not-within.false) (sym c.distinct.ensures ∙ c.if-not-distinct.false)
    (sym c.seen-all.ensures.drawn ∙ not-true _ c.if-not-all-2.true)

pub returns : goal.returns
returns c =
    let a = c.args.cards.bytes.now in
    drawn-none (every in_limits (cut a)) (within 2 16 (length (cut a))) (P.distinct (read_all (cut a))) (every is_open (cut a)) (sym c.seen-all.ensures.fit ∙ not-false _ c.if-not-all.false)
    (sym (c.within.ensures ∙ ap (within 2 16) c.count_of.ensures) ∙ c.if-not-within.false) (sym c.distinct.ensures ∙ c.if-not-distinct.false)
    (sym c.seen-all.ensures.drawn ∙ not-false _ c.if-not-all-2.false)
