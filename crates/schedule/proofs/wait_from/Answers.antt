-- `schedule::wait_from` meets its contract. The loop's invariant: no minute of the days passed is allowed.
use Prim.Native.Nat.{◌+◌, ◌*◌}
use mathlib.Core.Path.{◌≡◌, sym, subst, ◌∙◌}
use mathlib.Core.Bool.{not}
use native.Mathlib.Omega.{arith}
use lib.Dec.{eqb}
use Rattle.schedule.proofs.WaitLaws.{Quiet, seen, quiet-start, found_at, passed-at, none_found, at_once, later}
use Rattle.schedule.proofs.wait_from.Goals as goal

pub returns-then-in_window : goal.returns-then-in_window
returns-then-in_window c =
    (sym (at_once c.args.plan.now c.args.w c.args.m c.requires.0 c.requires.1 (sym c.in_window.ensures ∙ c.if-in_window.true)), omega arith)

pub loop-k-init : goal.loop-k-init
loop-k-init c = quiet-start c.args.plan.now c.args.w c.args.m c.requires.0 c.requires.1 (sym c.in_window.ensures ∙ c.if-in_window.false)

pub overflow_sub-result : goal.overflow_sub-result
overflow_sub-result c =
    let start = c.start_of-s.result in
    let end = c.end_of.result in
    omega (arith, later c.args.m (1440 * c.loop-k.k + start) (not (eqb start end)) c.if-s-end_of.true)

pub returns-then-s-end_of : goal.returns-then-s-end_of
returns-then-s-end_of c =
    let start = c.start_of-s in
    let end = c.end_of in
    let day = c.loop-k in
    found_at c.args.plan.now c.args.w c.args.m c.requires.2 c.requires.0 c.requires.1 day.k start.result end.result
    c.loop-k-test.true day.invariant start.ensures.0 end.ensures
    c.if-s-end_of.true

pub loop-k-preserved : goal.loop-k-preserved
loop-k-preserved c =
    let start = c.start_of-s in
    let end = c.end_of in
    let day = c.loop-k in
    passed-at c.args.plan.now c.args.w c.args.m c.requires.2 c.requires.0 c.requires.1 day.k start.result end.result day.invariant
    start.ensures.0 end.ensures c.if-s-end_of.false

pub returns : goal.returns
returns c =
    let all : c.loop-k.k ≡ 8 = omega arith in
    let quiet = subst (λ k. Quiet c.args.plan.now c.args.w c.args.m (seen c.args.m k)) all c.loop-k.invariant in
    (sym (none_found c.args.plan.now c.args.w c.args.m c.requires.2 c.requires.0 c.requires.1 quiet), omega arith)
