-- A refusal leaves every card, by judge-kept; either verdict closes every draw, by judge-done.
use mathlib.Core.Bool.{Bool, cond}
use mathlib.Core.List.{List}
use mathlib.Core.Path.{refl, sym, ap, ap₂, ◌∙◌}
use native.Mathlib.Omega.{arith}
use lib.ListN.{length}
use Prim.Native.Nat.{ℕ}
use Rattle.counts.specs.Refused.{number}
use Rattle.counts.proofs.RefusedLaws.{refuses, err-on}
use Rattle.scheme.specs.Pools.{cut, read_all, pool_fits}
use Rattle.standard.specs.Standard.{standard}
use Rattle.judging.specs.Causes.{verdict_in}
use Rattle.pools.proofs.PoolLaws.{pooled, judge-kept, judge-done}
use Rattle.pools.proofs.judge_pool.Goals as goal

pub returns-in_err-master : goal.returns-in_err-master
returns-in_err-master c =
    let a = c.args in
    let e = c.in_err-master.field-0.0 in
    let done = judge-kept a.master.now a.cards.now a.reply.now (number e) c.in_err-master.ensures.code (refuses e) in
    record { value = ap verdict_in (err-on _ e c.from_residual.ensures) ∙ done.0; cards_after = done.1 }

pub pool_fits-fits-requires : goal.pool_fits-fits-requires
pool_fits-fits-requires c =
    let k = c.in_ok-master.ensures in
    let p = pooled c.args.master.now c.args.cards.now 0 k.code refl in
    omega (arith, p.most, ap (λ (x : List ℕ). length (cut x)) k.kept.1)

pub close_all-requires : goal.close_all-requires
close_all-requires c =
    let p = pooled c.args.master.now c.args.cards.now 0 c.in_ok-master.ensures.code refl in
    (p.cuts, p.heads)

pub returns-then-fits : goal.returns-then-fits
returns-then-fits c =
    let a = c.args in
    let k = c.in_ok-master.ensures in
    let fits = c.pool_fits-fits.ensures ∙ ap₂ (λ (m x : List ℕ). pool_fits standard m (read_all (cut x)) a.reply.now) k.kept.0 k.kept.1 in
    let done = judge-done a.master.now a.cards.now a.reply.now 0 k.code _ _ _ refl fits (ap (λ (b : Bool). cond b 0 11) (sym c.if-fits.true)) c.close_all.ensures in
    record { value = done.0; cards_after = done.1 }

pub returns-else-fits : goal.returns-else-fits
returns-else-fits c =
    let a = c.args in
    let k = c.in_ok-master.ensures in
    let fits = c.pool_fits-fits.ensures ∙ ap₂ (λ (m x : List ℕ). pool_fits standard m (read_all (cut x)) a.reply.now) k.kept.0 k.kept.1 in
    let done = judge-done a.master.now a.cards.now a.reply.now 0 k.code _ _ _ refl fits (ap (λ (b : Bool). cond b 0 11) (sym c.if-fits.false)) c.close_all.ensures in
    record { value = done.0; cards_after = done.1 }
