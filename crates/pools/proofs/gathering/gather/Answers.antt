-- A refusal leaves the pooled reply, by gather-kept; else it is written, by gather-done.
use lib.ListN.{length}
use native.Mathlib.Omega.{arith}
use mathlib.Core.Path.{refl, ◌∙◌}
use Prim.Native.Nat.{◌/◌}
use Rattle.counts.specs.Refused.{number}
use Rattle.counts.proofs.RefusedLaws.{refuses, passed-on}
use Rattle.pools.proofs.GatherLaws.{gathered, front_kept, gather-kept, gather-done}
use Rattle.pools.proofs.gathering.gather.Goals as goal

pub returns-in_err-check_gather : goal.returns-in_err-check_gather
returns-in_err-check_gather c =
    let a = c.args in
    let e = c.in_err-check_gather.field-0.0 in
    let done = gather-kept a.replies.now a.pooled.now (number e) c.in_err-check_gather.ensures (refuses e) in
    record { value = passed-on _ e c.from_residual.ensures ∙ done.0; pooled_after = done.1 }

pub digest_sum-sum-requires : goal.digest_sum-sum-requires
digest_sum-sum-requires c = (gathered c.args.replies.now c.args.pooled.now 0 c.in_ok-check_gather.ensures refl).even

pub put_front-requires : goal.put_front-requires
put_front-requires c =
    let g = gathered c.args.replies.now c.args.pooled.now 0 c.in_ok-check_gather.ensures refl in
    (omega (arith, g.size), g.most)

pub put_entries-requires : goal.put_entries-requires
put_entries-requires c =
    let a = c.args in
    let g = gathered a.replies.now a.pooled.now 0 c.in_ok-check_gather.ensures refl in
    (g.even, front_kept (length a.replies.now / 110) c.digest_sum-sum.result a.pooled.now _ (omega arith) (omega (arith, g.size)) c.put_front.ensures ∙ g.size)

pub returns : goal.returns
returns c =
    let a = c.args in
    let done =
    gather-done a.replies.now a.pooled.now 0 c.in_ok-check_gather.ensures refl (length a.replies.now / 110) c.digest_sum-sum.result _ _ refl (omega arith)
    c.digest_sum-sum.ensures c.put_front.ensures c.put_entries.ensures in
    record { value = done.0; pooled_after = done.1 }
