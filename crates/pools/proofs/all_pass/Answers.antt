-- What is left of the reply stays, part by part, by rest-next.
use Rattle.std.proofs.Common.{arith, sym, ap, ap₂, ◌∙◌, length, replicate, List, ℕ}
use lib.ListN.{length-drop}
use Rattle.octets.specs.Octets.{part}
use Rattle.scheme.specs.Records.{Card}
use Rattle.scheme.specs.Pools.{cut, read_all}
use Rattle.cards.specs.Fields.{card_of}
use Rattle.pools.specs.declared.Cards.{Cards}
use Rattle.pools.proofs.CutLaws.{count-read}
use Rattle.pools.proofs.PoolLaws.{rest, rest-failed, rest-next, rest-done}
use Rattle.pools.proofs.all_pass.Goals as goal

pub split_at-requires : goal.split_at-requires
split_at-requires c = omega (arith, c.requires)

pub loop-c-init : goal.loop-c-init
loop-c-init c =
    let a = c.args in
    let e = sym c.into_iter-c-iterator.ensures.into_iter_gives in
    let n = ap (λ (x : Cards). length (read_all (cut x.bytes.now))) e in (
      omega (arith, n, count-read (cut a.cards.bytes.now), c.requires, c.split_at.ensures.back_len),
      ap₂ (λ (x : Cards) (p : List ℕ). rest a.master.now (replicate 32 0) (read_all (cut x.bytes.now)) p (part 5 32 a.reply.now)) e (sym c.split_at.ensures.back),
    )

pub split_part-requires : goal.split_part-requires
split_part-requires c = omega (arith, c.loop-c.invariant.0, ap length c.in-Some.ensures.steps)

pub returns-in_default : goal.returns-in_default
returns-in_default c =
    let a = c.args in
    let l = c.loop-c in
    sym
    (l.invariant.1 ∙ ap (λ (cs : List Card). rest a.master.now l.sum cs l.parts.now (part 5 32 a.reply.now)) c.in-Some.ensures.steps
    ∙ rest-failed a.master.now l.sum l.parts.now (part 5 32 a.reply.now) (card_of c.in-Some.c) _ _ c.split_part.ensures.0 c.in_default.ensures)

pub loop-c-preserved : goal.loop-c-preserved
loop-c-preserved c =
    let a = c.args in
    let l = c.loop-c in (
      omega (arith, l.invariant.0, ap length c.in-Some.ensures.steps, ap length c.split_part.ensures.1, length-drop 75 l.parts.now),
      l.invariant.1 ∙ ap (λ (cs : List Card). rest a.master.now l.sum cs l.parts.now (part 5 32 a.reply.now)) c.in-Some.ensures.steps
          ∙ rest-next a.master.now l.sum l.parts.now (part 5 32 a.reply.now) (card_of c.in-Some.c) _ _ c.split_part.ensures.0 c.in-Some-passes.ensures.0 c.in-Some-passes.x c.in-Some-passes.ensures.1 _ c.xor-more.ensures
          ∙ ap (λ (p : List ℕ). rest a.master.now c.xor-more.result (read_all (cut c.next.new.self.bytes.now)) p (part 5 32 a.reply.now)) (sym c.split_part.ensures.1),
    )

pub is_sum-requires : goal.is_sum-requires
is_sum-requires c = omega (arith, c.requires)

pub returns : goal.returns
returns c =
    let a = c.args in
    let l = c.loop-c in
    c.is_sum.ensures ∙ sym (l.invariant.1 ∙ rest-done a.master.now l.sum l.parts.now (part 5 32 a.reply.now) c.in-None.ensures.steps.0)
