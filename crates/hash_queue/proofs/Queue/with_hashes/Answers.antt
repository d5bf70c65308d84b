-- After k turns the hashes of the first k messages are in the digest, by hashes-turn.
use borrow.Author.Rules.{rules}
use native.Mathlib.Omega.{arith}
use mathlib.Core.Path.{ap, ◌∙◌}
use Rattle.sha256.specs.Sha256 as S
use Rattle.hash_queue.proofs.PlaceLaws.{lanes-few}
use Rattle.hash_queue.proofs.WaitingLaws.{hashes-none, hashes-turn, hashes-done, joined_same, inside-own}
use Rattle.hash_queue.proofs.Queue.with_hashes.Goals as goal

pub hash_each-s-requires : goal.hash_each-s-requires
hash_each-s-requires c =
    let own = c.places_of-own in
    let a = c.args in
    let shaped = c.requires.2 in
    let few = lanes-few a.fill c.requires.1 in (
      few,
      shaped.some,
      shaped.blocks,
      omega (arith, shaped.few),
      shaped.gaps,
      inside-own a.far.now own.result a.self.now.at a.f.gap a.fill _ few own.ensures.0 own.ensures.1 c.requires.3,
    )

pub loop-k-init : goal.loop-k-init
loop-k-init c =
    let a = c.args in
    hashes-none a.self.now.places a.f.long a.far.now a.f.gap a.self.now.at a.self.now.sum.x (search rules)

pub loop-k-preserved : goal.loop-k-preserved
loop-k-preserved c =
    let l = c.loop-k in
    let own = c.places_of-own in
    let a = c.args in
    let below = c.hash_each-s.ensures l.k (omega (arith, c.loop-k-test.true)) in
    let same = joined_same a.self.now.places a.f.long a.far.now own.result a.self.now.at a.f.gap l.k (own.ensures.0 l.k c.loop-k-test.true) in
    hashes-turn a.self.now.places a.f.long a.far.now a.f.gap a.self.now.at _ _ _ _ _ l.k l.invariant (below ∙ ap S.hashed same) c.digest_of-d.ensures c.xor-z.ensures

pub returns : goal.returns
returns c =
    let l = c.loop-k in
    hashes-done _ _ _ _ _ _ _ l.k _ (omega arith) (omega arith) l.invariant
