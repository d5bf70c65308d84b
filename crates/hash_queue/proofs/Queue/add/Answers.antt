-- The message waits in its place, by block-waits; when the last place is taken all are hashed, by block-hashed.
use borrow.Author.Rules.{rules}
use native.Mathlib.Omega.{arith}
use Prim.Native.Nat.{ℕ, ◌+◌}
use mathlib.Core.Path.{◌≡◌, refl, sym, ap, subst, ◌∙◌}
use lib.ListN.{length, take}
use Rattle.sha256.specs.Sha256.{padding}
use Rattle.hash_queue.specs.Waiting.{Cut}
use Rattle.hash_queue.proofs.AddLaws.{all-inside, block-waits, block-hashed}
use Rattle.hash_queue.proofs.Queue.add.Goals as goal

pub returns-then-fill-lt-PLACES : goal.returns-then-fill-lt-PLACES
returns-then-fill-lt-PLACES c =
    let lay = c.lay in
    let a = c.args in
    let q = a.self.now in
    let k = a.kind.now in
    let cut : Cut k.form (length a.head.now) k.size = subst (λ (h : ℕ). Cut k.form h k.size) (sym c.requires.1) k.cut in
    let padded : take k.padding.len k.padding.bytes ≡ padding (length a.head.now + k.size) = k.padded ∙ ap (λ (h : ℕ). padding (h + k.size)) (sym c.requires.1) in
    block-waits q.sum k.form a.head.now a.far.now q.at q.places _ _ _ a.a k.size c.requires.0 cut (omega (arith, c.requires.2)) padded (search rules)
    lay.ensures lay.auto.message refl c.if-fill-lt-PLACES.true

pub with_hashes-y-requires : goal.with_hashes-y-requires
with_hashes-y-requires c =
    let lay = c.lay in
    let a = c.args in
    let q = a.self.now in
    let k = a.kind.now in
    let cut : Cut k.form (length a.head.now) k.size = subst (λ (h : ℕ). Cut k.form h k.size) (sym c.requires.1) k.cut in
    let padded : take k.padding.len k.padding.bytes ≡ padding (length a.head.now + k.size) = k.padded ∙ ap (λ (h : ℕ). padding (h + k.size)) (sym c.requires.1) in (
      omega arith,
      search rules,
      k.cut.shaped,
      all-inside q.sum k.form a.head.now a.far.now q.at q.places _ _ _ a.a k.size c.requires.0 cut (omega (arith, c.requires.2)) padded (search rules)
          lay.ensures lay.auto.message refl,
    )

pub returns : goal.returns
returns c =
    let lay = c.lay in
    let a = c.args in
    let q = a.self.now in
    let k = a.kind.now in
    let cut : Cut k.form (length a.head.now) k.size = subst (λ (h : ℕ). Cut k.form h k.size) (sym c.requires.1) k.cut in
    let padded : take k.padding.len k.padding.bytes ≡ padding (length a.head.now + k.size) = k.padded ∙ ap (λ (h : ℕ). padding (h + k.size)) (sym c.requires.1) in
    block-hashed q.sum k.form a.head.now a.far.now q.at q.places _ _ _ a.a k.size c.requires.0 cut (omega (arith, c.requires.2)) padded (search rules)
    lay.ensures lay.auto.message refl _ c.if-fill-lt-PLACES.false (search rules) c.with_hashes-y.ensures
