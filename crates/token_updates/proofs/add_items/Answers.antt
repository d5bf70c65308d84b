-- After each change the queue stands for one more: where it is drawn by what add_item ensures, else by hashed-undrawn.
use native.Mathlib.Omega.{arith}
use Prim.Native.Nat.{ℕ, ◌+◌, ◌≤◌}
use mathlib.Core.Path.{◌≡◌, subst}
use lib.ListN.{get_or}
use Rattle.tokens.specs.Keyed.{token_key}
use Rattle.token_updates.proofs.ItemLaws.{hashed-at, hashed-undrawn}
use Rattle.token_updates.proofs.add_items.Goals as goal
use Rattle.token_updates.proofs.add_items.Goals.{then-j0-several, else-j0-several}

pub loop-e-preserved : goal.loop-e-preserved
loop-e-preserved c =
    let a = c.args in
    let b = a.several.now in
    let l = c.loop-e in
    let up : a.from + l.e + 1 ≡ a.from + (l.e + 1) = omega arith in
    elim c.if-j0-several.branch [
      | then-j0-several w ↦
          let added = w.add_item-going.ensures in
          rw (w.going-is, w.queue-is) (
            added.made_2.0,
            omega (arith, added.made_2.1),
            added.made_2.2,
            λ k x placed before. hashed-at (a.from + (l.e + 1)) up (added.by_index k x (placed l.e c.loop-e-test.true) (l.invariant.3 k x placed before)),
          )
      | else-j0-several w ↦
          rw (w.going-is, w.queue-is) (
            l.invariant.0,
            omega (arith, l.invariant.1),
            l.invariant.2,
            λ k x placed before.
                hashed-undrawn b.changes b.bytes.now k (token_key a.z a.i.0) a.from l.e (l.e + 1) x _ a.ends.now _ (omega arith) (λ j h. placed j (omega arith))
                (λ j u h.
                let same : l.e ≡ j = omega arith in
                subst (λ (i : ℕ). b.changes.positions ≤ get_or a.ends.now i 0) same w.if-j0-several.false)
                (l.invariant.3 k x placed before),
          )
    ]
