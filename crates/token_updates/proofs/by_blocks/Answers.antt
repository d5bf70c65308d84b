-- Before the first stretch the queue stands for no change.
use native.Mathlib.Omega.{arith}
use Prim.Native.Nat.{ℕ, ◌-◌}
use mathlib.Core.Path.{◌≡◌, sym, ap, subst, ◌∙◌}
use mathlib.Core.List.{List}
use Rattle.scheme.specs.Totals.{token_turns}
use Rattle.standard.specs.Standard.{standard}
use Rattle.tokens.specs.Keyed.{token_key}
use Rattle.token_updates.specs.Runs.{firsts, Hashed}
use Rattle.token_updates.proofs.ItemLaws.{walked_none, hashed-none, hashed-at}
use Rattle.token_updates.proofs.by_blocks.Goals as goal

pub loop-left-init : goal.loop-left-init
loop-left-init c =
    let a = c.args in
    let b = a.several.now in
    let w = b.changes in
    let none : 0 ≡ w.count - w.count = omega arith in
    let start = c.restart.ensures b.kind.form b.bytes.now in (
      omega arith,
      (λ key e. absurd (cc)),
      omega arith,
      omega arith,
      start.0,
      λ k ew. (
        subst (λ (y : List ℕ). Hashed k (token_key a.z a.i.0) w b.bytes.now (w.count - w.count) a.x y 0) (sym start.1)
            (hashed-at (w.count - w.count) none (hashed-none w b.bytes.now k (token_key a.z a.i.0) a.x)),
        walked_none w b.bytes.now k w.rows ∙ ap (λ (n : ℕ). token_turns standard k w.rows (firsts w b.bytes.now n)) none,
      ),
    )
