-- Each block lies in the row behind the one before it.
use native.Mathlib.Omega.{arith}
use Prim.Native.Nat.{ℕ, ◌+◌, ◌-◌, ◌≤◌}
use mathlib.Core.Path.{◌≡◌, sym, ap, ◌∙◌}
use Rattle.scheme.specs.Tokens.{row_of}
use Rattle.cycle_walks.proofs.EachLaws.{set_more}
use Rattle.block_changes.specs.BlockChanges.{number_at}
use Rattle.token_updates.proofs.ItemLaws.{row-behind, row_below, number-next}
use Rattle.token_updates.proofs.lay_added.Goals as goal

pub loop-start-preserved : goal.loop-start-preserved
loop-start-preserved c =
    let a = c.args in
    let b = a.several.now in
    let w = b.changes in
    let l = c.loop-start in
    let e = l.start-index in
    let next = number-next w b.bytes.now (a.from + e) c.requires.0 in
    let up : a.from + e + 1 ≡ a.from + (e + 1) = omega arith in
    let some : 1 ≤ number_at w b.bytes.now (a.from + e) = omega (arith, next.0, (b.known.added c.requires.0).from_one) in
    let behind = row-behind w.rows (number_at w b.bytes.now (a.from + e)) l.at _ some l.invariant.1 c.next_row-at.ensures in (
      row_below w.rows (number_at w b.bytes.now (a.from + e) + 1) _ b.known.rowed behind,
      behind ∙ ap (λ (m : ℕ). row_of w.rows m - 1) (sym next.1 ∙ ap (number_at w b.bytes.now) up),
      set_more (λ j v. v ≡ row_of w.rows (number_at w b.bytes.now (a.from + j)) - 1) l.starts e _ (omega arith) l.invariant.1 l.invariant.2,
    )
