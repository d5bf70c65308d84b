-- Several changes by all-items, a change that comes alone by one-added or one-replaced.
use Prim.Native.Nat.{ℕ}
use mathlib.Core.Path.{◌≡◌, sym, subst, ◌∙◌}
use mathlib.Core.List.{List}
use mathlib.Core.Bool.{false}
use Rattle.scheme.specs.Tokens.{BlockChange}
use Rattle.tokens.specs.Keyed.{token_key, Done}
use Rattle.block_changes.specs.BlockChanges.{alone}
use Rattle.token_updates.proofs.ItemLaws.{one-added, one-replaced, all-items}
use Rattle.token_updates.proofs.updated.Goals as goal

pub returns-then-not-one : goal.returns-then-not-one
returns-then-not-one c =
    let a = c.args in
    let m : alone a.changes ≡ false = sym c.alone-one.ensures ∙ c.if-not-one.true in
    subst (λ (changes : List (ℕ × BlockChange)). Done (token_key a.w a.i.0) (token_key a.z a.i.0) a.changes.rows a.changes.positions changes a.x c.after_several.result)
    (all-items a.changes a.old_mark.now a.old.now a.new_mark.now a.new.now (λ l. ((c.requires.lent.several m).added l).fresh) (c.requires.lent.living m))
    (rw (c.new-several.ensures.0, c.new-several.ensures.1) at c.after_several.ensures)

pub returns-then-changes : goal.returns-then-changes
returns-then-changes c =
    let a = c.args in
    subst (λ (changes : List (ℕ × BlockChange)). Done (token_key a.w a.i.0) (token_key a.z a.i.0) a.changes.rows a.changes.positions changes a.x c.changed.result)
    (one-added a.changes a.old_mark.now a.old.now a.new_mark.now a.new.now (sym c.alone-one.ensures ∙ c.if-not-one.false) c.if-changes.true)
    c.changed.ensures

pub returns : goal.returns
returns c =
    let a = c.args in
    subst (λ (changes : List (ℕ × BlockChange)). Done (token_key a.w a.i.0) (token_key a.z a.i.0) a.changes.rows a.changes.positions changes a.x c.changed-2.result)
    (one-replaced a.changes a.old_mark.now a.old.now a.new_mark.now a.new.now (sym c.alone-one.ensures ∙ c.if-not-one.false) c.if-changes.false)
    c.changed-2.ensures
