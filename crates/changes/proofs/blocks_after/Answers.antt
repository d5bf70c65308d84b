use mathlib.Core.Path.{sym, ap}
use mathlib.Core.Bool.{Bool, cond}
use Prim.Native.Nat.{◌+◌}
use Rattle.changes.proofs.blocks_after.Goals as goal

pub returns-then-changes : goal.returns-then-changes
returns-then-changes c =
    let a = c.args in
    sym (ap (λ (t : Bool). cond t (a.c.blocks + a.changes.count) a.c.blocks) c.if-changes.true)

pub returns : goal.returns
returns c =
    let a = c.args in
    sym (ap (λ (t : Bool). cond t (a.c.blocks + a.changes.count) a.c.blocks) c.if-changes.false)
