use native.Mathlib.Omega.{arith}
use native.Mathlib.Nat.{mod_self, mod-eq_of_lt}
use Prim.Native.Nat.{ℕ, ◌%◌}
use mathlib.Core.Path.{sym, ap, ◌∙◌}
use Rattle.cycle_walks.proofs.next_row.Goals as goal

pub returns-then-next-d : goal.returns-then-next-d
returns-then-next-d c =
    let d = c.args.d in
    sym (ap (λ (k : ℕ). k % d) c.if-next-d.true ∙ mod_self d)

pub returns : goal.returns
returns c = sym (mod-eq_of_lt (omega (arith, c.if-next-d.false, c.requires)))
