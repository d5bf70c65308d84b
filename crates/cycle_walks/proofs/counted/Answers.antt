use borrow.Author.Tests.{le-leb, lt-leb}
use native.Mathlib.Omega.{arith}
use mathlib.Core.Path.{sym, ap}
use mathlib.Core.Bool.{Bool, cond}
use Prim.Native.Nat.{◌+◌}
use Rattle.cycle_walks.proofs.counted.Goals as goal

pub returns-then-d-v : goal.returns-then-d-v
returns-then-d-v c =
    let a = c.args in
    sym (ap (λ (b : Bool). cond b (a.count + 1) a.count) (le-leb a.d a.v c.if-d-v.true))

pub returns : goal.returns
returns c =
    let a = c.args in
    sym (ap (λ (b : Bool). cond b (a.count + 1) a.count) (lt-leb a.d a.v (omega (arith, c.if-d-v.false))))
