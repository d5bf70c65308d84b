-- Two roles: the tests, by or-none.
use mathlib.Core.Path.{ap}
use mathlib.Core.Bool.{Bool, ◌||◌}
use lib.Dec.{eqb}
use Rattle.access.proofs.AmongLaws.{or-none}
use Rattle.access.proofs.is_either.Goals as goal

pub returns : goal.returns
returns c =
    let a = c.args in
    ap (λ (x : Bool). eqb a.role a.a || x) (or-none (eqb a.role a.b))
