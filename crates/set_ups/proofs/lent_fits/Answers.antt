-- The card is of some version's size where `sized` says so; the others are looked at here.
use mathlib.Core.Path.{ap}
use mathlib.Core.Bool.{Bool, ◌&&◌}
use lib.Dec.{eqb}
use lib.ListN.{length}
use Rattle.set_ups.proofs.lent_fits.Goals as goal

pub returns : goal.returns
returns c =
    let a = c.args in
    ap (λ (k : Bool). eqb (length a.master.now) 32 && eqb (length a.id.now) 8 && k && eqb (length a.totals.now) 16) c.sized-sized.ensures
