use mathlib.Core.Path.{ap}
use Prim.Native.Nat.{ℕ, ◌+◌, ◌*◌, ◌/◌, ◌^◌}
use Rattle.permutation.specs.Table.{place_of}
use Rattle.permutation.proofs.TableLaws.{place-small}
use Rattle.permutation.proofs.Permutation.place_of.Goals as goal

pub returns : goal.returns
unfolding place_of
returns c =
    let h = c.args.self.h in
    (ap (λ (r : ℕ). c.args.i / 2 ^ h * 1024 + r) c.low.ensures, place-small h c.args.i _ c.args.self.narrow c.requires c.low.ensures)
