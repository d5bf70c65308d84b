-- Three numbers in a row, by three-put.
use Prim.Native.Nat.{◌+◌}
use native.Mathlib.Omega.{arith}
use mathlib.Core.Path.{refl}
use Rattle.records.proofs.FieldLaws.{three-put}
use Rattle.records.proofs.put_shape.Goals as goal

pub returns : goal.returns
returns c =
    three-put c.args.at 2 4 2 (c.args.at + 2) (c.args.at + 6) c.args.block_bytes c.args.rows c.args.positions
    c.args.s.now refl (omega arith) (omega (arith, c.requires))
    c.put_be.ensures
    c.put_be-2.ensures c.put_be-3.ensures
