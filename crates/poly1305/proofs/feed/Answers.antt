-- `poly1305::feed` meets its contract: whole blocks by `fed-whole` of `Feeding`, a last block by `fed-rest`.
-- Assumes nothing.
use native.Mathlib.Omega.{arith}
use Rattle.poly1305.specs.Limbs.{value}
use Rattle.poly1305.proofs.Feeding.{fed-whole, fed-rest}
use mathlib.Core.Path.{refl}
use lib.ListN.{length}
use Prim.Native.Nat.{◌<◌, ◌*◌, ◌/◌}
use borrow.Author.Rules.{rules}
use Rattle.poly1305.proofs.feed.Goals as goal

pub returns-then-n-at : goal.returns-then-n-at
returns-then-n-at c =
    record {
      small = c.run-g.ensures.small;
      same = λ l n w e. fed-whole
          (value c.args.r) (value c.args.h) (value c.run-g.result) c.args.s.now l n w e c.run-g.ensures.same c.if-n-at.true;
    }

pub returns : goal.returns
returns c =
    let run = c.run-g in
    let long : length c.args.s.now / 16 * 16 < length c.args.s.now = omega arith in
    record {
      small = c.run.ensures.small;
      same =
          λ l n w e. fed-rest (value c.args.r) (value c.args.h) (value run.result) c.args.s.now l n w e run.ensures.same
          (value c.run.result) _ c.rest-b.result refl long (search rules) c.rest-b.ensures
          c.run.ensures.same;
    }
