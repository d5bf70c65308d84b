-- After i turns the first i bytes are mixed, by mixed-more.
use native.Mathlib.Omega.{arith}
use Rattle.gf256.specs.Mixing.{mixed_one}
use Rattle.gf256.proofs.MixedLaws.{mixed-more}
use Rattle.gf256.proofs.ZipLaws.{zip-none, zip-done}
use borrow.Author.Rules.{rules}
use Rattle.gf256.proofs.Field.mix.Goals as goal

pub loop-i-init : goal.loop-i-init
loop-i-init c = zip-none _ _ _

pub loop-i-preserved : goal.loop-i-preserved
loop-i-preserved c =
    let l = c.loop-i in
    mixed-more c.args.w l.i c.spread.result c.doubles_of-m.result c.args.block.now c.args.acc.now l.acc (omega arith) (omega (arith, c.type_inv.block l.i))
    c.doubles_of-m.ensures c.spread.ensures l.invariant (search rules) c.requires

pub returns : goal.returns
returns c =
    let l = c.loop-i in
    zip-done (mixed_one c.args.w) l.i c.args.block.now c.args.acc.now l.acc l.invariant (omega arith) c.requires
