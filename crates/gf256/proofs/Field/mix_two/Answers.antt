-- After i turns the first i bytes are mixed, by mixed-more.
use native.Mathlib.Omega.{arith}
use Rattle.gf256.specs.Mixing.{mixed_one}
use Rattle.gf256.proofs.MixedLaws.{mixed-more}
use Rattle.gf256.proofs.ZipLaws.{zip-none, zip-done}
use borrow.Author.Rules.{rules}
use Rattle.gf256.proofs.Field.mix_two.Goals as goal

pub loop-i-init : goal.loop-i-init
loop-i-init c = (zip-none _ _ _, zip-none _ _ _)

pub loop-i-preserved : goal.loop-i-preserved
loop-i-preserved c =
    let l = c.loop-i in
    let byte = c.type_inv.block l.i in (
      mixed-more c.args.v l.i c.spread.result c.doubles_of-m.result c.args.block.now c.args.one.now l.one (omega arith) (omega (arith, byte))
          c.doubles_of-m.ensures c.spread.ensures l.invariant.0 (search rules) c.requires.one_len,
      mixed-more c.args.w l.i c.spread-in-loop-i.result c.doubles_of-n.result c.args.block.now c.args.two.now l.two (omega arith) (omega (arith, byte))
          c.doubles_of-n.ensures c.spread-in-loop-i.ensures l.invariant.1 (search rules) c.requires.two_len,
    )

pub returns : goal.returns
returns c =
    let l = c.loop-i in record {
      one_after = zip-done (mixed_one c.args.v) l.i c.args.block.now c.args.one.now l.one l.invariant.0 (omega arith) c.requires.one_len;
      two_after = zip-done (mixed_one c.args.w) l.i c.args.block.now c.args.two.now l.two l.invariant.1 (omega arith) c.requires.two_len;
    }
