-- After j turns the first j blocks are added to both, by going_more.
use native.Mathlib.Omega.{arith}
use borrow.Author.Rules.{rules}
use Rattle.erasure.proofs.BlockLaws.{going_start, going_more, going_done}
use Rattle.erasure.proofs.Blocks.add_two.Goals as goal

pub loop-j-init : goal.loop-j-init
loop-j-init c = (going_start _ _ _ _ _, going_start _ _ _ _ _)

pub loop-j-preserved : goal.loop-j-preserved
loop-j-preserved c =
    let l = c.loop-j in
    let b = c.args.self.now in (
      going_more b.size c.args.ns.now c.args.vs.now b.bytes.now c.args.one.now l.one c.requires.vs_len.0 l.j _ _
          c.requires.within (search rules) (omega arith) c.block.ensures c.mix_two.ensures.one_after l.invariant.0,
      going_more b.size c.args.ns.now c.args.ws.now b.bytes.now c.args.two.now l.two c.requires.vs_len.1 l.j _ _
          c.requires.within (search rules) (omega arith) c.block.ensures c.mix_two.ensures.two_after l.invariant.1,
    )

pub returns : goal.returns
returns c =
    let l = c.loop-j in
    let b = c.args.self.now in record {
      mixed = going_done b.size c.args.ns.now c.args.vs.now b.bytes.now c.args.one.now l.one c.requires.vs_len.0 l.j (omega arith) l.invariant.0;
      mixed_2 = going_done b.size c.args.ns.now c.args.ws.now b.bytes.now c.args.two.now l.two c.requires.vs_len.1 l.j (omega arith) l.invariant.1;
    }
