-- After j turns the first j blocks are added, by going_more.
use native.Mathlib.Omega.{arith}
use borrow.Author.Rules.{rules}
use Rattle.erasure.proofs.BlockLaws.{going_start, going_more, going_done}
use Rattle.erasure.proofs.Blocks.add.Goals as goal

pub loop-j-init : goal.loop-j-init
loop-j-init c = going_start _ _ _ _ _

pub loop-j-preserved : goal.loop-j-preserved
loop-j-preserved c =
    let l = c.loop-j in
    let b = c.args.self.now in
    going_more b.size c.args.ns.now c.args.ws.now b.bytes.now c.args.acc.now l.acc c.requires.ws_len l.j _ _
    c.requires.within (search rules) (omega arith) c.block.ensures c.mix.ensures l.invariant

pub returns : goal.returns
returns c =
    let l = c.loop-j in
    let b = c.args.self.now in
    going_done b.size c.args.ns.now c.args.ws.now b.bytes.now c.args.acc.now l.acc c.requires.ws_len l.j (omega arith) l.invariant
