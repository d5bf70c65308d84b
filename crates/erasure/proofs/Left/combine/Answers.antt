-- The weights, then a cleared block, then the blocks added: combined.
use Rattle.std.proofs.Common.{◌≡◌, length, replicate, rules}
use Rattle.erasure.proofs.BlockLaws.{combined}
use Rattle.erasure.proofs.Left.combine.Goals as goal

pub returns : goal.returns
returns c =
    let s = c.args.self.now in
    let cleared : c.fill.new.self ≡ replicate (length c.args.acc.now) 0 = search rules in
    combined c.args.acc.now s.blocks.size s.us.now c.args.cs.now s.qs.now s.blocks.bytes.now c.requires.acc_len cleared c.weights_of.ensures c.add.ensures
