-- The block is begun, then the data blocks are added to it: encoded-sum.
use lib.ListN.{length}
use Rattle.erasure.proofs.BlockLaws.{within_count, encoded-sum}
use Rattle.erasure.proofs.ParityLaws.{encoded-one}
use Rattle.erasure.proofs.Data.encode_one.Goals as goal

pub add-requires-clause-within : goal.add-requires-clause-within
add-requires-clause-within c =
    let d = c.args.self.now in
    within_count d.blocks.size d.k (length d.blocks.bytes.now) d.numbers.now d.counted d.whole

pub returns : goal.returns
returns c =
    let d = c.args.self.now in
    encoded-one d.blocks.size d.k c.args.u d.blocks.bytes.now _
    (encoded-sum c.args.out.now d.blocks.size d.k c.args.u d.numbers.now d.blocks.bytes.now d.counted c.requires.out_len c.begin.ensures.acc_after c.begin.ensures.ws_after c.add.ensures)
