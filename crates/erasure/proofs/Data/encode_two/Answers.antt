-- Both blocks are begun, then the data blocks are added to both: encoded-sum for each.
use mathlib.Core.Path.{refl}
use Prim.Native.Nat.{◌+◌}
use lib.ListN.{length}
use Rattle.erasure.proofs.BlockLaws.{within_count, encoded-sum}
use Rattle.erasure.proofs.ParityLaws.{encoded-two}
use borrow.Author.Rules.{rules}
use Rattle.erasure.proofs.Data.encode_two.Goals as goal

pub add_two-requires-clause-within : goal.add_two-requires-clause-within
add_two-requires-clause-within c =
    let d = c.args.self.now in
    within_count d.blocks.size d.k (length d.blocks.bytes.now) d.numbers.now d.counted d.whole

pub returns : goal.returns
returns c =
    let d = c.args.self.now in
    let a = c.add_two in
    encoded-two d.blocks.size d.k c.args.u d.blocks.bytes.now a.new.one a.new.two _ (search rules) (search rules)
    (encoded-sum _ d.blocks.size d.k c.args.u d.numbers.now d.blocks.bytes.now d.counted (search rules) c.begin.ensures.acc_after c.begin.ensures.ws_after a.ensures.mixed)
    (encoded-sum _ d.blocks.size d.k (c.args.u + 1) d.numbers.now d.blocks.bytes.now d.counted (search rules) c.begin-2.ensures.acc_after c.begin-2.ensures.ws_after a.ensures.mixed_2)
    refl
