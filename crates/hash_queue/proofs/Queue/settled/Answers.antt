-- With nothing waiting the digest is as it is, by held_all.
use Rattle.hash_queue.specs.Waiting.{flushed}
use Rattle.hash_queue.proofs.WaitingLaws.{held_all}
use Rattle.hash_queue.proofs.Queue.settled.Goals as goal

pub returns-then-fill-eq0 : goal.returns-then-fill-eq0
returns-then-fill-eq0 c =
    let q = c.args.self.now in
    held_all q.places c.args.kind.now.form c.args.far.now q.sum q.at c.requires.long c.if-fill-eq0.true

pub returns : goal.returns
unfolding flushed
returns c = c.with_hashes.ensures
