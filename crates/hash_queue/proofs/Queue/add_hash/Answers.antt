-- The hash changes places with those that wait, by held_with.
use borrow.Author.Rules.{rules}
use Rattle.hash_queue.proofs.WaitingLaws.{held_with, sound-with}
use Rattle.hash_queue.proofs.Queue.add_hash.Goals as goal

pub returns : goal.returns
returns c =
    let q = c.args.self.now in
    λ f far. (sound-with q.sum f _ far q.at (search rules), held_with q.places f far q.sum q.at _ c.args.h c.xor-self.ensures)
