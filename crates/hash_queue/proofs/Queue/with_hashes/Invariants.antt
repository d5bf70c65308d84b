-- After k turns the hashes of the first k messages are in the digest, by hashes-turn.
use mathlib.Core.Path.{◌≡◌}
use Rattle.octets.specs.Octets.{xors}
use Rattle.hash_queue.specs.Waiting.{hashes}
use Rattle.hash_queue.proofs.Queue.with_hashes.Given as goal

abbrev pub invariant-loop-k : goal.invariant-loop-k
invariant-loop-k l = l.y ≡ xors l.initial.y (hashes l.self.places l.fn.f.long l.far l.self.at l.fn.f.gap l.k)
