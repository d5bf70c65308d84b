-- After each position the queue is the digest with the newer columns of the rows so far, under any key with these words; the turns are those of the walks,
-- and the hashes as many as these rows have columns more.
use mathlib.Core.Path.{◌≡◌}
use mathlib.Core.List.{List}
use Prim.Native.Nat.{ℕ, ◌+◌}
use Rattle.octets.specs.Octets.{xors}
use Rattle.scheme.specs.Totals.{digest_turns, digest_hashes}
use Rattle.scheme.proofs.laws.NewerLaws.{newer}
use Rattle.standard.specs.Standard.{standard}
use Rattle.hash_queue.specs.Waiting.{Ready, held}
use Rattle.digests.proofs.TurnLaws.{all}
use Rattle.digests.proofs.blocks.Blocks.grown.Given as goal

abbrev pub invariant-loop-drawn : goal.invariant-loop-drawn
invariant-loop-drawn l =
    let b = l.self in
    Ready l.queue b.kind.form b.bytes.now
    × (held l.queue b.kind.form b.bytes.now ≡ xors l.fn.x (newer standard l.fn.k l.c b.span.rows l.drawn b.before (all b.span b.before b.bytes.now b.marks.now)))
    × (l.turns ≡ digest_turns standard l.fn.k b.span.rows l.drawn)
    × (l.hashes + digest_hashes standard l.fn.k b.span.rows l.drawn b.before ≡ digest_hashes standard l.fn.k b.span.rows l.drawn (b.before + b.span.count))
