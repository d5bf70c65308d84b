-- What is left of the reply stays, part by part, by rest-next.
use Rattle.std.proofs.Common.{◌≡◌, ◌*◌, length, drop, replicate}
use Rattle.octets.specs.Octets.{part}
use Rattle.scheme.specs.Pools.{cut, read_all}
use Rattle.pools.proofs.PoolLaws.{rest}
use Rattle.pools.proofs.all_pass.Given as goal

abbrev pub invariant-loop-c : goal.invariant-loop-c
invariant-loop-c l =
    (length l.parts ≡ 75 * length (read_all (cut l.c-iterator.bytes.now)))
    × (rest l.master (replicate 32 0) (read_all (cut l.fn.cards.bytes.now)) (drop 37 l.reply) (part 5 32 l.reply)
    ≡ rest l.master l.sum (read_all (cut l.c-iterator.bytes.now)) l.parts (part 5 32 l.reply))
