-- Both tests of the cards before, and of those that are left.
use Rattle.std.proofs.Common.{◌≡◌, ◌&&◌}
use Rattle.scheme.specs.Records.{card_fits}
use Rattle.scheme.specs.Pools.{cut, read_all}
use Rattle.pools.proofs.CutLaws.{all, opened}
use Rattle.pools.proofs.seen.Given as goal

abbrev pub invariant-loop-c : goal.invariant-loop-c
invariant-loop-c l =
    (all card_fits (read_all (cut l.fn.cards.bytes.now)) ≡ (l.all.fit && all card_fits (read_all (cut l.c-iterator.bytes.now))))
    × (all opened (read_all (cut l.fn.cards.bytes.now)) ≡ (l.all.drawn && all opened (read_all (cut l.c-iterator.bytes.now))))
