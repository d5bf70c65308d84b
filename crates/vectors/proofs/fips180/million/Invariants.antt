-- After so many turns a thousand times as many bytes came.
use Rattle.std.proofs.Common.{◌≡◌, ◌<◌, ◌*◌}
use Rattle.vectors.proofs.fips180.million.Given as goal

abbrev pub invariant-loop : goal.invariant-loop
invariant-loop l = (l.s.fill < 64) × (l.s.total ≡ 1000 * l.counter)
