-- `chacha20_lanes::states` meets its contract. The loop's invariant: the states of the lanes below k are put.
-- Assumes nothing.
use mathlib.Core.Path.{◌≡◌}
use Rattle.chacha20_lanes.specs.Firsts.{states}
use Rattle.chacha20_lanes.proofs.states.Given as goal

abbrev pub invariant-loop-k : goal.invariant-loop-k
invariant-loop-k l = l.s ≡ states l.key l.counters l.lasts l.k l.initial.s
