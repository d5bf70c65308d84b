-- What is done and what is left stay the cards with their draws closed, by closed-next.
use Rattle.scheme.specs.Pools.{cut_fault, cut, every, closed_all}
use Rattle.scheme.specs.Records.{card_head}
use lib.ListN.{length, take, drop}
use mathlib.Core.List.{◌++◌}
use mathlib.Core.Bool.{true}
use mathlib.Core.Path.{◌≡◌}
use Prim.Native.Nat.{◌-◌, ◌≤◌}
use Rattle.pools.proofs.close_all.Given as goal

abbrev pub invariant-loop-at : goal.invariant-loop-at
invariant-loop-at l =
    (l.at ≤ length l.cards) × (cut_fault (drop l.at l.cards) ≡ 0) × (every card_head (cut (drop l.at l.cards)) ≡ true) × (length l.cards ≡ length l.initial.cards)
    × (closed_all (cut l.initial.cards) ≡ take l.at l.cards ++ closed_all (cut (drop l.at l.cards)))

abbrev pub decreases-loop-at : goal.decreases-loop-at
decreases-loop-at l = length l.cards - l.at
