-- The search that is left finds what the whole one does, by bad-step and bad-found.
use Prim.Native.Nat.{◌+◌, ◌-◌}
use mathlib.Core.Path.{◌≡◌}
use Rattle.scheme.specs.Table.{first_bad}
use Rattle.standard.specs.Standard.{standard}
use Rattle.seals.proofs.first_bad.Given as goal

abbrev pub invariant-loop-i : goal.invariant-loop-i
invariant-loop-i l =
    first_bad standard l.key l.version l.counter l.table (l.tokens + 1 - l.i) l.i ≡ first_bad standard l.key l.version l.counter l.table (l.tokens + 1 - l.fn.next) l.fn.next
