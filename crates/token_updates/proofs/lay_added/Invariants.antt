-- Each block lies in the row behind the one before it.
use Prim.Native.Nat.{◌+◌, ◌-◌, ◌<◌}
use mathlib.Core.Path.{◌≡◌}
use Rattle.scheme.specs.Tokens.{row_of}
use Rattle.block_changes.specs.BlockChanges.{number_at}
use Rattle.token_updates.specs.Runs.{Rows}
use Rattle.token_updates.proofs.lay_added.Given as goal

abbrev pub invariant-loop-start : goal.invariant-loop-start
invariant-loop-start l =
    let w = l.several.changes in
    (l.at < l.rows)
    × (l.at ≡ row_of w.rows (number_at w l.several.bytes.now (l.from + l.start-index)) - 1)
    × Rows w l.several.bytes.now l.from l.start-index l.starts
