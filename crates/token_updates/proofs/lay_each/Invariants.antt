-- Each start is the row of its block, by set_more.
use Rattle.token_updates.specs.Runs.{Rows}
use Rattle.token_updates.proofs.lay_each.Given as goal

abbrev pub invariant-loop-e : goal.invariant-loop-e
invariant-loop-e l = Rows l.several.changes l.several.bytes.now l.from l.e l.starts
