-- The walks begin at the rows of the blocks and end at the positions that draw them, by seated; their turns by walked.
use native.Mathlib.Omega.{arith}
use mathlib.Core.Path.{◌≡◌, sym, ap, ◌∙◌}
use Prim.Native.Nat.{ℕ, ◌+◌, ◌<◌}
use Rattle.scheme.specs.Totals.{token_turns}
use Rattle.standard.specs.Standard.{standard}
use Rattle.block_changes.specs.BlockChanges.{number_at}
use Rattle.token_updates.specs.Runs.{firsts, Rows}
use Rattle.token_updates.proofs.ItemLaws.{row_below, seated, walked, turns-few}
use Rattle.token_updates.proofs.walk_some.Goals.{After-lay_rows}
use Rattle.token_updates.proofs.walk_some.Goals as goal

-- the rows of all n blocks are laid
laid : (c : After-lay_rows) → Rows c.args.several.now.changes c.args.several.now.bytes.now c.args.from c.args.n c.lay_rows.new.starts
laid c = λ e h. c.lay_rows.ensures e (omega arith)

pub backward_each-requires-clause-le_d : goal.backward_each-requires-clause-le_d
backward_each-requires-clause-le_d c =
    let a = c.args in
    let b = a.several.now in
    let rows = laid (goal.at.backward_each-requires-clause-le_d c).After-lay_rows in (
      b.known.rowed,
      b.known.few_rows,
      c.requires.3,
      c.requires.2,
      λ e h. row_below b.changes.rows (number_at b.changes b.bytes.now (a.from + e)) _ b.known.rowed (rows e h),
    )

pub returns : goal.returns
returns c =
    let a = c.args in
    let b = a.several.now in
    let w = b.changes in
    let rows = laid (goal.at.returns c).After-lay_rows in record {
      upper_bound = turns-few a.words w.rows a.n _ c.backward_each.ensures.0 b.known.few_rows
          (λ e h. row_below w.rows (number_at w b.bytes.now (a.from + e)) _ b.known.rowed (rows e h));
      by_index = λ k ew. (
        (λ e h. seated k a.words w.rows (number_at w b.bytes.now (a.from + e)) _ _ ew (rows e h) (c.backward_each.ensures.1 e h)),
        walked w b.bytes.now k a.words a.from a.n _ ew rows
            ∙ ap (λ (t : ℕ). token_turns standard k w.rows (firsts w b.bytes.now a.from) + t) (sym c.backward_each.ensures.0),
      );
    }
