-- The block changes, resealed, their totals, and the number of blocks after them, by blocks-after.
use native.Mathlib.Omega.{arith}
use mathlib.Core.Path.{ap₂, ◌∙◌}
use Rattle.scheme.specs.Totals.{totals_bytes}
use Rattle.changes.proofs.BlockChangeLaws.{blocks-after}
use Rattle.changes.proofs.reseal_for.Goals as goal

pub blocks_after-requires : goal.blocks_after-requires
blocks_after-requires c =
    let a = c.args in
    let changes = c.changes_of-changes in
    omega (arith, c.requires.1.few, (blocks-after a.c a.change changes.result changes.ensures c.requires.1).1)

pub returns : goal.returns
returns c =
    let a = c.args in
    let changes = c.changes_of-changes in record {
      value = c.blocks_after.ensures ∙ (blocks-after a.c a.change changes.result changes.ensures c.requires.1).0;
      by_index = c.reseal_as-taken.ensures.by_index;
      by_index_2 = λ master k.
          let t = c.reseal_as-taken.ensures.by_index_2 master k in
          c.write_totals.ensures ∙ ap₂ totals_bytes t.0 t.1;
    }
