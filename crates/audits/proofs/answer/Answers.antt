-- Every block is hashed behind its own mark, by contents-marked.
use native.Mathlib.Omega.{arith}
use Prim.Native.Nat.{ℕ, ◌*◌}
use mathlib.Core.Path.{◌≡◌, refl, sym, ap, ◌∙◌}
use mathlib.Core.List.{List}
use lib.ListN.{length}
use Rattle.scheme.specs.Lists.{pieces}
use Rattle.scheme.specs.Marks.{marked}
use Rattle.scheme.specs.Tokens.{digest}
use Rattle.standard.specs.Standard.{standard}
use Rattle.digests.specs.declared.Span.{Span}
use Rattle.digests.proofs.ContentLaws.{contents-marked, told-marked}
use Rattle.audits.proofs.answer.Goals as goal

pub digest-requires : goal.digest-requires
digest-requires c =
    let m = c.args.m in
    let k = c.marks_in-mark.result in
    let b : Span = record { rows = m.rows; size = m.block_bytes; count = m.blocks; mark = k; step = k } in
    let each : length c.args.marks.now ≡ m.blocks * k = c.requires.blocks_len.1 ∙ ap (λ (n : ℕ). m.blocks * n) (sym c.marks_in-mark.ensures.0) in (
      record {
        rowed = c.requires.le_rows.0;
        few_rows = c.requires.le_rows.1;
        small = c.requires.le_rows.2;
        few = omega (arith, c.requires.le_rows.3);
        whole = c.requires.blocks_len.0;
        lone = c.marks_in-mark.ensures.1;
        told = told-marked b c.args.marks.now refl each;
      },
      c.requires.le_rows.4,
      c.requires.le_rows.5,
    )

pub returns : goal.returns
returns c =
    let m = c.args.m in
    let k = c.marks_in-mark.result in
    let b : Span = record { rows = m.rows; size = m.block_bytes; count = m.blocks; mark = k; step = k } in
    let blocks : List (List ℕ) = pieces m.block_bytes m.blocks c.args.blocks.now in record {
      digest_value = c.digest.ensures.digest_value
          ∙ ap (digest standard m.draw_key m.hash_key m.rows m.positions)
          (contents-marked b c.args.blocks.now c.args.marks.now refl
          ∙ ap (λ (n : ℕ). marked (pieces n m.blocks c.args.marks.now) blocks) c.marks_in-mark.ensures.0);
      turns_value = c.digest.ensures.turns_value;
    }
