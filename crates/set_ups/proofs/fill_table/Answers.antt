-- Before token i the first i - 1 records are in place, by fill-turn; what is hashed is every block behind the mark of a live one, by contents-live.
-- What was counted and the totals of the tokens from i on are the totals of all, by counted-more.
use Prim.Native.Nat.{◌≤◌}
use native.Mathlib.Omega.{arith}
use borrow.Author.Rules.{rules}
use mathlib.Core.Path.{refl}
use Rattle.tokens.specs.Keyed.{token_key}
use Rattle.scheme.proofs.laws.TotalLaws.{digests-turns-most, digests-hashes-most}
use Rattle.standard.specs.Standard.{standard}
use Rattle.scheme.specs.Lists.{pieces}
use Rattle.scheme.specs.Marks.{live, alike}
use Rattle.scheme.proofs.laws.TableLaws.{filled-start}
use Rattle.digests.specs.declared.Span.{Span}
use Rattle.digests.proofs.ContentLaws.{contents-live, told-live}
use Rattle.set_ups.proofs.SetUpLaws.{turns_of, hashes_of, turns-of, hashes-of, counted_start, counted-more, counted-end, new_record, fill-turn, fill_end}
use Rattle.set_ups.proofs.fill_table.Goals as goal

pub loop-i-init : goal.loop-i-init
loop-i-init c =
    let k = c.args.c in (
      search rules,
      search rules,
      filled-start (new_record c.args.keys.w c.args.keys.z c.args.keys.k k.version k.rows k.positions (alike (live k.version) (pieces k.block_bytes k.blocks c.args.blocks.now))) k.tokens c.args.table.now,
      counted_start (turns_of c.args.keys.w k.rows k.positions) k.tokens,
      counted_start (hashes_of c.args.keys.w k.rows k.positions k.blocks) k.tokens,
    )

pub digest-x-requires : goal.digest-x-requires
digest-x-requires c =
    let k = c.args.c in
    let b : Span = record { rows = k.rows; size = k.block_bytes; count = k.blocks; mark = c.marks_in.result; step = 0 } in (
      record {
        rowed = c.requires.version_bound.1;
        few_rows = c.requires.version_bound.2;
        small = c.requires.version_bound.3;
        few = omega (arith, c.requires.version_bound.4);
        whole = c.requires.version_bound.5;
        lone = c.marks_in.ensures.1;
        told = told-live b refl c.marks_in.ensures.1;
      },
      c.requires.positions_le_rows.0,
      c.requires.positions_le_rows.1,
    )

pub overflow_add-turns : goal.overflow_add-turns
overflow_add-turns c =
    let l = c.loop-i in
    let k = c.args.c in
    let w = c.args.keys.w in
    let more = turns-of w k.rows k.positions l.i c.token_key-draw_key.ensures c.digest-x.ensures.turns_value.0 in
    omega (
      arith,
      (counted-more (turns_of w k.rows k.positions) k.tokens l.turns l.i _ l.invariant.3 (omega arith) more).0,
      digests-turns-most standard (token_key w) k.rows k.positions k.tokens 1 c.requires.version_bound.1 c.requires.version_bound.2 c.requires.positions_le_rows.0 c.requires.positions_le_rows.1 c.requires.positions_le_rows.2,
    )

pub overflow_add-hashes : goal.overflow_add-hashes
overflow_add-hashes c =
    let l = c.loop-i in
    let k = c.args.c in
    let w = c.args.keys.w in
    let more = hashes-of w k.rows k.positions l.i c.token_key-draw_key.ensures k.blocks c.digest-x.ensures.turns_value.1 in
    omega (
      arith,
      (counted-more (hashes_of w k.rows k.positions k.blocks) k.tokens l.hashes l.i _ l.invariant.4 (omega arith) more).0,
      digests-hashes-most standard (token_key w) k.rows k.positions k.tokens 1 c.requires.version_bound.1 c.requires.version_bound.2 c.requires.positions_le_rows.0 c.requires.positions_le_rows.1 c.requires.positions_le_rows.2 k.blocks c.requires.version_bound.4,
    )

pub loop-i-preserved : goal.loop-i-preserved
loop-i-preserved c =
    let l = c.loop-i in
    let k = c.args.c in
    let on : l.i ≤ k.tokens = omega arith in
    let b : Span = record { rows = k.rows; size = k.block_bytes; count = k.blocks; mark = c.marks_in.result; step = 0 } in
    let t =
    fill-turn c.args.keys.w c.args.keys.z c.args.keys.k k.version k.rows k.positions (alike (live k.version) (pieces k.block_bytes k.blocks c.args.blocks.now))
    k.tokens l.i l.table l.invariant.0 l.invariant.2 _ _ _ _ _ l.auto.i on c.token_key-draw_key.ensures c.token_key-hash_key.ensures
    (contents-live k.version b c.args.blocks.now refl c.marks_in.ensures.0) c.digest-x.ensures.digest_value c.seal_token.ensures in
    let w = c.args.keys.w in (
      t.0,
      l.invariant.1,
      t.1,
      (counted-more (turns_of w k.rows k.positions) k.tokens l.turns l.i _ l.invariant.3 on
          (turns-of w k.rows k.positions l.i c.token_key-draw_key.ensures c.digest-x.ensures.turns_value.0)).1,
      (counted-more (hashes_of w k.rows k.positions k.blocks) k.tokens l.hashes l.i _ l.invariant.4 on
          (hashes-of w k.rows k.positions l.i c.token_key-draw_key.ensures k.blocks c.digest-x.ensures.turns_value.1)).1,
    )

pub returns : goal.returns
returns c =
    let k = c.args.c in
    let w = c.args.keys.w in
    let l = c.loop-i in record {
      table_after = fill_end w c.args.keys.z c.args.keys.k k.version k.rows k.positions (alike (live k.version) (pieces k.block_bytes k.blocks c.args.blocks.now))
          k.tokens l.i l.table l.invariant.0 l.invariant.2 (omega arith) (omega arith);
      turns_value = (
        counted-end (turns_of w k.rows k.positions) k.tokens l.turns l.i l.invariant.3 (omega arith),
        counted-end (hashes_of w k.rows k.positions k.blocks) k.tokens l.hashes l.i l.invariant.4 (omega arith),
      );
    }
