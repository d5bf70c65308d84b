-- The token opened, changed and sealed again, by one-record.
use borrow.Author.Rules.{rules}
use native.Mathlib.Omega.{arith}
use Prim.Native.Nat.{ℕ}
use mathlib.Core.Path.{◌≡◌, ap, ap₂, ◌∙◌}
use lib.ListN.{length}
use Rattle.scheme.specs.Tokens.{digest_after}
use Rattle.scheme.specs.Totals.{token_turns, token_hashes}
use Rattle.standard.specs.Standard.{standard}
use Rattle.cards.specs.Fields.{card_of}
use Rattle.tokens.specs.Keyed.{token_key}
use Rattle.block_changes.specs.BlockChanges.{items_of}
use Rattle.reseals.proofs.ResealLaws.{one-record}
use Rattle.reseals.proofs.reseal_one.Goals.{After-updated-y}
use Rattle.reseals.proofs.reseal_one.Goals as goal

digest-long : (c : After-updated-y) → length c.updated-y.result.digest ≡ 32
digest-long c = search rules

pub updated-y-requires : goal.updated-y-requires
updated-y-requires c = record { lent = c.requires.version_bound.3; room = c.requires.room }

pub overflow_add-c : goal.overflow_add-c
overflow_add-c c = omega (arith, c.requires.version_bound.1)

pub seal_token-requires : goal.seal_token-requires
seal_token-requires c =
    (omega (arith, c.requires.version_bound.0), c.requires.le_i.0, c.requires.le_i.1, c.requires.le_i.2)

pub returns : goal.returns
unfolding card_of
returns c =
    let a = c.args in
    let shaped = c.requires.version_bound.2 in
    let items = items_of a.changes a.old_mark.now a.old.now a.new_mark.now a.new.now in
    let k = token_key a.keys.w a.i.0 in
    let x = c.token_in-x in
    let y = c.updated-y in
    let both =
    one-record a.keys (card_of a.c) items a.i.0 a.table.now _ x.result y.result.digest
    x.ensures
    (y.ensures.digest ∙ ap₂ (λ (d r : ℕ). digest_after standard k (token_key a.keys.z a.i.0) d r items x.result) shaped.rows shaped.positions)
    (digest-long (goal.at.returns c).After-updated-y)
    c.seal_token.ensures in record {
      table_len = both.0;
      table_after = both.1;
      turns_value = (
        y.ensures.turns ∙ ap (λ (d : ℕ). token_turns standard k d items) shaped.rows,
        y.ensures.hashes ∙ ap₂ (λ (d r : ℕ). token_hashes standard k d r items) shaped.rows shaped.positions,
      );
    }
