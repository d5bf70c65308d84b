-- The length first, by batch-uneven and batch-count, then the items, by batch-items.
use borrow.Author.Tests.{eq-eqb, ne_eqb}
use native.Mathlib.Omega.{arith}
use native.Mathlib.Nat.{div-add-mod'}
use Prim.Native.Nat.{ℕ, ◌*◌, ◌/◌, ◌%◌, ◌≤◌}
use mathlib.Core.Bool.{true}
use mathlib.Core.Path.{◌≡◌, sym, ap, ◌∙◌}
use lib.ListN.{length}
use Rattle.scheme.specs.Checks.{within}
use Rattle.scheme.specs.Batches.{item_size}
use Rattle.scheme.proofs.laws.CheckLaws.{within-true}
use Rattle.batches.proofs.FoldLaws.{batch-uneven, batch-count, batch-items}
use Rattle.batches.proofs.check_batch.Goals.{After-item_bytes-each}
use Rattle.batches.proofs.check_batch.Goals as goal

-- the length is a whole number of items, and how many
even : (c : After-item_bytes-each) → length c.args.items.now % c.item_bytes-each.result ≡ 0
    → length c.args.items.now % item_size c.args.c.version c.args.c.block_bytes ≡ 0
even c h = sym (ap (λ (n : ℕ). length c.args.items.now % n) c.item_bytes-each.ensures.0) ∙ h

counted : (c : After-item_bytes-each) → length c.args.items.now / c.item_bytes-each.result
    ≡ length c.args.items.now / item_size c.args.c.version c.args.c.block_bytes
counted c = ap (λ (n : ℕ). length c.args.items.now / n) c.item_bytes-each.ensures.0

count-limits : (c : After-item_bytes-each) → within 1 64 (length c.args.items.now / c.item_bytes-each.result) ≡ true
    → (1 ≤ length c.args.items.now / c.item_bytes-each.result) × (length c.args.items.now / c.item_bytes-each.result ≤ 64)
count-limits c = within-true 1 64 (length c.args.items.now / c.item_bytes-each.result)

pub returns-then-long-each-ne0 : goal.returns-then-long-each-ne0
returns-then-long-each-ne0 c =
    let a = c.args in
    batch-uneven a.c a.items.now
    (ne_eqb _ 0 (λ e. c.if-long-each-ne0.true (ap (λ (n : ℕ). length a.items.now % n) c.item_bytes-each.ensures.0 ∙ e)))

pub returns-then-not-within : goal.returns-then-not-within
returns-then-not-within c =
    let a = c.args in
    let before = (goal.at.returns-then-not-within c).After-item_bytes-each in
    batch-count a.c a.items.now (eq-eqb _ 0 (even before c.if-long-each-ne0.false))
    (ap (within 1 64) (sym (counted before)) ∙ sym c.within.ensures ∙ c.if-not-within.true)

pub invariant_of-batch : goal.invariant_of-batch
invariant_of-batch c =
    let a = c.args in
    let long = length a.items.now in
    let each = item_size a.c.version a.c.block_bytes in
    let before = (goal.at.invariant_of-batch c).After-item_bytes-each in record {
      small = c.requires;
      few = omega (arith, count-limits before (sym c.within.ensures ∙ c.if-not-within.false));
      whole =
          omega
          (arith, ap (λ (k : ℕ). k * each) (counted before), div-add-mod' long each, even before c.if-long-each-ne0.false);
    }

pub check-requires : goal.check-requires
check-requires c =
    omega (arith, count-limits (goal.at.check-requires c).After-item_bytes-each (sym c.within.ensures ∙ c.if-not-within.false))

pub returns : goal.returns
returns c =
    let a = c.args in
    let before = (goal.at.returns c).After-item_bytes-each in
    c.check.ensures
    ∙ batch-items a.c a.items.now (eq-eqb _ 0 (even before c.if-long-each-ne0.false)) _ (counted before)
    (sym c.within.ensures ∙ c.if-not-within.false)
