-- The old block with its mark, then the new one, by updated-mixed, or a deleted one, by deleted-mixed.
use native.Mathlib.Omega.{arith}
use Prim.Native.Nat.{◌+◌, ◌≤◌}
use mathlib.Core.Path.{refl, sym, ap, ◌∙◌}
use lib.ListN.{length}
use Rattle.octets.specs.Octets.{xors}
use Rattle.scheme.specs.Batches.{item_size}
use Rattle.hash_queue.specs.Waiting.{held}
use Rattle.batches.proofs.ItemLaws.{item-long, item-few, item_room}
use Rattle.block_changes.proofs.ContentLaws.{updated-mixed, deleted-mixed}
use Rattle.block_changes.proofs.several.Several.add_correction.Goals.{After-at-a}
use Rattle.block_changes.proofs.several.Several.add_correction.Goals as goal

-- where the item lies
room : (c : After-at-a)
    → c.at-a.result + item_size c.args.self.now.changes.version c.args.self.now.changes.size
    ≤ length c.args.self.now.bytes.now
room c =
    let a = c.args in
    let b = a.self.now in
    let l = c.args.self.now.known.listed c.requires.1 in
    omega (arith, c.at-a.ensures, item_room a.e b.changes.count b.changes.version b.changes.size _ c.requires.2 l.whole)

few : (c : After-at-a) → c.at-a.result ≤ 524672
few c =
    let a = c.args in
    let b = a.self.now in
    let l = c.args.self.now.known.listed c.requires.1 in
    omega (
      arith,
      c.at-a.ensures,
      item-few a.e b.changes.version b.changes.size _ refl (omega (arith, l.few, c.requires.2)) c.args.self.now.known.small,
    )

pub invariant_of-items : goal.invariant_of-items
invariant_of-items c =
    let l = c.args.self.now.known.listed c.requires.1 in
    record { small = c.args.self.now.known.small; few = l.few; whole = l.whole }

pub overflow_add-b : goal.overflow_add-b
overflow_add-b c = omega (arith, few (goal.at.overflow_add-b c).After-at-a)

pub add_block-requires : goal.add_block-requires
add_block-requires c =
    (c.requires.0, omega (arith, room (goal.at.add_block-requires c).After-at-a, item-long c.args.self.now.changes.version c.args.self.now.changes.size))

pub overflow_add-d : goal.overflow_add-d
overflow_add-d c =
    omega (arith, few (goal.at.overflow_add-d c).After-at-a, c.args.self.now.known.small)

pub overflow_add-d-then-is_update : goal.overflow_add-d-then-is_update
overflow_add-d-then-is_update c =
    omega (arith, c.marks_in.ensures.1, few (goal.at.overflow_add-d-then-is_update c).After-at-a, c.args.self.now.known.small)

pub add_block-requires-then-is_update : goal.add_block-requires-then-is_update
add_block-requires-then-is_update c = (
  c.add_block.ensures.0,
  omega (arith, room (goal.at.add_block-requires-then-is_update c).After-at-a, item-long c.args.self.now.changes.version c.args.self.now.changes.size, c.marks_in.ensures.0),
)

pub returns-then-is_update : goal.returns-then-is_update
returns-then-is_update c =
    let a = c.args in
    let b = a.self.now in (
      c.add_block-then-is_update.ensures.0,
      c.add_block-then-is_update.ensures.1
          ∙ updated-mixed b.changes b.bytes.now a.c (held a.queue.now b.kind.form b.bytes.now) a.index a.e c.at-a.result
          c.mark-mark.result _ c.requires.1 c.at-a.ensures c.mark-mark.ensures c.add_block.ensures.1 _
          (ap (λ k. c.at-a.result + 5 + b.changes.size + k) c.marks_in.ensures.0) (sym c.is_update.ensures ∙ c.if-is_update.true),
    )

pub returns : goal.returns
returns c =
    let a = c.args in
    let b = a.self.now in
    let more = c.add_hash.ensures b.kind.form b.bytes.now in (
      more.0 c.add_block.ensures.0,
      more.1
          ∙ ap (xors _) c.deleted_hash-h.ensures
          ∙ deleted-mixed b.changes b.bytes.now a.c (held a.queue.now b.kind.form b.bytes.now) a.index a.e c.at-a.result
          c.mark-mark.result _ c.requires.1 c.at-a.ensures c.mark-mark.ensures c.add_block.ensures.1
          (sym c.is_update.ensures ∙ c.if-is_update.false),
    )
