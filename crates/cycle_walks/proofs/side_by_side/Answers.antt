-- Turn after turn the walks come further, by what first_turns and next_turns ensure; where none goes on all have come home (walking-end). The measure is
-- how many turns are ahead.
use borrow.Author.Rules.{rules}
use native.Mathlib.Omega.{arith}
use Prim.Native.Nat.{ℕ, ◌+◌, ◌^◌}
use mathlib.Core.Path.{◌≡◌, sym, ap, subst, ◌∙◌}
use mathlib.Core.List.{List}
use lib.ListN.{length, take}
use Rattle.cycle_walks.specs.Each.{Below, Walking, going}
use Rattle.cycle_walks.proofs.WalkingLaws.{turns-most, walking-end}
use Rattle.cycle_walks.proofs.side_by_side.Goals as goal
use Rattle.cycle_walks.proofs.side_by_side.Goals.{After-next_turns-still}

-- the walks after one more turn
after : (c : After-next_turns-still)
    → Walking c.args.t.of.key c.args.t.of.d (length c.args.ends.now) c.args.xs.now c.next_turns-still.new.ends (c.loop-left.turns + c.loop-left.left)
after c =
    let p = c.args.t.of in
    let l = c.loop-left in
    let e = c.next_turns-still.new.ends in
    let turn = subst (λ (n : ℕ). (xs : List ℕ) (m : ℕ) → Below p.d n xs → Walking p.key p.d n xs l.ends m → Walking p.key p.d n xs e (m + l.left)) l.invariant.1
    c.next_turns-still.ensures.by_index in
    turn c.args.xs.now l.turns c.requires.2 l.invariant.5

pub overflow_add-turns : goal.overflow_add-turns
overflow_add-turns c =
    let p = c.args.t.of in
    omega (
      arith,
      (after (goal.at.overflow_add-turns c).After-next_turns-still).counted,
      turns-most p.key p.d (length c.args.ends.now) c.args.xs.now p.few c.requires.2,
      c.requires.1,
    )

pub loop-left-smaller : goal.loop-left-smaller
loop-left-smaller c =
    omega (arith, (after (goal.at.loop-left-smaller c).After-next_turns-still).counted, c.loop-left.invariant.5.counted, c.loop-left-test.true)

pub loop-left-preserved : goal.loop-left-preserved
loop-left-preserved c =
    let p = c.args.t.of in
    let l = c.loop-left in
    let n = c.next_turns-still in
    let e = n.ensures.upper_bound in (
      omega (arith, e.0, l.invariant.0),
      omega (arith, n.auto, l.invariant.1),
      search rules,
      e.1 ∙ ap (λ (k : ℕ). going p.d n.new.ends k 0) l.invariant.1,
      subst (λ (k : ℕ). Below (4 ^ p.h) k n.new.ends) l.invariant.1 e.2,
      after (goal.at.loop-left-preserved c).After-next_turns-still,
    )

pub returns : goal.returns
returns c =
    let p = c.args.t.of in
    let l = c.loop-left in
    let none : l.left ≡ 0 = omega (arith, c.loop-left-test.false) in
    walking-end p.key p.d (length c.args.ends.now) l.turns c.args.xs.now l.ends c.requires.2 (sym l.invariant.3 ∙ ap (λ (k : ℕ). take k l.places) none) l.invariant.5
