-- After each walk the turns of those so far are counted (along_one), and the next row is at hand (row_next).
use native.Mathlib.Omega.{arith}
use Prim.Native.Nat.{ℕ, ◌+◌, ◌%◌, ◌<◌}
use mathlib.Core.Path.{◌≡◌, sym, ap, ◌∙◌}
use Rattle.cycle_walks.specs.Along.{turns_along}
use Rattle.cycle_walks.proofs.AlongLaws.{row_below, row_next, along-none, along_one, along-most}
use Rattle.cycle_walks.proofs.turns_alone.Goals as goal
use Rattle.cycle_walks.proofs.turns_alone.Goals.{In-loop-i}

-- the row at hand is below d
below : (c : In-loop-i) → c.loop-i.row < c.args.p.d
below c = row_below c.args.p.d _ c.loop-i.row c.args.p.some c.loop-i.invariant.0

pub loop-i-init : goal.loop-i-init
loop-i-init c =
    let a = c.args in
    let z : a.from ≡ a.from + 0 = omega arith in
    (ap (λ (k : ℕ). k % a.p.d) z, sym (along-none a.p.key a.p.d a.from))

pub backward-walk-requires : goal.backward-walk-requires
backward-walk-requires c = below (goal.at.backward-walk-requires c).In-loop-i

pub overflow_add-turns : goal.overflow_add-turns
overflow_add-turns c =
    let p = c.args.p in
    let l = c.loop-i in
    omega (
      arith,
      l.invariant.1,
      c.backward-walk.ensures.value_value.1,
      along_one p.key p.d c.args.from l._i l.row l.invariant.0,
      along-most p.key p.d c.args.from (l._i + 1) p.some p.few,
      c.loop-i-test.true,
      c.requires.1,
    )

pub next_row-row-requires : goal.next_row-row-requires
next_row-row-requires c = (c.args.p.few, below (goal.at.next_row-row-requires c).In-loop-i)

pub loop-i-preserved : goal.loop-i-preserved
loop-i-preserved c =
    let p = c.args.p in
    let l = c.loop-i in (
      row_next p.d c.args.from l._i l.row _ l.invariant.0 c.next_row-row.ensures,
      omega (arith, l.invariant.1, c.backward-walk.ensures.value_value.1, along_one p.key p.d c.args.from l._i l.row l.invariant.0),
    )

pub returns : goal.returns
returns c =
    let p = c.args.p in
    let all : c.loop-i._i ≡ c.args.n = omega arith in
    c.loop-i.invariant.1 ∙ ap (turns_along p.key p.d c.args.from) all
