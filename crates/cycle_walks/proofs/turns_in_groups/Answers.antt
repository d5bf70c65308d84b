-- After each group the turns from the rows so far are counted (along-group).
use native.Mathlib.Omega.{arith}
use Prim.Native.Nat.{ℕ, ◌+◌}
use mathlib.Core.Path.{◌≡◌, sym, ap, ◌∙◌}
use lib.ListN.{length, take}
use Rattle.std.proofs.lemmas.List.{length-take-le}
use Rattle.cycle_walks.specs.Along.{turns_along}
use Rattle.cycle_walks.specs.Each.{turns_of}
use Rattle.cycle_walks.proofs.AlongLaws.{along-none, along-group, along-most}
use Rattle.cycle_walks.proofs.turns_in_groups.Goals as goal
use Rattle.cycle_walks.proofs.turns_in_groups.Goals.{After-turns_of-turns}

pub loop-done-init : goal.loop-done-init
loop-done-init c = (omega arith, sym (along-none c.args.t.of.key c.args.t.of.d c.args.from))

-- the turns so far, with those of the group
so_far : (c : After-turns_of-turns) → c.loop-done.turns + c.turns_of-turns.result
    ≡ turns_along c.args.t.of.key c.args.t.of.d c.args.from (c.loop-done.done + c.min-m.result)
so_far c =
    let l = c.loop-done in
    let p = c.args.t.of in
    let rows = c.lay_rows in
    let m = c.min-m.result in
    let long : length (take m l.vs) ≡ m = length-take-le m l.vs (omega (arith, c.min-m.ensures, c.min-m.array_long)) in
    let same : length rows.new.vs ≡ m = omega (arith, rows.auto, long) in
    let taken : c.turns_of-turns.result ≡ turns_of p.key p.d m rows.new.vs = c.turns_of-turns.ensures ∙ ap (λ (k : ℕ). turns_of p.key p.d k rows.new.vs) same in
    omega (arith, l.invariant.1, taken, along-group p.key p.d c.args.from l.done m rows.new.vs (λ j b. rows.ensures j (omega (arith, long, b))))

pub overflow_add-turns : goal.overflow_add-turns
overflow_add-turns c =
    let p = c.args.t.of in
    let l = c.loop-done in
    omega (
      arith,
      so_far (goal.at.overflow_add-turns c).After-turns_of-turns,
      along-most p.key p.d c.args.from (l.done + c.min-m.result) p.some p.few,
      c.min-m.ensures,
      c.loop-done-test.true,
      c.requires.1,
    )

pub loop-done-preserved : goal.loop-done-preserved
loop-done-preserved c =
    (omega (arith, c.min-m.ensures, c.loop-done-test.true), so_far (goal.at.loop-done-preserved c).After-turns_of-turns)
