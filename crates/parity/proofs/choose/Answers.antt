-- What is chosen, and what is still to choose from, are all the chosen.
use mathlib.Core.Path.{sym, ap, ap₂, ◌∙◌}
use mathlib.Core.List.{List, ◌++◌}
use Prim.Native.Nat.{ℕ, ◌+◌, ◌-◌, ◌<◌}
use native.Mathlib.Omega.{arith}
use lib.ListN.{length, take, length-set}
use Rattle.erasure.specs.Group.{chosen}
use Rattle.parity.specs.Choice.{picks}
use Rattle.parity.proofs.ChooseLaws.{choose-start, choose-taken, choose-passed, choose-done}
use borrow.Author.Rules.{rules}
use Rattle.parity.proofs.choose.Goals.{then-is_picked, else-is_picked}
use Rattle.parity.proofs.choose.Goals as goal

pub loop-i-init : goal.loop-i-init
loop-i-init c = (search rules, choose-start (picks c.args.want c.args.lost.now) c.args.n c.args.c)

pub loop-i-preserved : goal.loop-i-preserved
loop-i-preserved c =
    let l = c.loop-i in
    let e = c.args.n + c.args.c in
    let f = picks c.args.want c.args.lost.now in
    let got = chosen f c.args.n c.args.c in
    elim c.if-is_picked.branch [
      | then-is_picked w ↦
          let room : l.r < length l.out = omega arith in (
            omega (arith, ap length w.out-is, length-set l.out l.r l.i),
            ap₂ (λ (xs : List ℕ) (n : ℕ). take n xs ++ chosen f (l.i + 1) (e - (l.i + 1))) w.out-is w.r-is
                ∙ choose-taken f l.i e l.r l.out got c.loop-i-test.true room (sym c.is_picked.ensures ∙ w.if-is_picked.true) l.invariant.1,
          )
      | else-is_picked w ↦ (
        omega (arith, ap length w.out-is),
        ap₂ (λ (xs : List ℕ) (n : ℕ). take n xs ++ chosen f (l.i + 1) (e - (l.i + 1))) w.out-is w.r-is
            ∙ choose-passed f l.i e l.r l.out got c.loop-i-test.true (sym c.is_picked.ensures ∙ w.if-is_picked.false) l.invariant.1,
      )
    ]

pub returns : goal.returns
returns c =
    let l = c.loop-i in
    let f = picks c.args.want c.args.lost.now in
    choose-done f l.i (c.args.n + c.args.c) l.r l.out (chosen f c.args.n c.args.c) c.loop-i-test.false (omega arith) l.invariant.1
