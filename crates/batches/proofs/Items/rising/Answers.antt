-- What is left to ask stays, item by item, by rise-next.
use native.Mathlib.Omega.{arith}
use Prim.Native.Nat.{ℕ, ◌+◌}
use mathlib.Core.Path.{sym, ap, ◌∙◌}
use Rattle.scheme.specs.Batches.{rising_from}
use Rattle.batches.proofs.FoldLaws.{items_left, rise-begun, rise-failed, rise-next, rise-done}
use Rattle.batches.proofs.Items.rising.Goals as goal

pub loop-e-init : goal.loop-e-init
loop-e-init c =
    let a = c.args.self in
    rise-begun a.version a.size a.count a.bytes.now (omega arith)
    ∙ ap (λ (m : ℕ). rising_from m (items_left a.version a.size a.count 1 a.bytes.now)) (sym c.number-last.ensures)

pub returns-then-m-last : goal.returns-then-m-last
returns-then-m-last c =
    let l = c.loop-e in
    let a = c.args.self in
    sym (l.invariant ∙ rise-failed a.version a.size a.count a.bytes.now l.e l.last c.loop-e-test.true (omega (arith, c.number-m.ensures)))

pub loop-e-preserved : goal.loop-e-preserved
loop-e-preserved c =
    let l = c.loop-e in
    let a = c.args.self in
    l.invariant
    ∙ rise-next a.version a.size a.count a.bytes.now l.e l.last c.loop-e-test.true (omega (arith, c.number-m.ensures))
    ∙ ap (λ (m : ℕ). rising_from m (items_left a.version a.size a.count (l.e + 1) a.bytes.now)) (sym c.number-m.ensures)

pub returns : goal.returns
returns c =
    let l = c.loop-e in
    let a = c.args.self in
    sym (l.invariant ∙ rise-done a.version a.size a.count a.bytes.now l.e l.last (omega arith))
