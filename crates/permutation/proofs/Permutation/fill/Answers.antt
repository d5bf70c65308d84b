-- A turn writes sixteen entries more, and the groups are all entries (groups).
use native.Mathlib.Omega.{arith}
use mathlib.Core.Path.{◌≡◌, subst}
use Prim.Native.Nat.{ℕ, ◌+◌, ◌*◌, ◌≤◌}
use Rattle.permutation.specs.declared.Permutation.{Permutation}
use Rattle.permutation.specs.Table.{Entered}
use Rattle.permutation.proofs.TableLaws.{count-is, groups, filled}
use Rattle.permutation.proofs.WidthLaws.{half-one}
use Rattle.permutation.proofs.Permutation.fill.Goals as goal

-- the half width is at least 1
some : (p : Permutation) → 1 ≤ p.h
some p = omega (arith, p.half, half-one p.d)

pub overflow_sub-group-end : goal.overflow_sub-group-end
overflow_sub-group-end c = some c.args.self

pub loop-group-init : goal.loop-group-init
loop-group-init c = (c.requires, λ j b. absurd (omega arith))

pub put_entries-requires : goal.put_entries-requires
put_entries-requires c =
    let p = c.args.self in
    (omega (arith, c.loop-group-test.true, count-is p.h p.narrow, groups p.h (some p)), c.loop-group.invariant.0)

pub loop-group-preserved : goal.loop-group-preserved
loop-group-preserved c =
    let p = c.args.self in
    let e : c.loop-group.group * 16 + 16 ≡ (c.loop-group.group + 1) * 16 = omega arith in
    (omega (arith, c.loop-group.invariant.0), subst (λ (i : ℕ). Entered p.key p.h i c.put_entries.new.table) e (c.put_entries.ensures c.loop-group.invariant.1))

pub returns : goal.returns
returns c =
    let p = c.args.self in
    let l = c.loop-group in
    filled p.key l.table p.h (l.group * 16) (omega (arith, c.loop-group-test.false, count-is p.h p.narrow, groups p.h (some p))) l.invariant.0 l.invariant.1
