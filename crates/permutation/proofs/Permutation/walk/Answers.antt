-- The walk from x is at v after t turns, and was outside before (Going). The measure falls since a walk is outside for at most 4 ^ h - d turns (few).
use native.Mathlib.Omega.{arith}
use Prim.Native.Nat.{◌^◌, ◌≤◌}
use Rattle.permutation.specs.declared.Permutation.{Permutation}
use Rattle.permutation.proofs.WalkLoop.{started, onward, within, few, answered}
use Rattle.permutation.proofs.WidthLaws.{half-wide, whole_le}
use Rattle.permutation.proofs.Permutation.walk.Goals as goal

-- the numbers below d fit two halves
wide : (p : Permutation) → p.d ≤ 4 ^ p.h
wide p = rw p.half (half-wide p.d)

pub step-v-requires : goal.step-v-requires
step-v-requires g c = c.requires.callable c.args.x (omega (arith, wide c.args.self, c.requires.below))

pub loop-v-init : goal.loop-v-init
loop-v-init g c = λ s steps. started c.args.self.d c.args.x (steps c.args.x _ c.step-v.ensures)

pub step-v-requires-in-loop-v : goal.step-v-requires-in-loop-v
step-v-requires-in-loop-v g c =
    let s = c.requires.undone in
    c.requires.callable c.loop-v.v (within s.2 (wide c.args.self) c.requires.below (c.loop-v.invariant s.0 s.3))

pub overflow_add-t : goal.overflow_add-t
overflow_add-t g c =
    let s = c.requires.undone in
    omega (arith, few s.2 (wide c.args.self) c.requires.below (c.loop-v.invariant s.0 s.3) c.loop-v-test.true, whole_le c.args.self.h c.args.self.narrow)

pub loop-v-smaller : goal.loop-v-smaller
loop-v-smaller g c =
    let s = c.requires.undone in
    omega (arith, few s.2 (wide c.args.self) c.requires.below (c.loop-v.invariant s.0 s.3) c.loop-v-test.true)

pub loop-v-preserved : goal.loop-v-preserved
loop-v-preserved g c = λ s steps. onward (c.loop-v.invariant s steps) (omega arith) (steps c.loop-v.v _ c.step-v-in-loop-v.ensures)

pub returns : goal.returns
returns g c = λ s k undone steps. answered undone (wide c.args.self) c.requires.below (c.loop-v.invariant s steps) (omega arith)
