-- `poly1305::Acc::freeze` meets its contract. Each column with its carry is below 2 ^ 61.
-- Assumes nothing.
use mathlib.Core.Path.{refl}
use Prim.Native.Nat.{ℕ, ◌+◌, ◌*◌, ◌/◌, ◌^◌, ◌<◌}
use native.Mathlib.Nat.{mod-lt}
use native.Mathlib.Omega.{arith}
use lib.Dec.{lit<}
use mir.Facts.{Fits-lt, Fits-lit}
use Rattle.poly1305.specs.declared.Acc.{Acc}
use Rattle.poly1305.specs.Limbs.{Below}
use Rattle.poly1305.proofs.Carries.{up, up5, five}
use Rattle.poly1305.proofs.Freezing.{same}
use Rattle.poly1305.proofs.Acc.freeze.Goals as goal

-- the columns with their carries
abbrev limb60 : {x : ℕ} → x < 2 ^ 26 + 2 ^ 16 → x < 2 ^ 60
limb60 h = omega arith

plus5 : {x : ℕ} → x < 2 ^ 26 + 2 ^ 16 → x + 5 < 2 ^ 61
plus5 h = omega arith

module _ (h : Acc) (u : Below (2 ^ 26 + 2 ^ 16) h) where
  abbrev e1 : ℕ
  e1 = h.a1 + (h.a0 + 5) / 2 ^ 26

  abbrev e2 : ℕ
  e2 = h.a2 + e1 / 2 ^ 26

  abbrev e3 : ℕ
  e3 = h.a3 + e2 / 2 ^ 26

  abbrev e4 : ℕ
  e4 = h.a4 + e3 / 2 ^ 26

  abbrev f0 : ℕ
  f0 = h.a0 + 5 * (e4 / 2 ^ 26)

  abbrev f1 : ℕ
  f1 = h.a1 + f0 / 2 ^ 26

  abbrev f2 : ℕ
  f2 = h.a2 + f1 / 2 ^ 26

  abbrev f3 : ℕ
  f3 = h.a3 + f2 / 2 ^ 26

  abbrev f4 : ℕ
  f4 = h.a4 + f3 / 2 ^ 26

  s1 : e1 < 2 ^ 61
  s1 = up (limb60 u.b1) (plus5 u.b0)

  s2 : e2 < 2 ^ 61
  s2 = up (limb60 u.b2) s1

  s3 : e3 < 2 ^ 61
  s3 = up (limb60 u.b3) s2

  s4 : e4 < 2 ^ 61
  s4 = up (limb60 u.b4) s3

  t0 : f0 < 2 ^ 61
  t0 = up5 (limb60 u.b0) s4

  t1 : f1 < 2 ^ 61
  t1 = up (limb60 u.b1) t0

  t2 : f2 < 2 ^ 61
  t2 = up (limb60 u.b2) t1

  t3 : f3 < 2 ^ 61
  t3 = up (limb60 u.b3) t2

  t4 : f4 < 2 ^ 61
  t4 = up (limb60 u.b4) t3

pub overflow_add-e3 : goal.overflow_add-e3
overflow_add-e3 c = Fits-lt (s3 c.args.self c.requires) (Fits-lit tt)

pub overflow_add-e4 : goal.overflow_add-e4
overflow_add-e4 c = Fits-lt (s4 c.args.self c.requires) (Fits-lit tt)

pub overflow_mul-f0 : goal.overflow_mul-f0
overflow_mul-f0 c = Fits-lt (five (s4 c.args.self c.requires)) (Fits-lit tt)

pub overflow_add-f0 : goal.overflow_add-f0
overflow_add-f0 c = Fits-lt (t0 c.args.self c.requires) (Fits-lit tt)

pub overflow_add-f1 : goal.overflow_add-f1
overflow_add-f1 c = Fits-lt (t1 c.args.self c.requires) (Fits-lit tt)

pub overflow_add-f2 : goal.overflow_add-f2
overflow_add-f2 c = Fits-lt (t2 c.args.self c.requires) (Fits-lit tt)

pub overflow_add-f3 : goal.overflow_add-f3
overflow_add-f3 c = Fits-lt (t3 c.args.self c.requires) (Fits-lit tt)

pub overflow_add-f4 : goal.overflow_add-f4
overflow_add-f4 c = Fits-lt (t4 c.args.self c.requires) (Fits-lit tt)

pub returns : goal.returns
returns c = record {
  small = record { b0 = mod-lt _ (lit< tt); b1 = mod-lt _ (lit< tt); b2 = mod-lt _ (lit< tt); b3 = mod-lt _ (lit< tt); b4 = mod-lt _ (lit< tt) };
  same = same c.args.self.a0 c.args.self.a1 c.args.self.a2 c.args.self.a3 c.args.self.a4 _ _ _ _ _ _ _ _ _ c.requires refl refl refl refl refl refl refl refl refl;
}
