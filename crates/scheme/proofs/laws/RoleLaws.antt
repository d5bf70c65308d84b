-- Laws of what is given under a role. Assumes nothing.
--   permitted, not-permitted   what a role that may is given, and one that may not
--   zero-permitted             a call that gives 0 is permitted
--   run-accepted               an accepted call at the head of a list
use Prim.Native.Nat.{ℕ}
use native.Mathlib.Omega.{arith}
use mathlib.Core.Path.{◌≡◌, refl}
use mathlib.Core.List.{List, ◌∷◌}
use mathlib.Core.Bool.{Bool, true, false, cond}
use Rattle.scheme.specs.Primitives.{Primitives}
use Rattle.scheme.specs.Roles.{Permission, permits, under}
use Rattle.scheme.specs.Runs.{call_permission, Lent, answer, call_code, call_card, call_table, call_asked, lent_code, run}

module _ {A : Type 0} (role : ℕ) (permission : Permission) (x y : A) where
  pub permitted : permits role permission ≡ true → under role permission x y ≡ x
  unfolding under
  permitted h = rw h

  pub not-permitted : permits role permission ≡ false → under role permission x y ≡ y
  unfolding under
  not-permitted h = rw h

pub zero-permitted : (role : ℕ) (permission : Permission) (n : ℕ) → under role permission n 22 ≡ 0 → permits role permission ≡ true
unfolding under
zero-permitted role permission n e = go (permits role permission) e
  where
    go : (may : Bool) → cond may n 22 ≡ 0 → may ≡ true
    go true h = refl
    go false h = absurd (omega arith)

-- an accepted call at the head of a list
pub run-accepted : (P : Primitives) (x : Lent) (xs : List Lent) (card table asked : List ℕ) → lent_code P x card table ≡ 0
    → run P (x ∷ xs) card table asked
    ≡ answer (call_code P x.master x.call card table)
    (run P xs (call_card P x.master x.call card table) (call_table P x.master x.call card table asked) (call_asked P x.master x.call card table asked))
unfolding run under
run-accepted P x xs card table asked ok = rw (zero-permitted x.role (call_permission x.call) (call_code P x.master x.call card table) ok)
