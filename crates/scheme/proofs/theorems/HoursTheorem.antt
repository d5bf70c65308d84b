-- #106: "after 3 a draw outside every window (17)". Assumes nothing.
--   Unrefused           no refusal that comes before 17 applies
--   seventeen-exactly   a draw says 17 exactly where none applies and its wait is not 0
-- What the wait is, the least number of minutes after which a minute is allowed, and 10,080 exactly where the plan allows none, is proved in crate `schedule`.
use Prim.Native.Nat.{ℕ}
use native.Mathlib.Omega.{arith}
use mathlib.Core.Path.{◌≡◌}
use mathlib.Core.Logic.{◌≢◌, ◌↔◌}
use mathlib.Core.List.{List, [], ◌∷◌}
use mathlib.Core.Bool.{false}
use lib.Dec.{eqb, leb}
use Rattle.schedule.specs.Hours.{wait_at}
use Rattle.schedule.proofs.Theorems.{draw-outside}
use Rattle.scheme.specs.Primitives.{Primitives}
use Rattle.scheme.specs.Records.{read_card}
use Rattle.scheme.specs.Calls.{Moment, allowed_now, draw_early, draw_code}
use Rattle.scheme.proofs.laws.CheckLaws.{Holds, given-exactly}

-- what a draw checks before the hours: every test holds, and so none of 16, 1, 2 and 3 is its answer
abbrev pub Unrefused : Primitives → List ℕ → List ℕ → List ℕ → List ℕ → Moment → Type 0
Unrefused P master card message plan now = Holds (draw_early P master card message plan now)

pub seventeen-exactly : (P : Primitives) (master card message plan : List ℕ) (now : Moment)
    → (draw_code P master card message plan now ≡ 17)
    ↔ (Unrefused P master card message plan now × (wait_at plan now.year now.month now.day now.minute ≢ 0))
unfolding draw_code
seventeen-exactly P master card message plan now = (only, back)
  where
    exactly : (draw_code P master card message plan now ≡ 17) ↔ (Unrefused P master card message plan now × (allowed_now plan now ≡ false))
    exactly =
        given-exactly 0 17 (allowed_now plan now) (draw_early P master card message plan now)
        ((eqb (read_card card).open' 0, 8) ∷ (eqb (read_card card).pending 0, 18) ∷ (leb (read_card card).next (read_card card).t, 6) ∷ [])
        (λ e. omega arith)
        ((λ e. omega arith), ((λ e. omega arith), ((λ e. omega arith), ((λ e. omega arith), tt))))
        ((λ e. omega arith), ((λ e. omega arith), ((λ e. omega arith), tt)))

    only : draw_code P master card message plan now ≡ 17
        → Unrefused P master card message plan now × (wait_at plan now.year now.month now.day now.minute ≢ 0)
    only e =
        let p = exactly.0 e in
        (p.0, (draw-outside plan now.year now.month now.day now.minute p.0.0).0 p.1)

    back : Unrefused P master card message plan now × (wait_at plan now.year now.month now.day now.minute ≢ 0)
        → draw_code P master card message plan now ≡ 17
    back h = exactly.1 (h.0, (draw-outside plan now.year now.month now.day now.minute h.0.0).1 h.1)
