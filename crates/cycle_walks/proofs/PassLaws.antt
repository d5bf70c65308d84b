-- Walks that take one turn each, and those that go on moved to the front. Assumes nothing.
--   reached-row, reached-below     a row is reached; what is reached is a number of two halves
--   turn-taken                     a turn leads on, and the turns of the walk are that one and those ahead
--   passed_none                    no walk yet
--   passed-more, passed-further    one walk more, and one more of several that were read at once
--   passed-all                     all
--   passed-rest                    those whose turn is not taken yet
use mathlib.Core.Path.{◌≡◌, refl, sym, ap, ◌∙◌, subst}
use mathlib.Core.Bool.{Bool, true, false, cond}
use mathlib.Core.Logic.{◌⊎◌, inl, inr}
use mathlib.Core.List.{List}
use Prim.Native.Nat.{ℕ, ◌+◌, ◌-◌, ◌^◌, ◌≤◌, ◌<◌}
use native.Mathlib.Omega.{arith}
use native.Mathlib.Decide.{dec_lt}
use borrow.Author.Tests.{leb-true, leb-false, le-leb}
use lib.Dec.{leb}
use lib.ListN.{length, get_or, set, length-set}
use lib.Seq.{get_or-set_other}
use Rattle.permutation.specs.Rounds.{half}
use Rattle.permutation.specs.Walk.{turns}
use Rattle.permutation.specs.Permutation.{eight_undone, backward_turns}
use Rattle.permutation.proofs.WalkLoop.{started, onward, within}
use Rattle.permutation.proofs.WidthLaws.{half-wide}
use Rattle.permutation.proofs.PermutationLaws.{redone}
use Rattle.cycle_walks.specs.Each.{Midway, turns_of, ahead}
use Rattle.cycle_walks.specs.Along.{Reached, Underway, Kept, Passed}
use Rattle.cycle_walks.proofs.EachLaws.{set_more}
use Rattle.cycle_walks.proofs.SumLaws.{sum-before, sum_more}
use Rattle.cycle_walks.proofs.PlaceLaws.{one_at_most}
use Rattle.cycle_walks.proofs.WalkingLaws.{wide, ahead-is, ahead-home, turns_more}

module _ (key : List ℕ) (d : ℕ) where
  pub reached-row : {v : ℕ} → v < d → Reached key d v
  reached-row {v} l = record { start = v; below = l; way = inl refl }

  pub reached-below : {v : ℕ} (h : ℕ) → h ≡ half d → Reached key d v → v < 4 ^ h
  reached-below {v} h e r = go r.way
    where
      go : (v ≡ r.start) ⊎ Midway key d r.start v → v < 4 ^ h
      go (inl q) = wide d h v e (omega (arith, q, r.below))
      go (inr m) = subst (λ (k : ℕ). v < 4 ^ k) (sym e) (within (redone key (half d)) (half-wide d) r.below m.going)

  ahead-out : (v : ℕ) → d ≤ v → ahead key d v ≡ backward_turns key d v
  unfolding ahead backward_turns
  ahead-out v l = ap (λ (b : Bool). cond b (turns (eight_undone key d) d (4 ^ half d - d) v) 0) (le-leb d v l)

  pub turn-taken : {u v : ℕ} → Reached key d u → v ≡ eight_undone key d u → Reached key d v × (1 + ahead key d v ≡ backward_turns key d u)
  turn-taken {u} {v} r q = go (dec_lt u d) r.way
    where
      go : Dec (u < d) → (u ≡ r.start) ⊎ Midway key d r.start u → Reached key d v × (1 + ahead key d v ≡ backward_turns key d u)
      go (yes l) w =
          let m : Midway key d u v = record { turns = 1; going = started d u q } in
          (record { start = u; below = l; way = inr m }, ahead-is key d u v l m)
      go (no l) (inl e) = absurd (l (omega (arith, e, r.below)))
      go (no l) (inr w) =
          let out : d ≤ u = omega arith in
          let m : Midway key d r.start v = record { turns = w.turns + 1; going = onward w.going out q } in (
            record { start = r.start; below = r.below; way = inr m },
            omega (arith, ahead-is key d r.start u r.below w, ahead-is key d r.start v r.below m, ahead-out u out),
          )

  -- a walk that goes on is written behind the others
  kept-turns : (vs : List ℕ) (still v r : ℕ) → still < length vs → r ≡ cond (leb d v) (still + 1) still
      → turns_of key d r (set vs still v) ≡ turns_of key d still vs + ahead key d v
  unfolding turns_of
  kept-turns vs still v r w e = ap (λ (k : ℕ). turns_of key d k (set vs still v)) e ∙ go (leb d v) refl
    where
      go : (b : Bool) → leb d v ≡ b → turns_of key d (cond b (still + 1) still) (set vs still v) ≡ turns_of key d still vs + ahead key d v
      go true t = sum_more (backward_turns key d) vs still v w ∙ ap (λ (k : ℕ). turns_of key d still vs + k) (sym (ahead-out v (leb-true d v t)))
      go false t = omega (arith, sum-before (backward_turns key d) vs still v, ahead-home key d v (leb-false d v t))

  kept_under : (vs : List ℕ) (still v r : ℕ) → still < length vs → r ≡ cond (leb d v) (still + 1) still → Reached key d v → Underway key d 0 still vs
      → Underway key d 0 r (set vs still v)
  kept_under vs still v r w e now before = subst (λ (k : ℕ). Underway key d 0 k (set vs still v)) (sym e) (go (leb d v))
    where
      go : (b : Bool) → Underway key d 0 (cond b (still + 1) still) (set vs still v)
      go true i z l = set_more (λ j u. Reached key d u) vs still v w now (λ j b. before j (omega arith) b) i l
      go false i z l = subst (Reached key d) (sym (get_or-set_other vs still i v 0 (λ q. omega arith))) (before i z l)

  pub passed_none : (n : ℕ) (us : List ℕ) → n ≤ length us → Passed key d n us us 0 0
  passed_none n us l =
      record {
        few = omega arith;
        most = omega arith;
        long = l;
        under = λ i z b. absurd (omega arith);
        rest = λ i z b. refl;
        counted = omega arith;
      }

  pub passed-rest : {n at still : ℕ} {us vs : List ℕ} → Underway key d 0 n us → Passed key d n us vs still at → Underway key d at n vs
  passed-rest under p i z b = subst (Reached key d) (sym (p.rest i z b)) (under i (omega arith) b)

  module _ {n : ℕ} {us : List ℕ} (under : Underway key d 0 n us) where
    pub passed-more : {vs ws : List ℕ} {still at next v r : ℕ} → next ≡ at + 1 → next ≤ n → v ≡ eight_undone key d (get_or us at 0)
        → Kept d v still vs r ws → Passed key d n us vs still at → Passed key d n us ws r next
    passed-more {vs} {ws} {still} {at} {next} {v} {r} one more q k p =
        let u = get_or us at 0 in
        let inside : still < length vs = omega (arith, p.few, p.long) in
        let taken = turn-taken (under at (omega arith) (omega arith)) q in
        let now : Passed key d n us (set vs still v) r (at + 1)
        = record {
          few = omega (arith, one_at_most d v still r k.1, p.few);
          most = omega arith;
          long = omega (arith, length-set vs still v, p.long);
          under = kept_under vs still v r inside k.1 taken.0 p.under;
          rest = λ i z b. get_or-set_other vs still i v 0 (λ s. omega (arith, p.few)) ∙ p.rest i (omega arith) b;
          counted = omega (arith, kept-turns vs still v r inside k.1, turns_more key d at us, taken.1, p.counted);
        } in
        subst (λ (l : List ℕ). Passed key d n us l r next) (sym k.0) (subst (Passed key d n us (set vs still v) r) (sym one) now)

    -- a walk behind the first that is read before they are moved
    pub passed-further : {vs ws xs : List ℕ} {still at next v r : ℕ} (k : ℕ) → at + k < n → Passed key d n us vs still at
        → v ≡ eight_undone key d (get_or vs (at + k) 0) → Kept d v next ws r xs → Passed key d n us ws next (at + k) → Passed key d n us xs r (at + (k + 1))
    passed-further {at = at} k b p q kept now =
        passed-more (omega arith) (omega arith) (q ∙ ap (eight_undone key d) (p.rest (at + k) (omega arith) b)) kept now

  pub passed-all : {n at still : ℕ} {us vs : List ℕ} → n ≤ at → Passed key d n us vs still at
      → (still ≤ n) × Underway key d 0 still vs × (n + turns_of key d still vs ≡ turns_of key d n us)
  passed-all {n} {at} {still} {us} {vs} l p =
      let all : at ≡ n = omega (arith, p.most) in
      (omega (arith, p.few), p.under, subst (λ (k : ℕ). k + turns_of key d still vs ≡ turns_of key d k us) all p.counted)
