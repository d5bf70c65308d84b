-- Walks on their way. Assumes nothing.
--   wide, turn_below            numbers below d, and where a turn leads, are numbers of two halves
--   ahead-is, ahead-home        the turns taken and those ahead are the definition's; none is ahead of a walk that has come home
--   walking-none                 no walk yet
--   walking-first, walking-next   one walk more, after its first turn; one more turn of a walk
--   walking-end                  where no walk goes on, all have come home, and the turns are theirs
--   turns-none, turns_more      the turns of no walk, and of one walk more
--   turns-most                  what they are at most
--   front                       walks of the first n of a list, whose ends are the first n of another
use mathlib.Core.Path.{◌≡◌, refl, sym, ap, ◌∙◌, subst}
use mathlib.Core.Bool.{Bool, true, false, cond}
use mathlib.Core.List.{List, [], ◌++◌}
use Prim.Native.Nat.{ℕ, ◌+◌, ◌-◌, ◌*◌, ◌^◌, ◌≤◌, ◌<◌}
use native.Mathlib.Omega.{arith}
use native.Mathlib.Numerals.{add-one}
use borrow.Author.Tests.{leb-true, leb-false, lt-leb}
use lib.Dec.{leb}
use lib.ListN.{length, take, get_or, set, get_or-append}
use Rattle.std.proofs.lemmas.List.{get_or-take, length-take-le}
use Rattle.permutation.specs.Rounds.{half}
use Rattle.permutation.specs.Walk.{turns}
use Rattle.permutation.specs.Permutation.{eight_undone, backward, backward_turns}
use Rattle.permutation.proofs.WalkLoop.{started, onward, answered, turns-ahead}
use Rattle.permutation.proofs.WidthLaws.{half-wide, half_le, whole_le}
use Rattle.permutation.proofs.PermutationLaws.{redone, backward-most}
use Rattle.cycle_walks.specs.Each.{sum_below, Below, Midway, Backed, turns_of, ahead, ahead_of, Walking, going}
use Rattle.cycle_walks.proofs.EachLaws.{set_more, set-kept}
use Rattle.cycle_walks.proofs.SumLaws.{sum_same, sum-most, sum_more, sum-set}
use Rattle.cycle_walks.proofs.PlaceLaws.{going-none}

pub wide : (d h x : ℕ) → h ≡ half d → x < d → x < 4 ^ h
wide d h x e l = subst (λ (k : ℕ). x < 4 ^ k) (sym e) (omega (arith, half-wide d))

pub ahead-is : (key : List ℕ) (d x v : ℕ) → x < d → (m : Midway key d x v) → m.turns + ahead key d v ≡ backward_turns key d x
unfolding ahead backward_turns
ahead-is key d x v l m = go (leb d v) refl
  where
    go : (b : Bool) → leb d v ≡ b
        → m.turns + cond b (turns (eight_undone key d) d (4 ^ half d - d) v) 0 ≡ turns (eight_undone key d) d (4 ^ half d - d) x
    go true t = omega (arith, turns-ahead (redone key (half d)) (half-wide d) l m.going (leb-true d v t))
    go false t = omega (arith, (answered (redone key (half d)) (half-wide d) l m.going (leb-false d v t)).0.1)

pub turns-none : (key : List ℕ) (d : ℕ) (xs : List ℕ) → turns_of key d 0 xs ≡ 0
unfolding turns_of sum_below
turns-none key d xs = refl

pub turns_more : (key : List ℕ) (d n : ℕ) (xs : List ℕ) → turns_of key d (n + 1) xs ≡ turns_of key d n xs + backward_turns key d (get_or xs n 0)
unfolding turns_of sum_below
turns_more key d n xs = ap (λ (m : ℕ). sum_below m (λ i. backward_turns key d (get_or xs i 0))) (add-one n)

pub turns-most : (key : List ℕ) (d n : ℕ) (xs : List ℕ) → d ≤ 1048576 → Below d n xs → turns_of key d n xs ≤ n * 1048576
unfolding turns_of
turns-most key d n xs m b =
    sum-most (λ i. backward_turns key d (get_or xs i 0)) 1048576 n
    (λ i l. omega (arith, backward-most key d (get_or xs i 0) (b i l), whole_le (half d) (half_le d m), b i l))

ahead_more : (key : List ℕ) (d i v : ℕ) (vs : List ℕ) → i < length vs → ahead_of key d (i + 1) (set vs i v) ≡ ahead_of key d i vs + ahead key d v
unfolding ahead_of
ahead_more key d i v vs w = sum_more (ahead key d) vs i v w

ahead-set : (key : List ℕ) (d n i v : ℕ) (vs : List ℕ) → i < n → i < length vs
    → ahead_of key d n (set vs i v) + ahead key d (get_or vs i 0) ≡ ahead_of key d n vs + ahead key d v
unfolding ahead_of
ahead-set key d n i v vs b w = sum-set (ahead key d) vs i v n b w

pub ahead-home : (key : List ℕ) (d v : ℕ) → v < d → ahead key d v ≡ 0
unfolding ahead
ahead-home key d v l = ap (λ (b : Bool). cond b (turns (eight_undone key d) d (4 ^ half d - d) v) 0) (lt-leb d v l)

pub walking-none : (key : List ℕ) (d : ℕ) (xs vs : List ℕ) → Walking key d 0 xs vs 0
unfolding ahead_of turns_of sum_below
walking-none key d xs vs = record { under = λ i l. absurd (omega arith); counted = refl }

module _ (key : List ℕ) (d h : ℕ) (e : h ≡ half d) where
  pub turn_below : (x v : ℕ) → x < 4 ^ h → v ≡ eight_undone key d x → v < 4 ^ h
  turn_below x v l q =
      let below : x < 4 ^ half d = subst (λ (k : ℕ). x < 4 ^ k) e l in
      subst (λ (k : ℕ). v < 4 ^ k) (sym e) (subst (λ (k : ℕ). k < 4 ^ half d) (sym q) ((redone key (half d)).stays x below))

  pub walking-first : (xs vs : List ℕ) (i v : ℕ) → i < length vs → get_or xs i 0 < d → v ≡ eight_undone key d (get_or xs i 0)
      → Walking key d i xs vs i → Walking key d (i + 1) xs (set vs i v) (i + 1)
  walking-first xs vs i v w l q c =
      let x = get_or xs i 0 in
      let m : Midway key d x v = record { turns = 1; going = started d x q } in
      record {
        under = set_more (λ j u. Midway key d (get_or xs j 0) u) vs i v w m c.under;
        counted = omega (arith, ahead_more key d i v vs w, turns_more key d i xs, ahead-is key d x v l m, c.counted);
      }

  pub walking-next : (xs vs : List ℕ) (n i v t : ℕ) → i < n → i < length vs → Below d n xs → d ≤ get_or vs i 0 → v ≡ eight_undone key d (get_or vs i 0)
      → Walking key d n xs vs t → Walking key d n xs (set vs i v) (t + 1)
  walking-next xs vs n i v t b w below out q c =
      let x = get_or xs i 0 in
      let u = get_or vs i 0 in
      let was = c.under i b in
      let m : Midway key d x v = record { turns = was.turns + 1; going = onward was.going out q } in
      record {
        under = set-kept (λ j y. Midway key d (get_or xs j 0) y) vs i v w m n c.under;
        counted = omega (arith, ahead-set key d n i v vs b w, ahead-is key d x u (below i b) was, ahead-is key d x v (below i b) m, c.counted);
      }

pub walking-end : (key : List ℕ) (d n t : ℕ) (xs vs : List ℕ) → Below d n xs → going d vs n 0 ≡ [] → Walking key d n xs vs t
    → (t ≡ turns_of key d n xs) × Backed key d n xs vs
unfolding ahead_of backward
walking-end key d n t xs vs b e c =
    let home : Below d n vs = λ i l. going-none d vs n 0 e i (omega arith) (omega arith) in
    let none : sum_below n (λ i. ahead key d (get_or vs i 0)) ≤ n * 0
    = sum-most (λ i. ahead key d (get_or vs i 0)) 0 n (λ i l. omega (arith, ahead-home key d (get_or vs i 0) (home i l))) in
    (omega (arith, c.counted), λ i l. (answered (redone key (half d)) (half-wide d) (b i l) (c.under i l).going (home i l)).0.0)

pub front : (key : List ℕ) (d n r : ℕ) (xs ends es rest : List ℕ) → n ≤ length xs → n ≤ length ends → length es ≡ length (take n ends)
    → (r ≡ turns_of key d (length (take n ends)) (take n xs)) × Backed key d (length (take n ends)) (take n xs) es
    → (r ≡ turns_of key d n xs) × Backed key d n xs (es ++ rest)
unfolding turns_of
front key d n r xs ends es rest a b long e =
    let all : length (take n ends) ≡ n = length-take-le n ends b in (
      e.0
          ∙ ap (λ (m : ℕ). sum_below m (λ i. backward_turns key d (get_or (take n xs) i 0))) all
          ∙ sum_same (λ i. backward_turns key d (get_or (take n xs) i 0)) (λ i. backward_turns key d (get_or xs i 0)) n (λ i l. ap (backward_turns key d) (get_or-take n xs i 0 l)),
      λ i l.
          get_or-append es rest 0 i (omega (arith, long, all, l))
          ∙ e.1 i (omega (arith, all, l))
          ∙ ap (backward key d) (get_or-take n xs i 0 l),
    )
