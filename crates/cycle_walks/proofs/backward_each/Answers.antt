-- The walks are those of the first n (front).
use Rattle.cycle_walks.proofs.WalkingLaws.{front}
use native.Mathlib.Omega.{arith}
use mathlib.Core.Path.{◌≡◌, ap, subst, ◌∙◌}
use mathlib.Core.List.{List}
use Prim.Native.Nat.{ℕ}
use lib.ListN.{length, take}
use Rattle.cycle_walks.specs.Each.{Backed, turns_of}
use Rattle.cycle_walks.proofs.backward_each.Goals as goal

pub returns-in-Some : goal.returns-in-Some
returns-in-Some c =
    let a = c.args in
    let w = c.side_by_side in
    let n : ℕ = length (take a.n a.ends.now) in
    let xs : List ℕ = take a.n a.xs.now in
    let key : c.in-Some.t.of.key ≡ a.key = ap (λ p. p.key) c.in-Some.ensures ∙ c.new-p.ensures.0 in
    let d : c.in-Some.t.of.d ≡ a.d = ap (λ p. p.d) c.in-Some.ensures ∙ c.new-p.ensures.1 in
    let e = subst (λ (d : ℕ). (w.result ≡ turns_of a.key d n xs) × Backed a.key d n xs w.new.ends) d
    (subst (λ (k : List ℕ). (w.result ≡ turns_of k c.in-Some.t.of.d n xs) × Backed k c.in-Some.t.of.d n xs w.new.ends) key w.ensures) in
    front a.key a.d a.n w.result a.xs.now a.ends.now w.new.ends _ c.requires.n_in_bounds.0 c.requires.n_in_bounds.1 (omega (arith, w.auto)) e

pub returns-in-None : goal.returns-in-None
returns-in-None c =
    let a = c.args in
    let w = c.one_by_one in
    let n : ℕ = length (take a.n a.ends.now) in
    let xs : List ℕ = take a.n a.xs.now in
    let p = c.new-p in
    let e = subst (λ (d : ℕ). (w.result ≡ turns_of a.key d n xs) × Backed a.key d n xs w.new.ends) p.ensures.1
    (subst (λ (k : List ℕ). (w.result ≡ turns_of k p.result.d n xs) × Backed k p.result.d n xs w.new.ends) p.ensures.0 w.ensures) in
    front a.key a.d a.n w.result a.xs.now a.ends.now w.new.ends _ c.requires.n_in_bounds.0 c.requires.n_in_bounds.1 (omega (arith, w.auto)) e
