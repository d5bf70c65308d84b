-- What is copied so far is the messages' own, and the rest the first one's.
use borrow.Author.Rules.{rules}
use native.Mathlib.Omega.{arith}
use native.Mathlib.Decide.{ℕ_discrete}
use Prim.Native.Nat.{ℕ, ◌+◌, ◌<◌}
use mathlib.Core.Path.{◌≡◌, refl, sym, ap, ◌∙◌}
use mathlib.Core.List.{List}
use lib.ListN.{length, get_or, set, get_or-replicate, length-set}
use lib.Seq.{get_or-set_same, get_or-set_other}
use Rattle.hash_queue.specs.Waiting.{places}
use Rattle.hash_queue.proofs.places_of.Goals as goal

-- one more place
copied : (at own : List ℕ) (k v : ℕ) → k < length own → v ≡ get_or at k 0 → ((i : ℕ) → i < k → get_or own i 0 ≡ get_or at i 0)
    → (i : ℕ) → i < k + 1 → get_or (set own k v) i 0 ≡ get_or at i 0
copied at own k v h e below i l = go (ℕ_discrete i k)
  where
    go : Dec (i ≡ k) → get_or (set own k v) i 0 ≡ get_or at i 0
    go (yes q) = ap (λ (j : ℕ). get_or (set own k v) j 0) q ∙ get_or-set_same own k v 0 h ∙ e ∙ ap (λ (j : ℕ). get_or at j 0) (sym q)
    go (no q) = get_or-set_other own k i v 0 q ∙ below i (omega arith)

pub loop-k-init : goal.loop-k-init
loop-k-init c = (search rules, (λ i h. absurd (omega arith)), λ i h l. get_or-replicate {A = ℕ} places i _ 0 l)

pub loop-k-preserved : goal.loop-k-preserved
loop-k-preserved c =
    let l = c.loop-k in
    let a = c.args in (
      length-set l.own l.k _ ∙ l.invariant.0,
      copied a.at.now l.own l.k _ (omega arith) refl l.invariant.1,
      λ i h b. get_or-set_other l.own l.k i _ 0 (λ q. omega arith) ∙ l.invariant.2 i (omega arith) b,
    )

pub returns : goal.returns
returns c =
    let l = c.loop-k in
    ((λ i h. l.invariant.1 i (omega arith)), λ i h b. l.invariant.2 i (omega arith) b)
