-- Paper 02, #109: the highest totals that a planner has to expect, over the standard functions. Assumes nothing.
--   sum_over        a sum as that over a list of numbers
--   token-turns     the turns of one token: at most r + 4^h - d
--   change-turns    the turns of a change: at most 4^h - d + 1 for each of its blocks and each unused token
-- That the totals have room in 8 bytes is in the scheme's TotalLaws.
use Prim.Native.Nat.{ℕ, zero, suc, ◌+◌, ◌*◌, ◌-◌, ◌^◌, ◌≤◌, ◌<◌}
use native.Mathlib.Omega.{arith}
use native.Mathlib.Nat.{mul_comm, mul_assoc, mod-lt}
use mathlib.Core.Path.{◌≡◌, refl, sym, ap, ◌∙◌}
use mathlib.Core.List.{List, [], ◌∷◌}
use lib.ListN.{length}
use Rattle.chacha20.specs.ChaCha20.{key_words}
use Rattle.permutation.specs.Distinct.{total, up_from}
use Rattle.permutation.specs.Rounds.{half}
use Rattle.permutation.specs.Permutation.{forward_turns}
use Rattle.permutation.proofs.UpFrom.{length-up_from, distinct-up_from, between-up_from, total-down}
use Rattle.permutation.proofs.WidthLaws.{half-wide}
use Rattle.permutation.proofs.PermutationLaws.{forward-total, backward-most}
use Rattle.scheme.specs.Records.{Card}
use Rattle.scheme.specs.Tokens.{BlockChange, row_of, draw_key}
use Rattle.scheme.specs.Totals.{sum_from, digest_turns, token_turns, change_turns}
use Rattle.scheme.proofs.laws.TableLaws.{one_more}
use Rattle.scheme.proofs.laws.TotalLaws.{sum-most}
use Rattle.standard.specs.Standard.{standard}

-- a sum is that over the numbers from i on
pub sum_over : (f : ℕ → ℕ) (m i : ℕ) → sum_from m i f ≡ total f (up_from i m)
unfolding sum_from
sum_over f zero i = refl
sum_over f (suc m) i =
    let up : i + 1 ≡ suc i = omega arith in
    ap (λ (x : ℕ). f i + x) (ap (λ (a : ℕ). sum_from m a f) up ∙ sum_over f m (suc i))

-- #110: "a ceiling of r + 4^h - d on the turns of one token (walks from different positions never cross outside the rows)"
pub token-turns : (k : List ℕ) (d r : ℕ) → r ≤ d → digest_turns standard k d r ≤ r + 4 ^ half d - d
unfolding digest_turns
token-turns k d r h =
    let turns = forward_turns (key_words k) d in
    omega (
      arith,
      sum_over (λ j. turns (j - 1)) r 1,
      total-down turns 0 r,
      forward-total (key_words k) d (up_from 0 r) (distinct-up_from 0 r) (between-up_from 0 d 0 r (omega arith) (omega arith)),
      length-up_from 0 r,
      half-wide d,
    )

-- "never above 4^h - d + 1", a block
changes-turns : (k : List ℕ) (d : ℕ) → 1 ≤ d → (changes : List (ℕ × BlockChange)) → token_turns standard k d changes ≤ length changes * (4 ^ half d - d + 1)
unfolding token_turns row_of
changes-turns k d pos [] = omega arith
changes-turns k d pos (w ∷ changes) =
    let row : row_of d w.0 - 1 < d = omega (arith, mod-lt (w.0 - 1) pos) in
    omega (arith, one_more (length changes) (4 ^ half d - d + 1), backward-most (key_words k) d (row_of d w.0 - 1) row, changes-turns k d pos changes)

-- "a change walks back once for each of its blocks, altered or not, and each unused token"
pub change-turns : (master : List ℕ) (c : Card) (changes : List (ℕ × BlockChange)) → 1 ≤ c.d
    → change_turns standard master c changes ≤ length changes * (c.t + 1 - c.next) * (4 ^ half c.d - c.d + 1)
unfolding change_turns
change-turns master c changes pos =
    let unused = c.t + 1 - c.next in
    let most = 4 ^ half c.d - c.d + 1 in
    let each = sum-most (λ i. token_turns standard (draw_key standard master c.id i) c.d changes) unused c.next (length changes * most)
    (λ i u v. changes-turns (draw_key standard master c.id i) c.d pos changes) in
    omega (arith, each, sym (mul_assoc unused (length changes) most) ∙ ap (λ (x : ℕ). x * most) (mul_comm unused (length changes)))
