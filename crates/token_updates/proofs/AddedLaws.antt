-- Blocks added one after the other, n others before them. Assumes nothing.
--   firsts-added     what is handed over of them, as the scheme lists it: the live blocks of a buffer that is lent as far as they go
--   turns-added      the turns of their walks back, from the row behind the n others on
--   done-added       what they make of a digest, with the turns and hashes that it takes
use Prim.Native.Nat.{ℕ, zero, suc, ◌+◌, ◌*◌, ◌-◌, ◌%◌, ◌≤◌}
use native.Mathlib.Omega.{arith}
use native.Mathlib.Nat.{zero-add, suc-mul}
use mathlib.Core.Path.{◌≡◌, refl, sym, ap, ap₂, ◌∙◌}
use mathlib.Core.List.{List, ◌∷◌, ◌++◌}
use mathlib.Core.Bool.{true, false}
use lib.ListN.{length, take, drop, length-drop}
use lib.Seq.{take-take, take_all, length-take-le}
use Rattle.octets.specs.Octets.{part}
use Rattle.octets.proofs.PartLaws.{part-part}
use Rattle.chacha20.specs.ChaCha20.{key_words}
use Rattle.scheme.specs.Lists.{pieces}
use Rattle.scheme.specs.Marks.{live, alike}
use Rattle.scheme.specs.Tokens.{BlockChange, added, added_from, row_of, digest_after}
use Rattle.scheme.specs.Totals.{token_turns, token_hashes}
use Rattle.standard.specs.Standard.{standard}
use Rattle.cycle_walks.specs.Along.{turns_along}
use Rattle.tokens.specs.Keyed.{block_change_of, Done}
use Rattle.block_changes.specs.BlockChanges.{number_at, block_change_at, several_at}
use Rattle.block_changes.specs.declared.BlockChanges.{BlockChanges}
use Rattle.block_changes.proofs.ListLaws.{items-same, items-added}
use Rattle.token_updates.specs.Runs.{firsts}
use Rattle.token_updates.proofs.ItemLaws.{number-next, walked_none, walks_from}

-- a buffer that is lent as far as its blocks go
drop-taken : (B m : ℕ) (xs : List ℕ) → B + m ≤ length xs → drop B (take (B + m) xs) ≡ take m (drop B xs)
drop-taken B m xs h =
    let front : List ℕ = take (B + m) xs in
    let long : length front ≡ B + m = length-take-le (B + m) xs h in
    let rest : length (drop B front) ≤ m = omega (arith, length-drop B front) in
    sym (take_all m (drop B front) rest) ∙ part-part B m 0 (B + m) xs (omega arith) ∙ ap (λ (i : ℕ). part i m xs) (zero-add B)

pieces-taken : (B n : ℕ) (xs : List ℕ) → n * B ≤ length xs → pieces B n (take (n * B) xs) ≡ pieces B n xs
unfolding pieces
pieces-taken B zero xs h = refl
pieces-taken B (suc n) xs h =
    let e : suc n * B ≡ B + n * B = omega (arith, suc-mul n B) in
    let inside : n * B ≤ length (drop B xs) = omega (arith, length-drop B xs) in
    ap (λ (k : ℕ). pieces B (suc n) (take k xs)) e
    ∙ ap₂ (λ (u : List ℕ) (v : List (List ℕ)). u ∷ v) (take-take B (B + n * B) xs (omega arith))
    (ap (pieces B n) (drop-taken B (n * B) xs (omega arith)) ∙ pieces-taken B n (drop B xs) inside)

module _ (w : BlockChanges) (new : List ℕ) (n : ℕ) (l : w.listed ≡ false) (next : n + 1 ≡ w.first) where
  fresh-item : (e : ℕ) → w.fresh ≡ true
      → ◌≡◌ {A = ℕ × BlockChange} (number_at w new e, several_at w new e) (w.first + e, added (live w.version ++ part (e * w.size) w.size new))
  unfolding number_at block_change_at block_change_of
  fresh-item e f = rw (l, f)

  firsts-added : w.fresh ≡ true → w.count * w.size ≤ length new
      → added_from (n + 1) (alike (live w.version) (pieces w.size w.count (take (w.count * w.size) new))) ≡ firsts w new w.count
  unfolding firsts
  firsts-added f inside =
      ap₂ (λ (m : ℕ) (xs : List (List ℕ)). added_from m (alike (live w.version) xs)) next (pieces-taken w.size w.count new inside)
      ∙ sym (items-added (live w.version) w.first w.size w.count new)
      ∙ sym (items-same (λ e. (number_at w new e, several_at w new e)) (λ e. (w.first + e, added (live w.version ++ part (e * w.size) w.size new)))
      (λ e. fresh-item e f) w.count)

  row-added : (e : ℕ) → (n + e) % w.rows ≡ row_of w.rows (number_at w new (0 + e)) - 1
  unfolding row_of
  row-added e =
      let z : 0 + e ≡ e = omega arith in
      let m : w.first + e - 1 ≡ n + e = omega arith in
      rw (z, (number-next w new e l).0, m) (omega arith)

  turns-added : (k words : List ℕ) → words ≡ key_words k
      → turns_along words w.rows n w.count ≡ token_turns standard k w.rows (firsts w new w.count)
  turns-added k words ew =
      let z : 0 + w.count ≡ w.count = omega arith in
      let all = walks_from w new k words 0 w.count (λ e. (n + e) % w.rows) ew (λ e h. row-added e) in
      sym (ap (λ (m : ℕ). token_turns standard k w.rows (firsts w new m)) (sym z) ∙ all ∙ omega (arith, walked_none w new k w.rows))

  pub done-added : (k words c' c x : List ℕ) (news : List (List ℕ)) (y : List ℕ) (turns hashes : ℕ) → w.fresh ≡ true → w.count * w.size ≤ length new
      → news ≡ alike (live w.version) (pieces w.size w.count (take (w.count * w.size) new)) → words ≡ key_words k → c' ≡ c
      → y ≡ digest_after standard k c' w.rows w.positions (added_from (n + 1) news) x
      → turns ≡ turns_along words w.rows n w.count
      → hashes ≡ token_hashes standard k w.rows w.positions (added_from (n + 1) news)
      → Done k c w.rows w.positions (firsts w new w.count) x (record { digest = y; turns = turns; hashes = hashes })
  done-added k words c' c x news y turns hashes f inside en ew ec ey et eh =
      let same : added_from (n + 1) news ≡ firsts w new w.count = ap (added_from (n + 1)) en ∙ firsts-added f inside in
      record {
        digest = ey ∙ ap₂ (λ (h : List ℕ) (l : List (ℕ × BlockChange)). digest_after standard k h w.rows w.positions l x) ec same;
        turns = et ∙ turns-added k words ew;
        hashes = eh ∙ ap (token_hashes standard k w.rows w.positions) same;
      }
