-- The digest, the hashes and the turns after one more block change. Assumes nothing.
--   row-behind, number-next             the row behind a row, and the block behind an added one
--   row_below, seated                   where a walk begins and ends
--   walks_from, walked                  the turns of several
--   walked_none, turns-few              the turns of none, and what those of several are at most
--   hashed-none, hashed-at              no change yet; the same changes
--   hashed-drawn                        one more, where the token draws its row
--   hashed-undrawn                      several more, where it does not
--   done_all                            all of them
--   one-added, one-replaced             a change that comes alone
--   all-items                           several
use Prim.Native.Nat.{ℕ, zero, suc, ◌+◌, ◌*◌, ◌-◌, ◌%◌, ◌≤◌, ◌<◌}
use native.Mathlib.Omega.{arith}
use native.Mathlib.Nat.{zero-mul, mod-lt, mod-add-mod}
use native.Mathlib.Numerals.{add-one}
use mathlib.Core.Path.{◌≡◌, refl, sym, ap, ap₂, subst, ◌∙◌}
use mathlib.Core.List.{List, [], ◌∷◌, ◌++◌}
use mathlib.Core.Bool.{Bool, true, false, cond, false≢true}
use borrow.Author.Tests.{eqb-true}
use lib.Dec.{eqb}
use lib.ListN.{take, get_or}
use Rattle.octets.specs.Octets.{part}
use Rattle.chacha20.specs.ChaCha20.{key_words}
use Rattle.permutation.specs.Permutation.{backward, backward_turns}
use Rattle.scheme.specs.Tokens.{BlockChange, replaced, added, row_of, column_of, index_of, position_of, mixed, digest_after}
use Rattle.scheme.specs.Totals.{hashes_in, token_turns, token_hashes}
use Rattle.scheme.specs.Marks.{live}
use Rattle.scheme.proofs.laws.TokenLaws.{after-append}
use Rattle.scheme.proofs.laws.TotalLaws.{token-turns-more, token-hashes-more}
use Rattle.standard.specs.Standard.{standard}
use Rattle.counts.specs.declared.DigestTotals.{DigestTotals}
use Rattle.cycle_walks.specs.Each.{sum_below, Below, turns_of}
use Rattle.cycle_walks.proofs.WalkingLaws.{turns-most}
use Rattle.tokens.specs.Keyed.{block_change_of, Done}
use Rattle.tokens.proofs.ChangeLaws.{undrawn, drawn}
use Rattle.block_changes.specs.BlockChanges.{number_at, block_change_at, several_at, items_below, items_of, alone}
use Rattle.block_changes.specs.declared.BlockChanges.{BlockChanges}
use Rattle.block_changes.proofs.ListLaws.{items-same}
use Rattle.token_updates.specs.Runs.{firsts, Hashed, Rows, Placed}

-- rows one behind the other
pub row-behind : (d m at r : ℕ) → 1 ≤ m → at ≡ row_of d m - 1 → r ≡ (at + 1) % d → r ≡ row_of d (m + 1) - 1
unfolding row_of
row-behind d m at r l e q =
    let a : at ≡ (m - 1) % d = omega arith in
    let z : m - 1 + 1 ≡ m + 1 - 1 = omega arith in
    let n : r ≡ (m + 1 - 1) % d = q ∙ ap (λ (x : ℕ). (x + 1) % d) a ∙ mod-add-mod (m - 1) d 1 ∙ ap (λ (x : ℕ). x % d) z in
    omega arith

pub number-next : (w : BlockChanges) (new : List ℕ) (e : ℕ) → w.listed ≡ false → (number_at w new e ≡ w.first + e) × (number_at w new (e + 1) ≡ number_at w new e + 1)
unfolding number_at
number-next w new e l = (rw l, let z : w.first + (e + 1) ≡ w.first + e + 1 = omega arith in rw l z)

-- a walk begins at a row, from 0, and ends at the position that draws it
pub row_below : (d m s : ℕ) → 1 ≤ d → s ≡ row_of d m - 1 → s < d
unfolding row_of
row_below d m s h e = omega (arith, mod-lt (m - 1) {m = d} h)

pub seated : (k words : List ℕ) (d m s t : ℕ) → words ≡ key_words k → s ≡ row_of d m - 1 → t ≡ backward words d s → t + 1 ≡ position_of standard k d (row_of d m)
unfolding position_of
seated k words d m s t ew es et = ap (λ (n : ℕ). n + 1) (et ∙ ap₂ (λ (u : List ℕ) (n : ℕ). backward u d n) ew es)

pub turns-few : {t : ℕ} (words : List ℕ) (d n : ℕ) (starts : List ℕ) → t ≡ turns_of words d n starts → d ≤ 1048576 → Below d n starts → t ≤ n * 1048576
turns-few words d n starts e m b = omega (arith, turns-most words d n starts m b)

pub hashed-at : {k c new x y : List ℕ} {w : BlockChanges} {m h : ℕ} (n : ℕ) → m ≡ n → Hashed k c w new m x y h → Hashed k c w new n x y h
hashed-at {k} {c} {new} {x} {y} {w} {m} {h} n e before = subst (λ (i : ℕ). Hashed k c w new i x y h) e before

module _ (w : BlockChanges) (new : List ℕ) where
  firsts_more : (e : ℕ) → firsts w new (e + 1) ≡ firsts w new e ++ ((number_at w new e, several_at w new e) ∷ [])
  unfolding firsts items_below
  firsts_more e = ap (λ (n : ℕ). items_below n (λ i. (number_at w new i, several_at w new i))) (add-one e)

  pub walked_none : (k : List ℕ) (d : ℕ) → 0 ≡ token_turns standard k d (firsts w new 0)
  unfolding firsts items_below token_turns
  walked_none k d = refl

  -- the turns of n walks from the rows of changes, which are those of `start`
  pub walks_from : (k words : List ℕ) (from n : ℕ) (start : ℕ → ℕ) → words ≡ key_words k
      → ((e : ℕ) → e < n → start e ≡ row_of w.rows (number_at w new (from + e)) - 1)
      → token_turns standard k w.rows (firsts w new (from + n)) ≡ token_turns standard k w.rows (firsts w new from) + sum_below n (λ e. backward_turns words w.rows (start e))
  unfolding sum_below
  walks_from k words from zero start ew rows = let z : from + 0 ≡ from = omega arith in rw z (omega arith)
  walks_from k words from (suc n) start ew rows =
      let z : from + suc n ≡ from + n + 1 = omega arith in
      let last : backward_turns (key_words k) w.rows (row_of w.rows (number_at w new (from + n)) - 1) ≡ backward_turns words w.rows (start n)
      = ap₂ (λ (u : List ℕ) (s : ℕ). backward_turns u w.rows s) (sym ew) (sym (rows n (omega arith))) in
      ap (λ (m : ℕ). token_turns standard k w.rows (firsts w new m)) z
      ∙ ap (token_turns standard k w.rows) (firsts_more (from + n))
      ∙ token-turns-more standard k w.rows (firsts w new (from + n)) (number_at w new (from + n), several_at w new (from + n))
      ∙ omega (arith, last, walks_from k words from n start ew (λ e h. rows e (omega arith)))

  pub walked : (k words : List ℕ) (from n : ℕ) (starts : List ℕ) → words ≡ key_words k → Rows w new from n starts
      → token_turns standard k w.rows (firsts w new (from + n)) ≡ token_turns standard k w.rows (firsts w new from) + turns_of words w.rows n starts
  unfolding turns_of
  walked k words from n starts = walks_from k words from n (λ e. get_or starts e 0)

  module _ (k c : List ℕ) where
    pub hashed-none : (x : List ℕ) → Hashed k c w new 0 x x 0
    unfolding firsts items_below digest_after token_hashes
    hashed-none x = record { digest = refl; hashes = refl }

    -- one more change, whose own digest and hashes are known
    hashed-more : (e : ℕ) (x y : List ℕ) (h : ℕ) (z : DigestTotals) → Hashed k c w new e x y h
        → Done k c w.rows w.positions ((number_at w new e, several_at w new e) ∷ []) y z → Hashed k c w new (e + 1) x z.digest (h + z.hashes)
    unfolding token_hashes
    hashed-more e x y h z before done =
        let it : ℕ × BlockChange = (number_at w new e, several_at w new e) in
        record {
          digest =
              done.digest
              ∙ ap (digest_after standard k c w.rows w.positions (it ∷ [])) before.digest
              ∙ sym (ap (λ (l : List (ℕ × BlockChange)). digest_after standard k c w.rows w.positions l x) (firsts_more e)
              ∙ after-append standard k c w.rows w.positions (firsts w new e) (it ∷ []) x);
          hashes =
              omega (
                arith,
                before.hashes,
                done.hashes,
                token-hashes-more standard k w.rows w.positions (firsts w new e) it,
                ap (token_hashes standard k w.rows w.positions) (firsts_more e),
              );
        }

    -- what is handed over is hashed at the block's index
    pub hashed-drawn : (e j0 m column index n : ℕ) (c' x y u : List ℕ) (h : ℕ) → j0 < w.positions → c' ≡ c → m ≡ number_at w new e → column ≡ column_of w.rows m
        → index ≡ index_of w.rows column (j0 + 1) → u ≡ mixed standard c' index (several_at w new e) y → n ≡ hashes_in (several_at w new e)
        → j0 + 1 ≡ position_of standard k w.rows (row_of w.rows (number_at w new e)) → Hashed k c w new e x y h → Hashed k c w new (e + 1) x u (h + n)
    hashed-drawn e j0 m column index n c' x y u h l ec em ej ei eu en place before =
        hashed-more e x y h (record { digest = u; turns = _; hashes = n }) before
        (drawn k c w.rows w.positions (number_at w new e) j0 _ (several_at w new e) y place refl column index n c' u l ec (ej ∙ ap (column_of w.rows) em) ei eu en)

    skipped : (from e n : ℕ) (x y ends : List ℕ) (h : ℕ) → Placed k w new from (e + n) ends → ((j : ℕ) → e ≤ j → j < e + n → w.positions ≤ get_or ends j 0)
        → Hashed k c w new (from + e) x y h → Hashed k c w new (from + (e + n)) x y h
    skipped from e zero x y ends h placed out before =
        let z : from + e ≡ from + (e + 0) = omega arith in subst (λ (m : ℕ). Hashed k c w new m x y h) z before
    skipped from e (suc n) x y ends h placed out before =
        let fewer = skipped from e n x y ends h (λ j l. placed j (omega arith)) (λ j l u. out j l (omega arith)) before in
        let next = hashed-more (from + (e + n)) x y h (record { digest = y; turns = _; hashes = 0 }) fewer
        (undrawn k c w.rows w.positions (number_at w new (from + (e + n))) (get_or ends (e + n) 0) _ (several_at w new (from + (e + n))) y (placed (e + n) (omega arith)) refl
        (out (e + n) (omega arith) (omega arith))) in
        let z : from + (e + n) + 1 ≡ from + (e + suc n) = omega arith in
        let same : h + 0 ≡ h = omega arith in
        subst (λ (m : ℕ). Hashed k c w new m x y h) z (subst (Hashed k c w new (from + (e + n) + 1) x y) same next)

    pub hashed-undrawn : (from e r : ℕ) (x y ends : List ℕ) (h : ℕ) → e ≤ r → Placed k w new from r ends → ((j : ℕ) → e ≤ j → j < r → w.positions ≤ get_or ends j 0)
        → Hashed k c w new (from + e) x y h → Hashed k c w new (from + r) x y h
    hashed-undrawn from e r x y ends h l placed out before =
        let z : e + (r - e) ≡ r = omega arith in
        subst (λ (m : ℕ). Hashed k c w new (from + m) x y h) z
        (skipped from e (r - e) x y ends h (λ j b. placed j (omega arith)) (λ j u b. out j u (omega arith)) before)

    pub done_all : (n : ℕ) (x₀ x y u : List ℕ) (t h : ℕ) → n ≡ w.count → x₀ ≡ x → u ≡ y → t ≡ token_turns standard k w.rows (firsts w new n)
        → Hashed k c w new n x₀ y h → Done k c w.rows w.positions (firsts w new w.count) x (record { digest = u; turns = t; hashes = h })
    done_all n x₀ x y u t h en ex eu et before = record {
      digest = eu ∙ before.digest ∙ ap₂ (λ (m : ℕ) (v : List ℕ). digest_after standard k c w.rows w.positions (firsts w new m) v) en ex;
      turns = et ∙ ap (λ (m : ℕ). token_turns standard k w.rows (firsts w new m)) en;
      hashes = before.hashes ∙ ap (λ (m : ℕ). token_hashes standard k w.rows w.positions (firsts w new m)) en;
    }

-- the old contents of several changes are not read from a buffer of their own, and added blocks are live
old-unread : (w : BlockChanges) (om old nm new : List ℕ) (e : ℕ) → (w.listed ≡ false → w.fresh ≡ true) → nm ≡ live w.version
    → several_at w new e ≡ block_change_at w om old nm new e
unfolding block_change_at block_change_of
old-unread w om old nm new e f en =
    ap (λ (m : List ℕ). block_change_at w [] [] m new e) (sym en)
    ∙ go w.listed w.fresh f _ (nm ++ part (e * w.size) w.size new) ([] ++ part (e * w.size) w.size []) (om ++ part (e * w.size) w.size old)
  where
    go : (l b : Bool) → (l ≡ false → b ≡ true) → (x : BlockChange) (y o₁ o₂ : List ℕ)
        → cond l x (cond b (added y) (replaced o₁ y)) ≡ cond l x (cond b (added y) (replaced o₂ y))
    go true b h x y o₁ o₂ = refl
    go false true h x y o₁ o₂ = refl
    go false false h x y o₁ o₂ = absurd (false≢true (h refl))

module _ (w : BlockChanges) (om old nm new : List ℕ) where
  ways : alone w ≡ true → (w.listed ≡ false) × (w.count ≡ 1)
  unfolding alone
  ways one = go w.listed refl w.count refl one
    where
      go : (l : Bool) → w.listed ≡ l → (n : ℕ) → w.count ≡ n → cond l false (eqb n 1) ≡ true → (w.listed ≡ false) × (w.count ≡ 1)
      go true el n en h = absurd (false≢true h)
      go false el n en h = (el, en ∙ eqb-true n 1 h)

  -- a change that comes alone
  pub one-item : alone w ≡ true → (w.first, block_change_of w.fresh (om ++ take w.size old) (nm ++ take w.size new)) ∷ [] ≡ items_of w om old nm new
  unfolding items_of items_below number_at block_change_at
  one-item one =
      let none : 0 * w.size ≡ 0 = zero-mul w.size in
      let same : w.first + 0 ≡ w.first = omega arith in
      rw ((ways one).1, (ways one).0, none, same)

  pub one-added : alone w ≡ true → w.fresh ≡ true → (w.first, added (nm ++ take w.size new)) ∷ [] ≡ items_of w om old nm new
  unfolding block_change_of
  one-added one f =
      ap (λ (b : Bool). (w.first, cond b (added (nm ++ take w.size new)) (replaced (om ++ take w.size old) (nm ++ take w.size new))) ∷ []) (sym f) ∙ one-item one

  pub one-replaced : alone w ≡ true → w.fresh ≡ false → (w.first, replaced (om ++ take w.size old) (nm ++ take w.size new)) ∷ [] ≡ items_of w om old nm new
  unfolding block_change_of
  one-replaced one f =
      ap (λ (b : Bool). (w.first, cond b (added (nm ++ take w.size new)) (replaced (om ++ take w.size old) (nm ++ take w.size new))) ∷ []) (sym f) ∙ one-item one

  pub all-items : (w.listed ≡ false → w.fresh ≡ true) → nm ≡ live w.version → firsts w new w.count ≡ items_of w om old nm new
  unfolding firsts items_of
  all-items f en =
      items-same (λ e. (number_at w new e, several_at w new e)) (λ e. (number_at w new e, block_change_at w om old nm new e))
      (λ e. ap (λ (ch : BlockChange). (number_at w new e, ch)) (old-unread w om old nm new e f en)) w.count
