-- A sum on its way through the block changes of a call. Assumes nothing.
--   firsts w new n               the first n of several block changes
--   Hashed k c w new n x y h     a digest x becomes y by them, under a token's keys, and takes h hashes
--   Made z i run                 where the run has its hash key, it is the token's
--   Rows w new from n starts     starts has, from 0, the rows of the blocks of n changes, from change `from` on
--   Placed k w new from n ends   ends has, from 0, the positions that draw these rows
use Rattle.std.specs.Prelude.{ℕ, ◌+◌, ◌-◌, ◌<◌, List, ◌≡◌, get_or, Some}
use Rattle.hmac.specs.declared.Key.{Key}
use Rattle.scheme.specs.Tokens.{BlockChange, row_of, position_of, digest_after}
use Rattle.scheme.specs.Totals.{token_hashes}
use Rattle.standard.specs.Standard.{standard}
use Rattle.tokens.specs.Keyed.{token_key}
use Rattle.block_changes.specs.BlockChanges.{number_at, several_at, items_below}
use Rattle.block_changes.specs.declared.BlockChanges.{BlockChanges}
use Rattle.token_updates.specs.declared.Run.{Run}

unfoldable pub firsts : BlockChanges → List ℕ → ℕ → List (ℕ × BlockChange)
firsts w new n = items_below n (λ e. (number_at w new e, several_at w new e))

pub record Hashed (k c : List ℕ) (w : BlockChanges) (new : List ℕ) (n : ℕ) (x y : List ℕ) (h : ℕ) : Type 0 where
  pub digest : y ≡ digest_after standard k c w.rows w.positions (firsts w new n) x
  pub hashes : h ≡ token_hashes standard k w.rows w.positions (firsts w new n)

abbrev pub Made : Key → ℕ → Run → Type 0
Made z i run = (c : List ℕ) → run.c ≡ Some c → c ≡ token_key z i

abbrev pub Rows : BlockChanges → List ℕ → ℕ → ℕ → List ℕ → Type 0
Rows w new from n starts = (e : ℕ) → e < n → get_or starts e 0 ≡ row_of w.rows (number_at w new (from + e)) - 1

abbrev pub Placed : List ℕ → BlockChanges → List ℕ → ℕ → ℕ → List ℕ → Type 0
Placed k w new from n ends = (e : ℕ) → e < n → get_or ends e 0 + 1 ≡ position_of standard k w.rows (row_of w.rows (number_at w new (from + e)))
