-- A load's code from its tests. Assumes nothing.
--   load-none .. load_fits    no bytes, a length that the block size does not divide, more blocks than there is room for, none of these
use Prim.Native.Nat.{ℕ, ◌+◌, ◌-◌, ◌/◌, ◌%◌, ◌≤◌, ◌<◌}
use native.Mathlib.Omega.{arith}
use borrow.Author.Tests.{lt-ltb, le-ltb, le-leb, lt-leb, eq-eqb, ne_eqb}
use mathlib.Core.Path.{◌≡◌, sym, ◌∙◌}
use mathlib.Core.Bool.{cond}
use lib.Dec.{leb}
use Rattle.scheme.specs.Checks.{first}
use Rattle.cards.specs.Fields.{card_of}
use Rattle.cards.specs.declared.Card.{Card}
use Rattle.changes.specs.Kinds.{load_checks}

module _ (c : Card) (long : ℕ) where
  pub load-none : long ≡ 0 → 12 ≡ first 0 (load_checks (card_of c) long)
  unfolding first
  load-none e = rw (le-ltb 0 long (omega arith))

  pub load-broken : (long ≡ 0 → ⊥) → (long % c.block_bytes ≡ 0 → ⊥) → 12 ≡ first 0 (load_checks (card_of c) long)
  unfolding first card_of
  load-broken s h = rw (lt-ltb 0 long (omega arith), ne_eqb (long % c.block_bytes) 0 h)

  module _ (s : long ≡ 0 → ⊥) (w : long % c.block_bytes ≡ 0) where
    last-check : first 0 (load_checks (card_of c) long) ≡ cond (leb (c.blocks + long / c.block_bytes) 16777216) 0 5
    unfolding first card_of
    last-check = rw (lt-ltb 0 long (omega arith), eq-eqb (long % c.block_bytes) 0 w)

    pub load_past : c.blocks ≤ 16777216 → 16777216 - c.blocks < long / c.block_bytes → 5 ≡ first 0 (load_checks (card_of c) long)
    load_past l h = sym (last-check ∙ rw (lt-leb (c.blocks + long / c.block_bytes) 16777216 (omega arith)))

    pub load_fits : c.blocks ≤ 16777216 → long / c.block_bytes ≤ 16777216 - c.blocks → 0 ≡ first 0 (load_checks (card_of c) long)
    load_fits l h = sym (last-check ∙ rw (le-leb (c.blocks + long / c.block_bytes) 16777216 (omega arith)))
