-- #109: "Set-up, changes and the host's proof write their totals of turns and of block hashes .., 8 bytes each". "They equal the definition's": the two
-- numbers come back from the bytes that an accepted call writes, nothing being cut off. Assumes nothing.
--   Counted                                   a buffer of totals that tells these turns and these hashes
--   set-up-totals, prove-totals               of an accepted set-up, and of an accepted proof
--   change-totals, ask-totals                 of an accepted change, in one step or asked
--   changes-long                                 how many blocks an accepted change has at most
use Prim.Native.Nat.{ℕ, suc, ◌+◌, ◌-◌, ◌/◌, ◌≤◌, ◌<◌}
use native.Mathlib.Omega.{arith}
use mathlib.Core.Path.{◌≡◌, refl, ap, ◌∙◌}
use mathlib.Core.List.{List, [], ◌∷◌}
use mathlib.Core.Bool.{true}
use borrow.Author.Tests.{leb-true}
use lib.ListN.{length}
use Rattle.octets.specs.Octets.{le, be, of_be, part}
use Rattle.octets.proofs.NumberLaws.{be-back}
use Rattle.scheme.specs.Lists.{pieces}
use Rattle.scheme.specs.Primitives.{Primitives}
use Rattle.scheme.specs.Marks.{live}
use Rattle.scheme.specs.Records.{Card, read_card, read_message}
use Rattle.scheme.specs.Tokens.{added_from}
use Rattle.scheme.specs.Batches.{Item, items_of, batch_changes}
use Rattle.scheme.specs.Totals.{totals_bytes, digest_turns, digest_hashes, set_up_turns, set_up_hashes, change_turns, change_hashes}
use Rattle.scheme.specs.Changes.{Change, update, delete, append, load, batch, loaded, place_checks, block_changes, change_code, change_totals}
use Rattle.scheme.specs.Calls.{set_up_code, set_up_totals, prove_checks, prove_code, prove_totals}
use Rattle.scheme.specs.Asks.{ask_code, ask_totals}
use Rattle.scheme.proofs.laws.CheckLaws.{plain-codes, checks-held, test_of}
use Rattle.scheme.proofs.laws.LimitLaws.{card-limits, message-limits}
use Rattle.scheme.proofs.laws.TableLaws.{pieces-length}
use Rattle.scheme.proofs.laws.MarkLaws.{alike-long}
use Rattle.scheme.proofs.laws.CallLaws.{set-up-has, Changed, change-has, ask-has}
use Rattle.scheme.proofs.laws.BatchLaws.{batch-has}
use Rattle.scheme.proofs.laws.TotalLaws.{digest-turns-most, digest-hashes-most, set-up-turns-most, set-up-hashes-most, change-turns-most, change-hashes-most}

-- "8 bytes each, in the order told": turns, then hashes
pub record Counted (totals : List ℕ) (turns hashes : ℕ) : Type 0 where
  pub turns' : of_be (part 0 8 totals) ≡ turns
  pub hashes' : of_be (part 8 8 totals) ≡ hashes

counted : (turns hashes : ℕ) → turns < 18446744073709551616 → hashes < 18446744073709551616 → Counted (totals_bytes turns hashes) turns hashes
unfolding totals_bytes be le
counted turns hashes h l = record { turns' = be-back 8 turns h; hashes' = be-back 8 hashes l }

module _ (P : Primitives) where
  -- set-up: the walks and hashes of every token
  pub set-up-totals : (master id : List ℕ) (v B d r t n : ℕ) (blocks card table totals : List ℕ) → set_up_code P master id v B d r t n blocks card table totals ≡ 0
      → Counted (set_up_totals P master id v B d r t n blocks card table totals) (set_up_turns P master id d r t) (set_up_hashes P master id d r t n)
  unfolding set_up_totals
  set-up-totals master id v B d r t n blocks card table totals ok =
      let s = set-up-has P master id v B d r t n blocks card table totals ok in
      let shape = s.shape in
      rw ok
      (counted (set_up_turns P master id d r t) (set_up_hashes P master id d r t n)
      (set-up-turns-most P master id d r t shape.d1 shape.dmost shape.rd shape.rmost s.tmost)
      (set-up-hashes-most P master id d r t shape.d1 shape.dmost shape.rd shape.rmost s.tmost n s.nmost))

  -- the host's proof: those of the drawn token
  pub prove-totals : (message blocks marks table reply totals : List ℕ) → prove_code P message blocks marks table reply totals ≡ 0
      → Counted (prove_totals P message blocks marks table reply totals) (digest_turns P (read_message message).k (read_message message).d (read_message message).r)
      (digest_hashes P (read_message message).k (read_message message).d (read_message message).r (read_message message).n)
  unfolding prove_totals prove_code
  prove-totals message blocks marks table reply totals ok =
      let m = read_message message in
      let checks = prove_checks P message blocks marks table reply totals in
      let l = message-limits m (checks-held checks [] (plain-codes checks refl) ok).0.1.1.0 in
      let shape = l.0 in
      let turns = digest-turns-most P m.k m.d m.r shape.d1 shape.dmost shape.rd in
      let hashes = digest-hashes-most P m.k m.d m.r shape.d1 shape.dmost shape.rd m.n l.4 in
      rw ok
      (counted (digest_turns P m.k m.d m.r) (digest_hashes P m.k m.d m.r m.n) (omega (arith, shape.rmost)) (omega (arith, shape.rmost)))

-- how many blocks a change has
added-many : (m : ℕ) (xs : List (List ℕ)) → length (added_from m xs) ≡ length xs
unfolding added_from
added-many m [] = refl
added-many m (x ∷ xs) = ap suc (added-many (m + 1) xs)

corrected-many : (v B : ℕ) (xs : List Item) → length (batch_changes v B xs) ≡ length xs
unfolding batch_changes
corrected-many v B [] = refl
corrected-many v B (x ∷ xs) = ap suc (corrected-many v B xs)

loaded-many : (c : Card) (blocks : List ℕ) → length (loaded c blocks) ≡ length blocks / c.B
unfolding loaded
loaded-many c blocks = alike-long (live c.version) (pieces c.B (length blocks / c.B) blocks) ∙ pieces-length c.B (length blocks / c.B) blocks

-- no more than a file
pub changes-long : (c : Card) (change : Change) → ((k : ℕ) → test_of k (place_checks c change) ≡ true) → length (block_changes c change) ≤ 16777216
changes-long c (update m old mark new) h = omega arith
changes-long c (delete m old mark) h = omega arith
changes-long c (append new) h = omega arith
changes-long c (load blocks) h =
    omega (arith, added-many (c.n + 1) (loaded c blocks), loaded-many c blocks, leb-true (c.n + length blocks / c.B) 16777216 (h 5))
changes-long c (batch items) h = omega (arith, corrected-many c.version c.B (items_of c items), (batch-has c items (h 14)).most)

module _ (P : Primitives) (master : List ℕ) where
  -- both totals of a change have room
  changed : (c : Card) (table : List ℕ) (change : Change) → Changed P master c table change
      → Counted (totals_bytes (change_turns P master c (block_changes c change)) (change_hashes P master c (block_changes c change))) (change_turns P master c (block_changes c change))
      (change_hashes P master c (block_changes c change))
  changed c table change u =
      let l = card-limits c u.order.fits in
      let some : c.t + 1 - c.next ≤ 65536 = omega (arith, l.tmost, l.next1) in
      let many = changes-long c change u.placed in
      counted (change_turns P master c (block_changes c change)) (change_hashes P master c (block_changes c change))
      (change-turns-most P master c (block_changes c change) l.shape.d1 l.shape.dmost some many)
      (change-hashes-most P master c (block_changes c change) l.shape.d1 l.shape.dmost some many)

  -- a change, in one step or asked: its walks and hashes on every unused token
  module _ (card table : List ℕ) (change : Change) (totals : List ℕ) where
    pub change-totals : change_code P master card table change totals ≡ 0
        → Counted (change_totals P master card table change totals) (change_turns P master (read_card card) (block_changes (read_card card) change))
        (change_hashes P master (read_card card) (block_changes (read_card card) change))
    unfolding change_totals
    change-totals ok = rw ok (changed (read_card card) table change (change-has P master card table change totals ok))

    pub ask-totals : (second : List ℕ) → ask_code P master card table second change totals ≡ 0
        → Counted (ask_totals P master card table second change totals) (change_turns P master (read_card card) (block_changes (read_card card) change))
        (change_hashes P master (read_card card) (block_changes (read_card card) change))
    unfolding ask_totals
    ask-totals second ok = rw ok (changed (read_card card) table change (ask-has P master card table second change totals ok).0)
