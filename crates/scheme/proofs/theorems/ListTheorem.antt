-- Demand 3: after an accepted set-up, any list of calls gives the book's numbers, card and table. Assumes nothing.
--   start-good, start-card, start-table, start-held   an accepted set-up leaves the card and the table of the book that it starts
--   theorem                               the list theorem
--   never-seven                           "7 never comes up"
--   last-good, last-key                   what the book after a list keeps
use Prim.Native.Nat.{ℕ, ◌+◌, ◌-◌}
use native.Mathlib.Omega.{arith}
use mathlib.Core.Path.{◌≡◌, refl, ap, ◌∙◌}
use mathlib.Core.List.{List, [], ◌∷◌}
use lib.ListN.{length}
use Rattle.scheme.specs.Lists.{joined, pieces}
use Rattle.scheme.specs.Primitives.{Primitives}
use Rattle.scheme.specs.Marks.{live, alike}
use Rattle.scheme.specs.Records.{card_bytes}
use Rattle.scheme.specs.Calls.{set_up_code, set_up_card, set_up_table}
use Rattle.scheme.specs.Runs.{Lent, answer, lent_asked, run}
use Rattle.scheme.specs.Book.{Book, started, book_card, fresh_token, fresh_record, book_table, book_answer, book_after, book_numbers, book_last, Honest}
use Rattle.scheme.proofs.laws.CheckLaws.{Fine}
use Rattle.scheme.proofs.laws.TableLaws.{pieces-length, pieces-sized}
use Rattle.scheme.proofs.laws.MarkLaws.{alike-formed, alike-long}
use Rattle.scheme.proofs.laws.CallLaws.{set-up-has}
use Rattle.scheme.proofs.laws.BookLaws.{Good}
use Rattle.scheme.proofs.laws.AfterLaws.{Held}
use Rattle.scheme.proofs.laws.StepLaws.{step}
use Rattle.scheme.proofs.laws.SevenLaws.{fine}

-- no number has code 7
abbrev pub NoSeven : List ℕ → Type 0
NoSeven [] = Unit {0}
NoSeven (n ∷ ns) = Fine n × NoSeven ns

module _ (P : Primitives) where
  -- the asked table after a call
  abbrev next-asked : Lent → Book → List ℕ → List ℕ
  next-asked x b asked = lent_asked P x (card_bytes (book_card b)) (book_table P b) asked

  -- what an honest list keeps
  pub last-good : (xs : List Lent) (b : Book) (asked : List ℕ) → Good P b → Held P b asked → Honest P xs b → Good P (book_last P xs b)
  unfolding book_last
  last-good [] b asked g i h = g
  last-good (x ∷ xs) b asked g i h =
      let s = step P b g asked i x h.0 h.1 in
      last-good xs (book_after P x b) (next-asked x b asked) s.good s.held h.2

  pub last-key : (xs : List Lent) (b : Book) (asked : List ℕ) → Good P b → Held P b asked → Honest P xs b → (book_last P xs b).key ≡ b.key
  unfolding book_last
  last-key [] b asked g i h = refl
  last-key (x ∷ xs) b asked g i h =
      let s = step P b g asked i x h.0 h.1 in
      last-key xs (book_after P x b) (next-asked x b asked) s.good s.held h.2 ∙ s.same

  no_seven : (xs : List Lent) (b : Book) (asked : List ℕ) → Good P b → Held P b asked → Honest P xs b → NoSeven (book_numbers P xs b)
  unfolding book_numbers
  no_seven [] b asked g i h = tt
  no_seven (x ∷ xs) b asked g i h =
      let s = step P b g asked i x h.0 h.1 in
      let f : Fine (book_answer P x b) = rw s.code at (fine P b g x h.0) in
      (f, no_seven xs (book_after P x b) (next-asked x b asked) s.good s.held h.2)

  -- a list on the card and the tables of a book
  from-book : (xs : List Lent) (b : Book) (asked : List ℕ) → Good P b → Held P b asked → Honest P xs b
      → run P xs (card_bytes (book_card b)) (book_table P b) asked
      ≡ record { numbers = book_numbers P xs b; card = card_bytes (book_card (book_last P xs b)); table = book_table P (book_last P xs b) }
  unfolding run book_numbers book_last
  from-book [] b asked g i h = refl
  from-book (x ∷ xs) b asked g i h =
      let s = step P b g asked i x h.0 h.1 in
      rw (s.code, s.card, s.table) (ap (answer (book_answer P x b)) (from-book xs (book_after P x b) (next-asked x b asked) s.good s.held h.2))

module _ (P : Primitives) (master id : List ℕ) (v B d r t n : ℕ) (blocks card table totals : List ℕ) (ok : set_up_code P master id v B d r t n blocks card table totals ≡ 0) where
  -- the book that an accepted set-up starts
  abbrev start : Book
  start = started master id v B d r t n blocks

  pub start-good : Good P (started master id v B d r t n blocks)
  unfolding started joined
  start-good =
      let s = set-up-has P master id v B d r t n blocks card table totals ok in
      let many : length (alike (live v) (pieces B n blocks)) ≡ n = alike-long (live v) (pieces B n blocks) ∙ pieces-length B n blocks in
      record {
        key32 = s.key32;
        id8 = s.id8;
        limits = record {
          shape = s.shape;
          t1 = s.t1;
          tmost = s.tmost;
          n1 = omega (arith, s.n1);
          nmost = omega (arith, s.nmost);
          ctrmost = omega arith;
          next1 = omega arith;
          nextmost = omega (arith, s.t1);
          last = refl;
        };
        ver = s.ver;
        formed = alike-formed v B (pieces B n blocks) (pieces-sized B n blocks s.blocks_long);
        low = omega arith;
        most = omega arith;
        asked = tt;
        plain = λ e. (refl, refl);
        spent63 = refl;
        shown = λ h. absurd (omega arith);
      }

  pub start-card : set_up_card P master id v B d r t n blocks card table totals ≡ card_bytes (book_card (started master id v B d r t n blocks))
  unfolding set_up_card book_card started
  start-card = rw (ok, alike-long (live v) (pieces B n blocks), pieces-length B n blocks)

  pub start-table : set_up_table P master id v B d r t n blocks card table totals ≡ book_table P (started master id v B d r t n blocks)
  unfolding set_up_table book_table started joined fresh_record fresh_token
  start-table =
      let z : t + 1 - 1 ≡ t = omega arith in
      rw (ok, z)

  pub start-held : (asked : List ℕ) → Held P (started master id v B d r t n blocks) asked
  unfolding started
  start-held asked = tt

  -- "the numbers returned are the book's in their order, and card and table are the book's byte for byte", whatever stands in the place of an asked table
  pub theorem : (calls : List Lent) (asked : List ℕ) → Honest P calls (started master id v B d r t n blocks)
      → run P calls (set_up_card P master id v B d r t n blocks card table totals) (set_up_table P master id v B d r t n blocks card table totals) asked
      ≡ record {
        numbers = book_numbers P calls (started master id v B d r t n blocks);
        card = card_bytes (book_card (book_last P calls (started master id v B d r t n blocks)));
        table = book_table P (book_last P calls (started master id v B d r t n blocks));
      }
  theorem calls asked h = rw (start-card, start-table) (from-book P calls start asked start-good (start-held asked) h)

  -- "7 never comes up"
  pub never-seven : (calls : List Lent) (asked : List ℕ) → Honest P calls (started master id v B d r t n blocks)
      → NoSeven (run P calls (set_up_card P master id v B d r t n blocks card table totals) (set_up_table P master id v B d r t n blocks card table totals) asked).numbers
  never-seven calls asked h = rw (theorem calls asked h) (no_seven P calls start asked start-good (start-held asked) h)
