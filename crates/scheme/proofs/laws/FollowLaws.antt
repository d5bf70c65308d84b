-- What an accepted change makes of a book's blocks: their number, their contents, and the digests over them. Assumes nothing.
--   Follows, change-follows   the blocks after an accepted change whose old bytes are present
use Prim.Native.Nat.{ℕ, ◌+◌, ◌*◌, ◌-◌, ◌/◌, ◌%◌, ◌≤◌, ◌<◌}
use native.Mathlib.Omega.{arith}
use native.Mathlib.Nat.{div-add-mod'}
use mathlib.Core.Path.{◌≡◌, refl, sym, ap, ◌∙◌}
use mathlib.Core.List.{List, [], ◌∷◌, ◌++◌}
use mathlib.Core.Bool.{true, ◌&&◌}
use borrow.Author.Tests.{eqb-true, leb-true, ltb-true}
use lib.ListN.{length, set, replicate, length-append, length-set, length-replicate}
use lib.Dec.{eqb, ltb}
use Rattle.scheme.specs.Checks.{within}
use Rattle.scheme.specs.Lists.{pieces}
use Rattle.scheme.specs.Primitives.{Primitives}
use Rattle.scheme.specs.Marks.{marks_in, live, deleted}
use Rattle.scheme.specs.Records.{Card}
use Rattle.scheme.specs.Tokens.{BlockChange, replaced, added, added_from, digest, block_at, digest_after}
use Rattle.scheme.specs.Batches.{items_of, batch_changes}
use Rattle.scheme.specs.Changes.{Change, update, delete, append, load, batch, loaded, block_changes, blocks_after}
use Rattle.scheme.specs.Book.{Book, book_card, changed_blocks, book_table, PresentIn}
use Rattle.scheme.proofs.laws.TokenLaws.{applied, Right, digest-after, applied-added, right-added}
use Rattle.scheme.proofs.laws.CheckLaws.{both, within-true}
use Rattle.scheme.proofs.laws.TableLaws.{All, all_set, all_append, pieces-length, pieces-sized}
use Rattle.scheme.proofs.laws.MarkLaws.{Formed, live-formed, deleted-formed, alike-formed, alike-long}
use Rattle.scheme.proofs.laws.BatchLaws.{batch-has, corrected-applied, corrected-long, corrected-formed, right-batch}
use Rattle.scheme.proofs.laws.CallLaws.{Changed}
use Rattle.scheme.proofs.laws.BookLaws.{Good}

-- the blocks of a load
loaded-many : (c : Card) (blocks : List ℕ) → length (loaded c blocks) ≡ length blocks / c.B
unfolding loaded
loaded-many c blocks =
    alike-long (live c.version) (pieces c.B (length blocks / c.B) blocks) ∙ pieces-length c.B (length blocks / c.B) blocks

loaded-formed : (c : Card) (blocks : List ℕ) → length blocks ≡ length blocks / c.B * c.B → All (Formed c.version c.B) (loaded c blocks)
unfolding loaded
loaded-formed c blocks h =
    alike-formed c.version c.B (pieces c.B (length blocks / c.B) blocks) (pieces-sized c.B (length blocks / c.B) blocks h)

module _ (P : Primitives) where
  -- the blocks after an accepted change
  pub record Follows (b : Book) (change : Change) : Type 0 where
    pub count : length (changed_blocks change b) ≡ blocks_after (book_card b) change
    pub more : length b.blocks ≤ length (changed_blocks change b)
    pub most : length (changed_blocks change b) ≤ 16777216
    pub formed : All (Formed b.version b.B) (changed_blocks change b)
    pub follows : (k c : List ℕ) → digest P k c b.d b.r (changed_blocks change b)
        ≡ digest_after P k c b.d b.r (block_changes (book_card b) change) (digest P k c b.d b.r b.blocks)

  module _ (b : Book) (g : Good P b) where
    -- the digests follow a change whose old bytes are right
    worked : (changes : List (ℕ × BlockChange)) → Right changes b.blocks → (k c : List ℕ)
        → digest P k c b.d b.r (applied changes b.blocks) ≡ digest_after P k c b.d b.r changes (digest P k c b.d b.r b.blocks)
    worked changes h k c = digest-after P k c b.d b.r g.limits.shape.d1 g.limits.shape.dmost g.limits.shape.rd changes b.blocks h

    put-follows : (m : ℕ) (old new : List ℕ) → within 1 (length b.blocks) m ≡ true → Formed b.version b.B new → old ≡ block_at m b.blocks
        → (length (set b.blocks (m - 1) new) ≡ length b.blocks) × All (Formed b.version b.B) (set b.blocks (m - 1) new)
        × Right ((m, replaced old new) ∷ []) b.blocks
    put-follows m old new w l o =
        let p = within-true 1 (length b.blocks) m w in
        (length-set b.blocks (m - 1) new, all_set (Formed b.version b.B) (m - 1) b.blocks new l g.formed, ((p.0, p.1, o), tt))

    pub change-follows : (master : List ℕ) (change : Change) → Changed P master (book_card b) (book_table P b) change → PresentIn P change b → Follows b change
    unfolding book_card
    change-follows master (update m old mark new) u o =
        let q = both (eqb (length old) b.B && eqb (length mark) (marks_in b.version)) (eqb (length new) b.B) u.handed in
        let new' = live b.version ++ new in
        let s = put-follows m (mark ++ old) new' (u.placed 4) (live-formed b.version b.B new (eqb-true (length new) b.B q.1)) o in
        record { count = s.0; more = omega (arith, s.0); most = omega (arith, s.0, g.limits.nmost); formed = s.1; follows = worked _ s.2 }
    change-follows master (delete m old mark) u o =
        let zeros : List ℕ = replicate b.B 0 in
        let gone = deleted b.version ++ zeros in
        let s = put-follows m (mark ++ old) gone (u.placed 4) (deleted-formed b.version b.B zeros (length-replicate b.B 0)) o in
        record { count = s.0; more = omega (arith, s.0); most = omega (arith, s.0, g.limits.nmost); formed = s.1; follows = worked _ s.2 }
    change-follows master (append new) u o =
        let x = live b.version ++ new in
        let l : length (b.blocks ++ x ∷ []) ≡ length b.blocks + 1 = length-append b.blocks (x ∷ []) in
        let room : length b.blocks < 16777216 = ltb-true (length b.blocks) 16777216 (u.placed 5) in
        record {
          count = l;
          more = omega arith;
          most = omega arith;
          formed =
              all_append (Formed b.version b.B) b.blocks (x ∷ []) g.formed
              (live-formed b.version b.B new (eqb-true (length new) b.B u.handed), tt);
          follows = worked ((length b.blocks + 1, added x) ∷ []) (refl, tt);
        }
    change-follows master (load blocks) u o =
        let n = length blocks / b.B in
        let news = loaded (book_card b) blocks in
        let many : length news ≡ n = loaded-many (book_card b) blocks in
        let long : length blocks ≡ n * b.B =
        omega (arith, div-add-mod' (length blocks) b.B, eqb-true (length blocks % b.B) 0 (both (ltb 0 (length blocks)) (eqb (length blocks % b.B) 0) (u.placed 12)).1) in
        let l : length (b.blocks ++ news) ≡ length b.blocks + n = length-append b.blocks news ∙ ap (λ (x : ℕ). length b.blocks + x) many in
        let room : length b.blocks + n ≤ 16777216 = leb-true (length b.blocks + n) 16777216 (u.placed 5) in
        let changes = added_from (length b.blocks + 1) news in
        record {
          count = l;
          more = omega arith;
          most = omega arith;
          formed = all_append (Formed b.version b.B) b.blocks news g.formed (loaded-formed (book_card b) blocks long);
          follows = λ k c.
              ap (digest P k c b.d b.r) (sym (applied-added (length b.blocks + 1) news b.blocks))
              ∙ worked changes (right-added (length b.blocks + 1) news b.blocks refl) k c;
        }
    change-follows master (batch items) u o =
        let xs = items_of (book_card b) items in
        let q = batch-has (book_card b) items (u.placed 14) in
        let l = corrected-long b.version b.B xs b.blocks in
        record {
          count = l;
          more = omega arith;
          most = omega (arith, g.limits.nmost);
          formed = corrected-formed b.version b.B xs b.blocks q.formed g.formed;
          follows = λ k c.
              ap (digest P k c b.d b.r) (corrected-applied b.version b.B xs b.blocks)
              ∙ worked (batch_changes b.version b.B xs) (right-batch b.version b.B xs b.blocks (length b.blocks) refl q.rises (u.placed 4) o) k c;
        }
