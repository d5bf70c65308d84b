-- What an accepted change leaves: unused records open to the tokens that the change makes of theirs, spent ones keep their bytes. Assumes nothing.
--   record-taken, record-63       a record in the front of a table; its length
--   put-later                     a record behind one that is put in place
--   token-32                      what opens has 32 bytes
--   Resealed, resealed            a table after resealing
--   blocks-fit, card-changed      the number of blocks, and the card, after an accepted change
--   token_at                        the token in the unused record i, under the card's counter
--   token-was, token-now        before and after an accepted change; change-leaves: after it, under the card that it leaves
--   spent-kept                    the records before the next token
use Prim.Native.Nat.{ℕ, zero, suc, ◌+◌, ◌*◌, ◌-◌, ◌/◌, ◌≤◌, ◌<◌}
use native.Mathlib.Omega.{arith}
use native.Mathlib.Decide.{ℕ_discrete}
use mathlib.Core.Path.{◌≡◌, refl, sym, ap, ◌∙◌}
use mathlib.Core.List.{List, ◌++◌}
use mathlib.Core.Option.{Option, none, some}
use mathlib.Core.Bool.{Bool, true, false, cond, ◌&&◌, false≢true}
use borrow.Author.Tests.{leb-true, ltb-true}
use lib.ListN.{length, take, drop, length-drop}
use lib.Seq.{take_at, take-take, drop-drop, length-take-le}
use lib.Dec.{eqb}
use Rattle.octets.specs.Octets.{of_be, part, put}
use Rattle.octets.proofs.PartLaws.{length_part, part-part, part-put, drop-put, length-put}
use Rattle.scheme.specs.Primitives.{Primitives}
use Rattle.scheme.specs.Records.{Card, card_bytes, read_card, head_fits, nonce_bytes, record_at}
use Rattle.scheme.specs.Tokens.{BlockChange, key_k, draw_key, hash_key, digest_after}
use Rattle.scheme.specs.Table.{there, value, body_in, token_in, resealed_record, reseal}
use Rattle.scheme.specs.Changes.{Change, update, delete, append, load, batch, block_changes, blocks_after, asked_card, committed_card, changed_card, unused_bad, change_code}
use Rattle.scheme.specs.Changes.{change_card, change_table}
use Rattle.scheme.proofs.laws.TokenLaws.{length-after}
use Rattle.scheme.proofs.laws.RecordLaws.{token_back, record-long}
use Rattle.scheme.proofs.laws.LimitLaws.{Limits, card-limits}
use Rattle.scheme.proofs.laws.TableLaws.{opens, all-open}
use Rattle.scheme.proofs.laws.CardLaws.{order-back, changed-order}
use Rattle.scheme.proofs.laws.CallLaws.{Changed, change-has}

-- a record in the front of a table
pub record-taken : (j k : ℕ) (xs : List ℕ) → 1 ≤ j → j * 63 ≤ k → record_at j (take k xs) ≡ record_at j xs
unfolding record_at
record-taken j k xs h l =
    let z : 0 + (j - 1) * 63 ≡ (j - 1) * 63 = omega arith in
    part-part ((j - 1) * 63) 63 0 k xs (omega arith) ∙ ap (λ (a : ℕ). part a 63 xs) z

pub record-63 : (j t : ℕ) (xs : List ℕ) → 1 ≤ j → j ≤ t → length xs ≡ t * 63 → length (record_at j xs) ≡ 63
unfolding record_at
record-63 j t xs h l e = length_part ((j - 1) * 63) 63 xs (omega arith)

-- one record put in place
module _ (i t : ℕ) (x xs : List ℕ) (low : 1 ≤ i) (high : i ≤ t) (long : length xs ≡ t * 63) (x63 : length x ≡ 63) where
  room : (i - 1) * 63 + length x ≤ length xs
  room = omega arith

  put-long : length (put ((i - 1) * 63) x xs) ≡ t * 63
  put-long = length-put ((i - 1) * 63) x xs room ∙ long

  put-here : record_at i (put ((i - 1) * 63) x xs) ≡ x
  unfolding record_at
  put-here = ap (λ (k : ℕ). part ((i - 1) * 63) k (put ((i - 1) * 63) x xs)) (sym x63) ∙ part-put ((i - 1) * 63) x xs room

  pub put-later : (j : ℕ) → i < j → record_at j (put ((i - 1) * 63) x xs) ≡ record_at j xs
  unfolding record_at
  put-later j h =
      let at = (i - 1) * 63 + length x in
      let e : at + ((j - 1) * 63 - at) ≡ (j - 1) * 63 = omega arith in
      let moved : (ys : List ℕ) → drop ((j - 1) * 63 - at) (drop at ys) ≡ drop ((j - 1) * 63) ys = λ ys. drop-drop ((j - 1) * 63 - at) at ys ∙ ap (λ (n : ℕ). drop n ys) e in
      ap (take 63) (sym (moved (put ((i - 1) * 63) x xs)) ∙ ap (drop ((j - 1) * 63 - at)) (drop-put ((i - 1) * 63) x xs room) ∙ moved xs)

  put_front : take ((i - 1) * 63) (put ((i - 1) * 63) x xs) ≡ take ((i - 1) * 63) xs
  unfolding put
  put_front =
      take_at (take ((i - 1) * 63) xs) (x ++ drop (length x) (drop ((i - 1) * 63) xs)) ((i - 1) * 63) (length-take-le ((i - 1) * 63) xs (omega arith))

-- a token that is there
some-there : (o : Option (List ℕ)) → there o ≡ true → o ≡ some (value o)
some-there none h = absurd (false≢true h)
some-there (some x) h = refl

module _ (P : Primitives) where
  -- what opens has 32 bytes
  pub token-32 : (key : List ℕ) (v ctr i : ℕ) (rec x : List ℕ) → length rec ≡ 63 → token_in P key v ctr i rec ≡ some x → length x ≡ 32
  unfolding token_in body_in
  token-32 key v ctr i rec x h e = go (head_fits 61 v rec && eqb (of_be (part 3 8 rec)) ctr && eqb (of_be (part 11 4 rec)) i) e
    where
      body : Option (List ℕ)
      body = P.opened key (nonce_bytes ctr i) (take 15 rec) (drop 15 rec)

      go : (b : Bool) → cond b body none ≡ some x → length x ≡ 32
      go true k = P.opened_long key (nonce_bytes ctr i) (take 15 rec) (drop 15 rec) x (length-drop 15 rec ∙ omega arith) k
      go false k = let z : ◌≡◌ {A = ℕ} 0 1 = cc in absurd (omega arith)

  module _ (master : List ℕ) (c : Card) (changes : List (ℕ × BlockChange)) where
    abbrev key : List ℕ
    key = key_k P master c.id

    -- what a change makes of a token
    abbrev pub token_after : ℕ → List ℕ → List ℕ
    token_after i x = digest_after P (draw_key P master c.id i) (hash_key P master c.id i) c.d c.r changes x

    made-32 : (i : ℕ) (rec : List ℕ) → length rec ≡ 63 → there (token_in P key c.version c.ctr i rec) ≡ true
        → length (token_after i (value (token_in P key c.version c.ctr i rec))) ≡ 32
    made-32 i rec h o =
        let x = value (token_in P key c.version c.ctr i rec) in
        length-after P (draw_key P master c.id i) (hash_key P master c.id i) c.d c.r changes x
        (token-32 key c.version c.ctr i rec x h (some-there (token_in P key c.version c.ctr i rec) o))

    resealed-63 : (i : ℕ) (rec : List ℕ) → length rec ≡ 63 → there (token_in P key c.version c.ctr i rec) ≡ true → length (resealed_record P master c changes i rec) ≡ 63
    unfolding resealed_record
    resealed-63 i rec h o = record-long P key c.version (c.last + 1) i (token_after i (value (token_in P key c.version c.ctr i rec))) (made-32 i rec h o)

    pub resealed-opens : (i : ℕ) (rec : List ℕ) → length rec ≡ 63 → there (token_in P key c.version c.ctr i rec) ≡ true → c.last ≤ 4294967295 → i ≤ 65536
        → token_in P key c.version (c.last + 1) i (resealed_record P master c changes i rec) ≡ some (token_after i (value (token_in P key c.version c.ctr i rec)))
    unfolding resealed_record
    resealed-opens i rec h o l m =
        token_back P key c.version (c.last + 1) i (token_after i (value (token_in P key c.version c.ctr i rec))) (made-32 i rec h o) (omega arith) (omega arith)

    -- a table of t records after m records from i on were resealed
    pub record Resealed (t m i : ℕ) (table after : List ℕ) : Type 0 where
      pub long : length after ≡ t * 63
      pub at : (j : ℕ) → i ≤ j → j < i + m → record_at j after ≡ resealed_record P master c changes j (record_at j table)
      pub front : take ((i - 1) * 63) after ≡ take ((i - 1) * 63) table

    -- one record more, from the first
    module _ (t m i : ℕ) (table : List ℕ) (l : 1 ≤ i) (h : i + suc m ≤ t + 1) (e : length table ≡ t * 63)
        (o : (j : ℕ) → i ≤ j → j < i + suc m → opens P key c.version c.ctr table j ≡ true) where
      abbrev new : List ℕ
      new = resealed_record P master c changes i (record_at i table)

      abbrev next : List ℕ
      next = put ((i - 1) * 63) new table

      new63 : length new ≡ 63
      new63 = resealed-63 i (record_at i table) (record-63 i t table l (omega arith) e) (o i (omega arith) (omega arith))

      later : (j : ℕ) → i < j → record_at j next ≡ record_at j table
      later j u = put-later i t new table l (omega arith) e new63 j u

      next-long : length next ≡ t * 63
      next-long = put-long i t new table l (omega arith) e new63

      next-opens : (j : ℕ) → i + 1 ≤ j → j < i + 1 + m → opens P key c.version c.ctr next j ≡ true
      next-opens j u v = ap (λ (rec : List ℕ). there (token_in P key c.version c.ctr j rec)) (later j (omega arith)) ∙ o j (omega arith) (omega arith)

      one-resealed : (after : List ℕ) → Resealed t m (i + 1) next after → Resealed t (suc m) i table after
      one-resealed after ih = record {
        long = ih.long;
        at = λ j u v. either j u v (ℕ_discrete i j);
        front =
            sym (take-take ((i - 1) * 63) ((i + 1 - 1) * 63) after (omega arith))
            ∙ ap (take ((i - 1) * 63)) ih.front
            ∙ take-take ((i - 1) * 63) ((i + 1 - 1) * 63) next (omega arith)
            ∙ put_front i t new table l (omega arith) e new63;
      }
        where
          here : record_at i after ≡ new
          here =
              sym (record-taken i ((i + 1 - 1) * 63) after l (omega arith))
              ∙ ap (record_at i) ih.front
              ∙ record-taken i ((i + 1 - 1) * 63) next l (omega arith)
              ∙ put-here i t new table l (omega arith) e new63

          either : (j : ℕ) → i ≤ j → j < i + suc m → Dec (i ≡ j) → record_at j after ≡ resealed_record P master c changes j (record_at j table)
          either j u v (yes p) =
              ap (λ (n : ℕ). record_at n after) (sym p) ∙ here ∙ ap (λ (n : ℕ). resealed_record P master c changes n (record_at n table)) p
          either j u v (no q) = ih.at j (omega arith) (omega arith) ∙ ap (resealed_record P master c changes j) (later j (omega arith))

    pub resealed : (t m i : ℕ) (table : List ℕ) → 1 ≤ i → i + m ≤ t + 1 → length table ≡ t * 63
        → ((j : ℕ) → i ≤ j → j < i + m → opens P key c.version c.ctr table j ≡ true) → Resealed t m i table (reseal P master c changes m i table)
    unfolding reseal
    resealed t zero i table l h e o = record { long = e; at = λ j u v. absurd (omega arith); front = refl }
    resealed t (suc m) i table l h e o =
        one-resealed t m i table l h e o (reseal P master c changes m (i + 1) (next t m i table l h e o))
        (resealed t m (i + 1) (next t m i table l h e o) (omega arith) (omega arith) (next-long t m i table l h e o) (next-opens t m i table l h e o))

  -- the token in the unused record i of a table, under a card's counter
  abbrev pub token_at : List ℕ → Card → List ℕ → ℕ → Option (List ℕ)
  token_at master c table i = token_in P (key_k P master c.id) c.version c.ctr i (record_at i table)

  -- an accepted change takes no block away and stays within the most
  pub blocks-fit : (master : List ℕ) (c : Card) (table : List ℕ) (change : Change) → Changed P master c table change
      → (c.n ≤ blocks_after c change) × (blocks_after c change ≤ 16777216)
  blocks-fit master c table (update m old mark new) u = (omega arith, (card-limits c u.order.fits).nmost)
  blocks-fit master c table (delete m old mark) u = (omega arith, (card-limits c u.order.fits).nmost)
  blocks-fit master c table (append new) u = (omega arith, omega (arith, ltb-true c.n 16777216 (u.placed 5)))
  blocks-fit master c table (load blocks) u = (omega arith, leb-true (c.n + length blocks / c.B) 16777216 (u.placed 5))
  blocks-fit master c table (batch items) u = (omega arith, (card-limits c u.order.fits).nmost)

  -- an accepted change
  module _ (master card table : List ℕ) (change : Change) (totals : List ℕ) (ok : change_code P master card table change totals ≡ 0) where
    has : Changed P master (read_card card) table change
    has = change-has P master card table change totals ok

    limits : Limits (read_card card).B (read_card card).d (read_card card).r (read_card card).t (read_card card).n (read_card card).ctr (read_card card).next
        (read_card card).open'
    limits = card-limits (read_card card) has.order.fits

    -- the unused records open
    open-before : (j : ℕ) → (read_card card).next ≤ j → j < (read_card card).next + ((read_card card).t + 1 - (read_card card).next)
        → opens P (key_k P master (read_card card).id) (read_card card).version (read_card card).ctr table j ≡ true
    unfolding unused_bad
    open-before =
        let c = read_card card in
        all-open P (key_k P master c.id) c.version c.ctr table (c.t + 1 - c.next) c.next limits.next1 has.sound

    pub token-was : (i : ℕ) → (read_card card).next ≤ i → i ≤ (read_card card).t → token_at master (read_card card) table i ≡ some (value (token_at master (read_card card) table i))
    token-was i h l = some-there (token_at master (read_card card) table i) (open-before i h (omega arith))

    after : Resealed master (read_card card) (block_changes (read_card card) change) (read_card card).t ((read_card card).t + 1 - (read_card card).next) (read_card card).next table
        (change_table P master card table change totals)
    unfolding change_table
    after =
        let c = read_card card in
        rw ok (resealed master c (block_changes c change) c.t (c.t + 1 - c.next) c.next table limits.next1 (omega (arith, limits.nextmost)) has.long open-before)

    pub table_long : length (change_table P master card table change totals) ≡ (read_card card).t * 63
    table_long = after.long

    -- "Spent records keep their bytes"
    pub spent-kept : take (((read_card card).next - 1) * 63) (change_table P master card table change totals) ≡ take (((read_card card).next - 1) * 63) table
    spent-kept = after.front

    pub record-changed : (i : ℕ) → (read_card card).next ≤ i → i ≤ (read_card card).t
        → record_at i (change_table P master card table change totals) ≡ resealed_record P master (read_card card) (block_changes (read_card card) change) i (record_at i table)
    record-changed i h l = after.at i h (omega arith)

    -- the unused record i opens, one counter up, to what the change makes of its token
    pub token-now : (i : ℕ) → (read_card card).next ≤ i → i ≤ (read_card card).t
        → token_in P (key_k P master (read_card card).id) (read_card card).version ((read_card card).last + 1) i (record_at i (change_table P master card table change totals))
        ≡ some (token_after master (read_card card) (block_changes (read_card card) change) i (value (token_at master (read_card card) table i)))
    token-now i h l =
        let c = read_card card in
        ap (token_in P (key_k P master c.id) c.version (c.last + 1) i) (record-changed i h l)
        ∙ resealed-opens master c (block_changes c change) i (record_at i table)
        (record-63 i c.t table (omega (arith, limits.next1)) l has.long) (open-before i h (omega arith)) (omega (arith, has.room)) (omega (arith, limits.tmost))

    pub card-changed : read_card (change_card P master card table change totals) ≡ changed_card (read_card card) (blocks_after (read_card card) change)
    unfolding change_card
    card-changed =
        let c = read_card card in
        let n = blocks_after c change in
        let fit = blocks-fit master c table change has in
        rw ok (order-back (changed_card c n) (changed-order c has.order n fit.0 fit.1 has.room))

    -- the card's bytes
    pub card-written : change_card P master card table change totals ≡ card_bytes (changed_card (read_card card) (blocks_after (read_card card) change))
    unfolding change_card
    card-written = rw ok

    -- the token that the change leaves in the unused record i
    pub change-leaves : (i : ℕ) (x : List ℕ) → (read_card card).next ≤ i → i ≤ (read_card card).t → token_at master (read_card card) table i ≡ some x
        → token_at master (read_card (change_card P master card table change totals)) (change_table P master card table change totals) i
        ≡ some (token_after master (read_card card) (block_changes (read_card card) change) i x)
    unfolding changed_card committed_card asked_card
    change-leaves i x h l o =
        let c = read_card card in
        let z : value (token_at master c table i) ≡ x = rw o in
        rw card-changed (token-now i h l ∙ ap (λ (y : List ℕ). some (token_after master c (block_changes c change) i y)) z)
