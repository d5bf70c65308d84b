-- The block changes of a change by its kind, as the arms of the code have them. Assumes nothing.
--   zeros-long                               the length of zeros cut short
--   Matches                                    what the block changes of a kind are to the scheme's
--   update-changes .. batch-changes              each kind's
--   Resealed, resealed                       what resealing leaves and answers, and that of the scheme's block changes
--   blocks-after                             the number of blocks after a change of any kind
use Prim.Native.Nat.{ℕ, ◌+◌, ◌*◌, ◌-◌, ◌/◌, ◌%◌, ◌≤◌, ◌<◌}
use native.Mathlib.Omega.{arith}
use native.Mathlib.Nat.{one-mul, div_self, div-mul-le_self}
use borrow.Author.Tests.{eqb-true, leb-true, ltb-true, eq-eqb}
use mathlib.Core.Path.{◌≡◌, refl, sym, ap, ap₂, subst, ◌∙◌}
use mathlib.Core.List.{List, [], ◌∷◌, ◌++◌}
use mathlib.Core.Bool.{Bool, true, false, cond, ◌&&◌, false≢true}
use lib.Dec.{eqb}
use lib.ListN.{length, take, replicate, length-replicate}
use lib.Seq.{take_all}
use Rattle.octets.specs.Octets.{part}
use Rattle.octets.proofs.ListLaws.{take-replicate}
use Rattle.scheme.specs.Checks.{within}
use Rattle.scheme.specs.Marks.{marks_in, live, deleted, alike}
use Rattle.scheme.specs.Batches.{item_size, items_from, kinds_fit, rising, batch_fits, numbers_fit}
use Rattle.scheme.specs.Batches as S
use Rattle.scheme.specs.Lists.{pieces}
use Rattle.scheme.specs.Changes.{Change, update, delete, append, load, batch, loaded, block_changes, blocks_after}
use Rattle.scheme.specs.Tokens.{BlockChange, replaced, added, added_from}
use Rattle.scheme.specs.Table.{reseal}
use Rattle.scheme.specs.Totals.{change_turns, change_hashes}
use Rattle.scheme.proofs.laws.CheckLaws.{both, within-true}
use Rattle.standard.specs.Standard.{standard}
use Rattle.cards.specs.Fields.{card_of}
use Rattle.cards.specs.declared.Card.{Card}
use Rattle.tokens.specs.Keyed.{Keyed, block_change_of}
use Rattle.tokens.specs.declared.Keys.{Keys}
use Rattle.tokens.proofs.HeadLaws.{live-mark}
use Rattle.batches.specs.Items.{item_in}
use Rattle.batches.proofs.ItemLaws.{marks-few}
use Rattle.batches.proofs.FoldLaws.{all-each, number_fits, numbers-none, numbers_more}
use Rattle.block_changes.specs.BlockChanges.{number_at, block_change_at, items_below, items_of, alone, One, Several, Lent}
use Rattle.block_changes.specs.declared.BlockChanges.{BlockChanges}
use Rattle.block_changes.proofs.ContentLaws.{deleted-mark}
use Rattle.block_changes.proofs.ListLaws.{items-added, items-listed}
use Rattle.reseals.specs.Resealed.{Shaped}
use Rattle.std.specs.Borrow.{Bor}
use Rattle.changes.specs.declared.Change as D
use Rattle.changes.specs.declared.Change.TheVariants.{Update, Delete, Append, Load, Batch}
use Rattle.changes.specs.Kinds.{change_of, changes_with, changes_for, blocks_with, Taken}

-- zeros cut short
pub zeros-long : (n k : ℕ) → n ≤ k → n ≡ length (take n (replicate {A = ℕ} k 0))
zeros-long n k h = sym (ap length (take-replicate n k 0 h) ∙ length-replicate n 0)

-- one block change
one-item : (f : ℕ → ℕ × BlockChange) → items_below 1 f ≡ f 0 ∷ []
unfolding items_below
one-item f = refl

-- what the block changes of a kind are to the scheme's
pub record Matches (c : Card) (change : Change) (w : BlockChanges) (om old nm new : List ℕ) : Type 0 where
  pub lent : Lent w om old nm new
  pub shaped : Shaped c w
  pub items : items_of w om old nm new ≡ block_changes (card_of c) change
  pub after : blocks_with c w ≡ blocks_after (card_of c) change

-- what resealing for block changes leaves and answers, under the keys of a call
abbrev pub Resealed : Card → Keys → List ℕ → List ℕ → ℕ → ℕ → List (ℕ × BlockChange) → Type 0
Resealed c keys table after turns hashes changes =
    ((master : List ℕ) → Keyed master c.id keys → after ≡ reseal standard master (card_of c) changes (c.tokens + 1 - c.next) c.next table)
    × ((master : List ℕ) → Keyed master c.id keys → (turns ≡ change_turns standard master (card_of c) changes) × (hashes ≡ change_hashes standard master (card_of c) changes))

pub resealed : {c : Card} {change : Change} {w : BlockChanges} {om old nm new : List ℕ} (keys : Keys) (table after : List ℕ) (turns hashes : ℕ) → Matches c change w om old nm new
    → Resealed c keys table after turns hashes (items_of w om old nm new) → Resealed c keys table after turns hashes (block_changes (card_of c) change)
resealed {c} keys table after turns hashes works h = subst (Resealed c keys table after turns hashes) works.items h

-- a whole list as its part from 0 on
whole_part : (B : ℕ) (xs : List ℕ) → length xs ≡ B → part (0 * B) B xs ≡ xs
whole_part B xs l = let z : 0 * B ≡ 0 = omega arith in ap (λ (k : ℕ). part k B xs) z ∙ take_all B xs (omega arith)

-- the marks of a version have at most one byte
mark-few : (b : Bool) (x : ℕ) → length (cond b [] (x ∷ [])) ≤ 1
mark-few true x = omega arith
mark-few false x = omega arith

live-few : (v : ℕ) → length (live v) ≤ 1
unfolding live
live-few v = mark-few (eqb v 1) 0

deleted-few : (v : ℕ) → length (deleted v) ≤ 1
unfolding deleted
deleted-few v = mark-few (eqb v 1) 1

-- block changes that are no items: one alone, with its contents in two buffers, or several that are added
module _ (c : Card) (first count : ℕ) (fresh : Bool) (om old nm new : List ℕ) where
  plain-lent : (count ≡ 1 → One (changes_with c first count fresh false) om old nm new) → ((count ≡ 1 → ⊥) → Several (changes_with c first count fresh false) new)
      → ((count ≡ 1 → ⊥) → nm ≡ live c.version) → Lent (changes_with c first count fresh false) om old nm new
  unfolding alone
  plain-lent one several living = record {
    one = λ a. one (eqb-true count 1 a);
    several = λ a. several (λ e. false≢true (sym a ∙ eq-eqb count 1 e));
    living = λ a. living (λ e. false≢true (sym a ∙ eq-eqb count 1 e));
  }

module _ (c : Card) (m : ℕ) (change : Change) (om old nm new : List ℕ) where
  -- one block replaced
  replaced-changes : Taken c change → 1 ≤ m → m ≤ c.blocks → length om ≤ 1 → length old ≡ c.block_bytes → length nm ≤ 1 → length new ≡ c.block_bytes
      → (m, replaced (om ++ old) (nm ++ new)) ∷ [] ≡ block_changes (card_of c) change → c.blocks ≡ blocks_after (card_of c) change
      → Matches c change (changes_with c m 1 false false) om old nm new
  unfolding items_of number_at block_change_at block_change_of
  replaced-changes t l h mo lo mn ln e f =
      let z : m + 0 ≡ m = omega arith in
      record {
        lent = plain-lent c m 1 false om old nm new
            (λ _. record {
              rowed = t.rowed;
              few_rows = t.few_rows;
              small = t.small;
              from_one = l;
              most = omega (arith, t.few);
              old_mark = mo;
              old_whole = omega arith;
              new_mark = mn;
              new_whole = omega arith;
            })
            (λ n. absurd (n refl))
            (λ n. absurd (n refl));
        shaped = record { rows = refl; positions = refl };
        items =
            one-item _
            ∙ ap₂ (λ (k : ℕ) (ch : BlockChange). (k, ch) ∷ []) z (ap₂ (λ (o n : List ℕ). replaced (om ++ o) (nm ++ n)) (whole_part c.block_bytes old lo) (whole_part c.block_bytes new ln))
            ∙ e;
        after = f;
      }

-- blocks added
module _ (c : Card) (change : Change) (new : List ℕ) where
  abbrev lv : List ℕ
  lv = live c.version

  added-changes : Taken c change → c.blocks + length new / c.block_bytes ≤ 16777216
      → added_from (c.blocks + 1) (alike lv (pieces c.block_bytes (length new / c.block_bytes) new)) ≡ block_changes (card_of c) change
      → c.blocks + length new / c.block_bytes ≡ blocks_after (card_of c) change
      → Matches c change (changes_with c (c.blocks + 1) (length new / c.block_bytes) true false) lv new lv new
  unfolding items_of number_at block_change_at block_change_of
  added-changes t h e f =
      let B = c.block_bytes in
      let count = length new / B in
      let inside = div-mul-le_self (length new) B in
      record {
        lent = plain-lent c (c.blocks + 1) count true lv new lv new
            (λ one.
            let room : B ≤ length new = subst (λ (n : ℕ). n ≤ length new) (ap (λ (n : ℕ). n * B) one ∙ one-mul B) inside in
            record {
              rowed = t.rowed;
              few_rows = t.few_rows;
              small = t.small;
              from_one = omega arith;
              most = omega (arith, one);
              old_mark = live-few c.version;
              old_whole = room;
              new_mark = live-few c.version;
              new_whole = room;
            })
            (λ _. record {
              rowed = t.rowed;
              few_rows = t.few_rows;
              drawn = t.drawn;
              small = t.small;
              few = omega arith;
              added = λ _. record { fresh = refl; from_one = omega arith; most = omega arith; whole = inside };
              listed = λ l. absurd (false≢true l);
            })
            (λ _. refl);
        shaped = record { rows = refl; positions = refl };
        items = items-added lv (c.blocks + 1) B count new ∙ e;
        after = f;
      }

-- what a batch has that is not turned away
record Batched (c : Card) (items : List ℕ) (count : ℕ) : Type 0 where
  pub few : count ≤ 64
  pub each : (e : ℕ) → e < count
      → (1 ≤ (item_in c.version c.block_bytes e items).number) × ((item_in c.version c.block_bytes e items).number ≤ c.blocks)

batched : (c : Card) (items : List ℕ) → Taken c (batch items) → Batched c items (length items / item_size c.version c.block_bytes)
unfolding card_of batch_fits S.items_of
batched c items t =
    let v = c.version in
    let B = c.block_bytes in
    let k = length items / item_size v B in
    let p₁ = both (eqb (length items % item_size v B) 0 && within 1 64 k && kinds_fit (items_from v B k items)) (rising (items_from v B k items)) t.placed.0 in
    let p₂ = both (eqb (length items % item_size v B) 0 && within 1 64 k) (kinds_fit (items_from v B k items)) p₁.0 in
    let p₃ = both (eqb (length items % item_size v B) 0) (within 1 64 k) p₂.0 in
    record {
      few = (within-true 1 64 k p₃.1).1;
      each = λ e h. within-true 1 c.blocks (item_in v B e items).number
          (all-each v B k items (number_fits c.blocks) (numbers_fit c.blocks) (numbers-none c.blocks) (numbers_more c.blocks) e h t.placed.1.1.0);
    }

-- each change's
module _ (c : Card) where
  of-update : (m : ℕ) (old mark new : List ℕ) → Taken c (update m old mark new) → Matches c (update m old mark new) (changes_with c m 1 false false) mark old (live c.version) new
  unfolding card_of
  of-update m old mark new t =
      let B = c.block_bytes in
      let w = within-true 1 c.blocks m t.placed.0 in
      let p = both (eqb (length old) B && eqb (length mark) (marks_in c.version)) (eqb (length new) B) t.handed in
      let q = both (eqb (length old) B) (eqb (length mark) (marks_in c.version)) p.0 in
      replaced-changes c m (update m old mark new) mark old (live c.version) new t w.0 w.1
      (omega (arith, eqb-true (length mark) (marks_in c.version) q.1, marks-few c.version))
      (eqb-true (length old) B q.0) (live-few c.version) (eqb-true (length new) B p.1) refl refl

  of-delete : (m : ℕ) (old mark : List ℕ) → Taken c (delete m old mark)
      → Matches c (delete m old mark) (changes_with c m 1 false false) mark old (deleted c.version) (take c.block_bytes (replicate {A = ℕ} 4096 0))
  unfolding card_of
  of-delete m old mark t =
      let B = c.block_bytes in
      let w = within-true 1 c.blocks m t.placed.0 in
      let q = both (eqb (length old) B) (eqb (length mark) (marks_in c.version)) t.handed in
      replaced-changes c m (delete m old mark) mark old (deleted c.version) (take B (replicate 4096 0)) t w.0 w.1
      (omega (arith, eqb-true (length mark) (marks_in c.version) q.1, marks-few c.version))
      (eqb-true (length old) B q.0) (deleted-few c.version) (sym (zeros-long B 4096 t.small))
      (ap (λ (z : List ℕ). (m, replaced (mark ++ old) (deleted c.version ++ z)) ∷ []) (take-replicate B 4096 0 t.small)) refl

  of-append : (new : List ℕ) → Taken c (append new)
      → Matches c (append new) (changes_with c (c.blocks + 1) (length new / c.block_bytes) true false) (live c.version) new (live c.version) new
  unfolding card_of added_from pieces alike
  of-append new t =
      let B = c.block_bytes in
      let l : length new ≡ B = eqb-true (length new) B t.handed in
      let one : length new / B ≡ 1 = once (length new) B t.sized l in
      added-changes c (append new) new t
      (omega (arith, one, ltb-true c.blocks 16777216 t.placed.0))
      (ap (λ (n : ℕ). added_from (c.blocks + 1) (alike (live c.version) (pieces B n new))) one
      ∙ ap (λ (x : List ℕ). (c.blocks + 1, added (live c.version ++ x)) ∷ []) (take_all B new (omega arith)))
      (ap (λ (n : ℕ). c.blocks + n) one)
    where
      once : (n B : ℕ) → 1 ≤ B → n ≡ B → n / B ≡ 1
      once n B h e = ap (λ (k : ℕ). k / B) e ∙ div_self h

  of-load : (new : List ℕ) → Taken c (load new)
      → Matches c (load new) (changes_with c (c.blocks + 1) (length new / c.block_bytes) true false) (live c.version) new (live c.version) new
  unfolding card_of loaded
  of-load new t = added-changes c (load new) new t (leb-true (c.blocks + length new / c.block_bytes) 16777216 t.placed.1.0) refl refl

  of-batch : (new : List ℕ) → Taken c (batch new)
      → Matches c (batch new) (changes_with c 0 (length new / item_size c.version c.block_bytes) false true) (live c.version) new (live c.version) new
  unfolding card_of alone items_of number_at block_change_at S.items_of
  of-batch new t =
      let B = c.block_bytes in
      let count = length new / item_size c.version B in
      let b = batched c new t in
      record {
        lent = record {
          one = λ a. absurd (false≢true a);
          several = λ _. record {
            rowed = t.rowed;
            few_rows = t.few_rows;
            drawn = t.drawn;
            small = t.small;
            few = omega (arith, b.few);
            added = λ l. absurd (false≢true (sym l));
            listed = λ _. record {
              few = b.few;
              whole = div-mul-le_self (length new) (item_size c.version B);
              from_one = λ e h. (b.each e h).0;
              most = λ e h. omega (arith, (b.each e h).1, t.few);
            };
          };
          living = λ _. refl;
        };
        shaped = record { rows = refl; positions = refl };
        items = items-listed c.version B count new;
        after = refl;
      }

-- what is said of a change: its block changes, with the marks and blocks that its arm hands over
abbrev Claim : Card → List ℕ → List ℕ → List ℕ → List ℕ → D.Change → Type 0
Claim c om x nm y change = (w : BlockChanges) → w ≡ changes_for c change → Taken c (change_of change) → Matches c (change_of change) w om x nm y

-- the zeros of a deletion
abbrev zeros : Card → List ℕ
zeros c = take c.block_bytes (replicate {A = ℕ} 4096 0)

-- as the code has it: k bytes of a mark are lent
module _ (c : Card) (change : D.Change) (w : BlockChanges) (ew : w ≡ changes_for c change) (t : Taken c (change_of change)) (k : ℕ) (ek : k ≡ marks_in c.version) where
  abbrev living : List ℕ
  living = take k (replicate {A = ℕ} 1 0)

  abbrev gone : List ℕ
  gone = take k (replicate {A = ℕ} 1 1)

  alive : live c.version ≡ living
  alive = sym (live-mark c.version) ∙ ap (λ (n : ℕ). take n (replicate {A = ℕ} 1 0)) (sym ek)

  pub update-changes : (m : ℕ) (old mark new : Bor (List ℕ)) → change ≡ Update m old mark new → Matches c (change_of change) w mark.now old.now living new.now
  update-changes m old mark new e =
      subst (Claim c mark.now old.now living new.now) (sym e)
      (λ v ev s. subst (λ (u : BlockChanges). Matches c (update m old.now mark.now new.now) u mark.now old.now living new.now) (sym ev)
      (subst (λ (x : List ℕ). Matches c (update m old.now mark.now new.now) (changes_with c m 1 false false) mark.now old.now x new.now) alive
      (of-update c m old.now mark.now new.now s))) w ew t

  pub delete-changes : (m : ℕ) (old mark : Bor (List ℕ)) → change ≡ Delete m old mark → Matches c (change_of change) w mark.now old.now gone (take c.block_bytes (replicate {A = ℕ} 4096 0))
  delete-changes m old mark e =
      subst (Claim c mark.now old.now gone (zeros c)) (sym e)
      (λ v ev s. subst (λ (u : BlockChanges). Matches c (delete m old.now mark.now) u mark.now old.now gone (zeros c)) (sym ev)
      (subst (λ (x : List ℕ). Matches c (delete m old.now mark.now) (changes_with c m 1 false false) mark.now old.now x (zeros c))
      (sym (deleted-mark c.version) ∙ ap (λ (n : ℕ). take n (replicate {A = ℕ} 1 1)) (sym ek)) (of-delete c m old.now mark.now s))) w ew t

  pub append-changes : (new : Bor (List ℕ)) → change ≡ Append new → Matches c (change_of change) w living new.now living new.now
  append-changes new e =
      subst (Claim c living new.now living new.now) (sym e)
      (λ v ev s. subst (λ (u : BlockChanges). Matches c (append new.now) u living new.now living new.now) (sym ev)
      (subst (λ (x : List ℕ). Matches c (append new.now) (changes_for c (Append new)) x new.now x new.now) alive (of-append c new.now s))) w ew t

  pub load-changes : (new : Bor (List ℕ)) → change ≡ Load new → Matches c (change_of change) w living new.now living new.now
  load-changes new e =
      subst (Claim c living new.now living new.now) (sym e)
      (λ v ev s. subst (λ (u : BlockChanges). Matches c (load new.now) u living new.now living new.now) (sym ev)
      (subst (λ (x : List ℕ). Matches c (load new.now) (changes_for c (Load new)) x new.now x new.now) alive (of-load c new.now s))) w ew t

  pub batch-changes : (items : Bor (List ℕ)) → change ≡ Batch items → Matches c (change_of change) w living items.now living items.now
  batch-changes items e =
      subst (Claim c living items.now living items.now) (sym e)
      (λ v ev s. subst (λ (u : BlockChanges). Matches c (batch items.now) u living items.now living items.now) (sym ev)
      (subst (λ (x : List ℕ). Matches c (batch items.now) (changes_for c (Batch items)) x items.now x items.now) alive (of-batch c items.now s))) w ew t

counted : (w : BlockChanges) {v : BlockChanges} → w ≡ v → v.count ≤ 16777217 → w.count ≤ 16777217
counted w e h = subst (λ (u : BlockChanges). u.count ≤ 16777217) (sym e) h

load-few : (c : Card) (new : List ℕ) → Taken c (load new) → length new / c.block_bytes ≤ 16777216
unfolding card_of
load-few c new t = omega (arith, leb-true (c.blocks + length new / c.block_bytes) 16777216 t.placed.1.0)

append-few : (c : Card) (new : List ℕ) → Taken c (append new) → length new / c.block_bytes ≤ 1
unfolding card_of
append-few c new t =
    omega (arith, ap (λ (n : ℕ). n / c.block_bytes) (eqb-true (length new) c.block_bytes t.handed) ∙ div_self t.sized)

-- the number of blocks after a change, and room for it
pub blocks-after : (c : Card) (change : D.Change) (w : BlockChanges) → w ≡ changes_for c change → Taken c (change_of change)
    → (blocks_with c w ≡ blocks_after (card_of c) (change_of change)) × (w.count ≤ 16777217)
blocks-after c (Update m old mark new) w ew t = ((update-changes c (Update m old mark new) w ew t _ refl m old mark new refl).after, counted w ew (omega arith))
blocks-after c (Delete m old mark) w ew t = ((delete-changes c (Delete m old mark) w ew t _ refl m old mark refl).after, counted w ew (omega arith))
blocks-after c (Append new) w ew t = ((append-changes c (Append new) w ew t _ refl new refl).after, counted w ew (omega (arith, append-few c new.now t)))
blocks-after c (Load new) w ew t = ((load-changes c (Load new) w ew t _ refl new refl).after, counted w ew (omega (arith, load-few c new.now t)))
blocks-after c (Batch items) w ew t = ((batch-changes c (Batch items) w ew t _ refl items refl).after, counted w ew (omega (arith, (batched c items.now t).few)))
