-- One change of several blocks beside changes made singly: the tokens inside are the same; only the counter and the sealing differ. Assumes nothing.
--   calls, AllAccepted          changes as calls of their own, all accepted
--   changes_singly, card_after       the block changes that they make together, and the card after them
--   Alike, alike                what is the same, of any change that makes the same block changes
--   appends, blocks_in           blocks appended one by one, and those of a load
--   load-singly                 #101: a load, and its blocks appended one by one
--   corrections, batch-singly   #104: a batch, and its items as updates and deletions
use Prim.Native.Nat.{ℕ, zero, suc, ◌+◌, ◌*◌, ◌-◌, ◌/◌, ◌%◌, ◌≤◌}
use native.Mathlib.Omega.{arith}
use native.Mathlib.Nat.{div-add-mod', zero-mul}
use mathlib.Core.Path.{◌≡◌, refl, sym, ap, ◌∙◌}
use mathlib.Core.List.{List, [], ◌∷◌, ◌++◌}
use mathlib.Core.Option.{some}
use mathlib.Core.Bool.{Bool, true, false, cond}
use borrow.Author.Tests.{eqb-true, ltb-true}
use lib.ListN.{length, take, drop, replicate}
use lib.Dec.{eqb, ltb}
use Rattle.octets.specs.Octets.{le, be, part}
use Rattle.scheme.specs.Lists.{pieces}
use Rattle.scheme.specs.Primitives.{Primitives}
use Rattle.scheme.specs.Marks.{live, deleted, alike as all_marked}
use Rattle.scheme.specs.Records.{Card, card_bytes, read_card}
use Rattle.scheme.specs.Tokens.{BlockChange, replaced, added, added_from, draw_key, hash_key, digest_after}
use Rattle.scheme.specs.Table.{there, value}
use Rattle.scheme.specs.Batches.{Item, items_of, item_block, batch_changes}
use Rattle.scheme.specs.Changes.{Change, update, delete, append, load, batch, loaded, block_changes, blocks_after, asked_card, committed_card, changed_card, change_code}
use Rattle.scheme.specs.Changes.{change_card, change_table, load_code, load_card, load_table, batch_code, batch_card, batch_table}
use Rattle.scheme.specs.Runs.{change, Lent, Ran, answer, lent_code, run}
use Rattle.scheme.proofs.laws.TokenLaws.{after-append}
use Rattle.scheme.proofs.laws.CheckLaws.{both}
use Rattle.scheme.proofs.laws.RecordLaws.{by-eight}
use Rattle.scheme.proofs.laws.TableLaws.{pieces-length}
use Rattle.scheme.proofs.laws.CallLaws.{change-has}
use Rattle.scheme.proofs.laws.BatchLaws.{batch-has}
use Rattle.scheme.proofs.laws.RoleLaws.{run-accepted}
use Rattle.scheme.proofs.laws.ResealLaws.{spent-kept, table_long, token_after, token_at, token-was, change-leaves, card-changed, card-written}

-- changes as calls of one role, each lent the same master and a buffer for totals
abbrev pub calls : ℕ → List ℕ → List ℕ → List Change → List Lent
calls role master totals [] = []
calls role master totals (e ∷ es) = record { role = role; master = master; call = change e totals } ∷ calls role master totals es

-- every number is 0
abbrev pub AllAccepted : List ℕ → Type 0
AllAccepted [] = Unit {0}
AllAccepted (n ∷ ns) = (n ≡ 0) × AllAccepted ns

-- the card after changes made one after the other
unfoldable pub card_after : Card → List Change → Card
card_after c [] = c
card_after c (e ∷ es) = card_after (changed_card c (blocks_after c e)) es

-- their block changes, one after the other
unfoldable pub changes_singly : Card → List Change → List (ℕ × BlockChange)
changes_singly c [] = []
changes_singly c (e ∷ es) = block_changes c e ++ changes_singly (changed_card c (blocks_after c e)) es

-- a card with another file id, another number of blocks and another counter, which is the last issued, and nothing pending
unfoldable at_counter : Card → List ℕ → ℕ → ℕ → Card
at_counter c id n ctr = record {
  version = c.version;
  id = id;
  B = c.B;
  d = c.d;
  r = c.r;
  t = c.t;
  n = n;
  ctr = ctr;
  next = c.next;
  open' = c.open';
  last = ctr;
  pending = 0;
  count = 0;
}

-- each change takes one counter step from the last issued
stepped : (e : Change) (es : List Change) (c : Card) → card_after c (e ∷ es) ≡ at_counter c c.id (card_after c (e ∷ es)).n (c.last + length (e ∷ es))
unfolding card_after at_counter changed_card committed_card asked_card
stepped e [] c = refl
stepped e (f ∷ es) c =
    let n = blocks_after c e in
    let z : c.last + 1 + length (f ∷ es) ≡ c.last + suc (length (f ∷ es)) = omega arith in
    stepped f es (changed_card c n) ∙ ap (at_counter c c.id (card_after (changed_card c n) (f ∷ es)).n) z

-- the counter and, in version 3, the last issued have eight bytes of their own on a card
apart : (c : Card) (n x y : ℕ) → length c.id ≡ 8
    → (take 27 (card_bytes (at_counter c c.id n x)) ≡ take 27 (card_bytes (at_counter c c.id n y)))
    × (part 35 8 (card_bytes (at_counter c c.id n x)) ≡ part 35 8 (card_bytes (at_counter c c.id n y)))
    × (drop 51 (card_bytes (at_counter c c.id n x)) ≡ drop 51 (card_bytes (at_counter c c.id n y)))
unfolding at_counter card_bytes be le
apart c n x y h =
    by-eight
    (λ id. (take 27 (card_bytes (at_counter c id n x)) ≡ take 27 (card_bytes (at_counter c id n y)))
    × (part 35 8 (card_bytes (at_counter c id n x)) ≡ part 35 8 (card_bytes (at_counter c id n y)))
    × (drop 51 (card_bytes (at_counter c id n x)) ≡ drop 51 (card_bytes (at_counter c id n y))))
    (λ x₁ x₂ x₃ x₄ x₅ x₆ x₇ x₈. (refl, refl, end (eqb c.version 3))) c.id h
  where
    end : (b : Bool) → drop 8 (cond b (be 8 x ++ be 8 0 ++ be 4 0) []) ≡ drop 8 (cond b (be 8 y ++ be 8 0 ++ be 4 0) [])
    end true = refl
    end false = refl

-- what is the same of card and table after one change, `one` and `after`, and after several made singly
pub record Alike (P : Primitives) (master card table : List ℕ) (single : Ran) (one after : List ℕ) (count : ℕ) : Type 0 where
  pub opens : (i : ℕ) → (read_card card).next ≤ i → i ≤ (read_card card).t → there (token_at P master (read_card one) after i) ≡ true
  pub tokens : (i : ℕ) → (read_card card).next ≤ i → i ≤ (read_card card).t
      → token_at P master (read_card one) after i ≡ token_at P master (read_card single.card) single.table i
  pub long : length after ≡ length single.table
  pub spent : take (((read_card card).next - 1) * 63) after ≡ take (((read_card card).next - 1) * 63) single.table
  pub front : take 27 one ≡ take 27 single.card
  pub between : part 35 8 one ≡ part 35 8 single.card
  pub behind : drop 51 one ≡ drop 51 single.card
  pub one_step : ((read_card one).ctr ≡ (read_card card).last + 1) × ((read_card one).last ≡ (read_card card).last + 1)
  pub many_steps : ((read_card single.card).ctr ≡ (read_card card).last + count) × ((read_card single.card).last ≡ (read_card card).last + count)

module _ (P : Primitives) (role : ℕ) (master totals asked : List ℕ) where
  -- what changes made singly leave
  abbrev ran : List Change → List ℕ → List ℕ → Ran
  ran es card table = run P (calls role master totals es) card table asked

  -- the first of them
  module _ (e : Change) (es : List Change) (card table : List ℕ) where
    abbrev card' : List ℕ
    card' = change_card P master card table e totals

    abbrev table' : List ℕ
    table' = change_table P master card table e totals

    abbrev lent : Lent
    lent = record { role = role; master = master; call = change e totals }

    zero-first : AllAccepted (ran (e ∷ es) card table).numbers → lent_code P lent card table ≡ 0
    unfolding run
    zero-first a = a.0

    first : AllAccepted (ran (e ∷ es) card table).numbers → ran (e ∷ es) card table ≡ answer (change_code P master card table e totals) (ran es card' table')
    first a = run-accepted P lent (calls role master totals es) card table asked (zero-first a)

    accepted : AllAccepted (ran (e ∷ es) card table).numbers → (change_code P master card table e totals ≡ 0) × AllAccepted (ran es card' table').numbers
    accepted a = rw (first a) at a

  -- the card after all of them
  last-card : (es : List Change) (card table : List ℕ) → AllAccepted (ran es card table).numbers
      → read_card (ran es card table).card ≡ card_after (read_card card) es
  unfolding card_after
  last-card [] card table a = unfold run in refl
  last-card (e ∷ es) card table a =
      let ok = accepted e es card table a in
      rw (first e es card table a)
      (last-card es (card' e es card table) (table' e es card table) ok.1 ∙ ap (λ (c : Card). card_after c es) (card-changed P master card table e totals ok.0))

  -- its bytes, where there is one at least
  card-bytes : (e : Change) (es : List Change) (card table : List ℕ) → AllAccepted (ran (e ∷ es) card table).numbers
      → (ran (e ∷ es) card table).card ≡ card_bytes (card_after (read_card card) (e ∷ es))
  unfolding card_after
  card-bytes e [] card table a = rw (first e [] card table a) (unfold run in card-written P master card table e totals (accepted e [] card table a).0)
  card-bytes e (f ∷ es) card table a =
      let ok = accepted e (f ∷ es) card table a in
      rw (first e (f ∷ es) card table a)
      (card-bytes f es (card' e es card table) (table' e es card table) ok.1
      ∙ ap (λ (c : Card). card_bytes (card_after c (f ∷ es))) (card-changed P master card table e totals ok.0))

  -- the table after all of them: spent records and length
  last-table : (es : List Change) (card table : List ℕ) → length table ≡ (read_card card).t * 63 → AllAccepted (ran es card table).numbers
      → (take (((read_card card).next - 1) * 63) (ran es card table).table ≡ take (((read_card card).next - 1) * 63) table)
      × (length (ran es card table).table ≡ (read_card card).t * 63)
  unfolding changed_card committed_card asked_card
  last-table [] card table l a = unfold run in (refl, l)
  last-table (e ∷ es) card table l a =
      let ok = accepted e es card table a in
      let z = card-changed P master card table e totals ok.0 in
      let long : length (table' e es card table) ≡ (read_card (card' e es card table)).t * 63 = rw z (table_long P master card table e totals ok.0) in
      let ih = rw z at (last-table es (card' e es card table) (table' e es card table) long ok.1) in
      rw (first e es card table a) (ih.0 ∙ spent-kept P master card table e totals ok.0, ih.1)

  -- the token in the unused record i
  module _ (i : ℕ) where
    last-token : (es : List Change) (card table x : List ℕ) → (read_card card).next ≤ i → i ≤ (read_card card).t
        → token_at P master (read_card card) table i ≡ some x → AllAccepted (ran es card table).numbers
        → token_at P master (read_card (ran es card table).card) (ran es card table).table i ≡ some (token_after P master (read_card card) (changes_singly (read_card card) es) i x)
    unfolding changes_singly digest_after changed_card committed_card asked_card
    last-token [] card table x h l o a = unfold run in o
    last-token (e ∷ es) card table x h l o a =
        let c = read_card card in
        let ok = accepted e es card table a in
        let z = card-changed P master card table e totals ok.0 in
        let h' : (read_card (card' e es card table)).next ≤ i = rw z h in
        let l' : i ≤ (read_card (card' e es card table)).t = rw z l in
        let o' = change-leaves P master card table e totals ok.0 i x h l o in
        let ih = last-token es (card' e es card table) (table' e es card table) (token_after P master c (block_changes c e) i x) h' l' o' ok.1 in
        rw (first e es card table a)
        (rw z at ih
        ∙ ap some
        (sym (after-append P (draw_key P master c.id i) (hash_key P master c.id i) c.d c.r (block_changes c e) (changes_singly (changed_card c (blocks_after c e)) es) x)))

  -- a change that makes the block changes of several, and leaves as many blocks
  module _ (card table : List ℕ) (one e : Change) (es : List Change) (ok : change_code P master card table one totals ≡ 0)
      (a : AllAccepted (ran (e ∷ es) card table).numbers)
      (same : block_changes (read_card card) one ≡ changes_singly (read_card card) (e ∷ es))
      (count : blocks_after (read_card card) one ≡ (card_after (read_card card) (e ∷ es)).n) where
    after : change_card P master card table one totals ≡ card_bytes (at_counter (read_card card) (read_card card).id (card_after (read_card card) (e ∷ es)).n ((read_card card).last + 1))
    unfolding at_counter changed_card committed_card asked_card
    after = card-written P master card table one totals ok ∙ ap (λ (n : ℕ). card_bytes (changed_card (read_card card) n)) count

    singly : (ran (e ∷ es) card table).card
        ≡ card_bytes (at_counter (read_card card) (read_card card).id (card_after (read_card card) (e ∷ es)).n ((read_card card).last + length (e ∷ es)))
    singly = card-bytes e es card table a ∙ ap card_bytes (stepped e es (read_card card))

    -- the token that either leaves
    token-left : (i : ℕ) → (read_card card).next ≤ i → i ≤ (read_card card).t
        → token_at P master (read_card (change_card P master card table one totals)) (change_table P master card table one totals) i
        ≡ some (token_after P master (read_card card) (changes_singly (read_card card) (e ∷ es)) i (value (token_at P master (read_card card) table i)))
    token-left i h l =
        let c = read_card card in
        let x = value (token_at P master c table i) in
        change-leaves P master card table one totals ok i x h l (token-was P master card table one totals ok i h l)
        ∙ ap (λ (changes : List (ℕ × BlockChange)). some (token_after P master c changes i x)) same

    -- what they leave is the same
    like : Alike P master card table (ran (e ∷ es) card table) (change_card P master card table one totals) (change_table P master card table one totals) (length (e ∷ es))
    like =
        let c = read_card card in
        let has = change-has P master card table one totals ok in
        let n = (card_after c (e ∷ es)).n in
        let sides = apart c n (c.last + 1) (c.last + length (e ∷ es)) has.order.id8 in
        let tables = last-table (e ∷ es) card table has.long a in
        record {
          opens = λ i h l. rw (token-left i h l);
          tokens = λ i h l.
              token-left i h l
              ∙ sym (last-token i (e ∷ es) card table (value (token_at P master c table i)) h l (token-was P master card table one totals ok i h l) a);
          long = table_long P master card table one totals ok ∙ sym tables.1;
          spent = spent-kept P master card table one totals ok ∙ sym tables.0;
          front = ap (take 27) after ∙ sides.0 ∙ sym (ap (take 27) singly);
          between = ap (part 35 8) after ∙ sides.1 ∙ sym (ap (part 35 8) singly);
          behind = ap (drop 51) after ∙ sides.2 ∙ sym (ap (drop 51) singly);
          one_step = rw (card-changed P master card table one totals ok) (unfold changed_card committed_card asked_card in (refl, refl));
          many_steps = rw (last-card (e ∷ es) card table a, stepped e es c) (unfold at_counter in (refl, refl));
        }

  pub alike : (card table : List ℕ) (one : Change) (es : List Change) → 1 ≤ length es → change_code P master card table one totals ≡ 0
      → AllAccepted (ran es card table).numbers → block_changes (read_card card) one ≡ changes_singly (read_card card) es
      → blocks_after (read_card card) one ≡ (card_after (read_card card) es).n
      → Alike P master card table (ran es card table) (change_card P master card table one totals) (change_table P master card table one totals) (length es)
  alike card table one [] h ok a same count = absurd (omega arith)
  alike card table one (e ∷ es) h ok a same count = like card table one e es ok a same count

-- blocks appended one by one
abbrev pub appends : List (List ℕ) → List Change
appends [] = []
appends (x ∷ xs) = append x ∷ appends xs

append-changes : (c : Card) (xs : List (List ℕ)) → added_from (c.n + 1) (all_marked (live c.version) xs) ≡ changes_singly c (appends xs)
unfolding added_from all_marked changes_singly changed_card committed_card asked_card
append-changes c [] = refl
append-changes c (x ∷ xs) =
    ap (λ (changes : List (ℕ × BlockChange)). (c.n + 1, added (live c.version ++ x)) ∷ changes) (append-changes (changed_card c (c.n + 1)) xs)

append-count : (c : Card) (xs : List (List ℕ)) → c.n + length xs ≡ (card_after c (appends xs)).n
unfolding card_after changed_card committed_card asked_card
append-count c [] = omega arith
append-count c (x ∷ xs) = let z : c.n + suc (length xs) ≡ c.n + 1 + length xs = omega arith in z ∙ append-count (changed_card c (c.n + 1)) xs

append-many : (xs : List (List ℕ)) → length (appends xs) ≡ length xs
append-many [] = refl
append-many (x ∷ xs) = ap suc (append-many xs)

-- the blocks of a load
abbrev pub blocks_in : Card → List ℕ → List (List ℕ)
blocks_in c blocks = pieces c.B (length blocks / c.B) blocks

module _ (P : Primitives) (role : ℕ) (master card table asked blocks totals : List ℕ) where
  abbrev news : List (List ℕ)
  news = blocks_in (read_card card) blocks

  many : length news ≡ length blocks / (read_card card).B
  many = pieces-length (read_card card).B (length blocks / (read_card card).B) blocks

  -- an accepted load has a block at least
  not-empty : load_code P master card table blocks totals ≡ 0 → 1 ≤ length news
  not-empty ok = go (length news) refl
    where
      B : ℕ
      B = (read_card card).B

      go : (k : ℕ) → length news ≡ k → 1 ≤ k
      go zero e =
          let q = both (ltb 0 (length blocks)) (eqb (length blocks % B) 0) ((change-has P master card table (load blocks) totals ok).placed 12) in
          let none : length blocks / B * B ≡ 0 = ap (λ (k : ℕ). k * B) (sym many ∙ e) ∙ zero-mul B in
          omega (arith, ltb-true 0 (length blocks) q.0, eqb-true (length blocks % B) 0 q.1, div-add-mod' (length blocks) B)
      go (suc k) e = omega arith

  -- "the table's tokens after it are those after the same blocks appended one by one; only counter and sealing differ", where all are accepted
  pub load-singly : load_code P master card table blocks totals ≡ 0 → AllAccepted (run P (calls role master totals (appends news)) card table asked).numbers
      → Alike P master card table (run P (calls role master totals (appends news)) card table asked) (load_card P master card table blocks totals) (load_table P master card table blocks totals) (length news)
  load-singly ok a =
      let c = read_card card in
      let n = append-many news in
      rw (← n)
      (alike P role master totals asked card table (load blocks) (appends news) (omega (arith, not-empty ok)) ok a (unfold loaded in append-changes c news)
      (ap (λ (k : ℕ). c.n + k) (sym many) ∙ append-count c news))

-- an item as a change of its own: "1 update, 2 delete"
abbrev pub item_edit : Item → Change
item_edit x = cond (eqb x.kind 1) (update x.number x.old x.mark x.new) (delete x.number x.old x.mark)

-- "the same changes made singly"
abbrev pub corrections : List Item → List Change
corrections [] = []
corrections (x ∷ xs) = item_edit x ∷ corrections xs

item-changes : (c : Card) (x : Item) → block_changes c (item_edit x) ≡ (x.number, replaced (x.mark ++ x.old) (item_block c.version c.B x)) ∷ []
unfolding item_block
item-changes c x = go (eqb x.kind 1)
  where
    go : (k : Bool) → block_changes c (cond k (update x.number x.old x.mark x.new) (delete x.number x.old x.mark))
        ≡ (x.number, replaced (x.mark ++ x.old) (cond k (live c.version ++ x.new) (deleted c.version ++ replicate c.B 0))) ∷ []
    go true = refl
    go false = refl

item_count : (c : Card) (x : Item) → blocks_after c (item_edit x) ≡ c.n
item_count c x = go (eqb x.kind 1)
  where
    go : (k : Bool) → blocks_after c (cond k (update x.number x.old x.mark x.new) (delete x.number x.old x.mark)) ≡ c.n
    go true = refl
    go false = refl

corrected-changes : (c : Card) (xs : List Item) → batch_changes c.version c.B xs ≡ changes_singly c (corrections xs)
unfolding batch_changes changes_singly changed_card committed_card asked_card
corrected-changes c [] = refl
corrected-changes c (x ∷ xs) =
    rw (item-changes c x, item_count c x)
    (ap (λ (changes : List (ℕ × BlockChange)). (x.number, replaced (x.mark ++ x.old) (item_block c.version c.B x)) ∷ changes) (corrected-changes (changed_card c c.n) xs))

corrected-count : (c : Card) (xs : List Item) → c.n ≡ (card_after c (corrections xs)).n
unfolding card_after changed_card committed_card asked_card
corrected-count c [] = refl
corrected-count c (x ∷ xs) =
    corrected-count (changed_card c c.n) xs ∙ ap (λ (n : ℕ). (card_after (changed_card c n) (corrections xs)).n) (sym (item_count c x))

corrected-many : (xs : List Item) → length (corrections xs) ≡ length xs
corrected-many [] = refl
corrected-many (x ∷ xs) = ap suc (corrected-many xs)

-- "The tokens inside equal those after the same changes made singly, where all those are accepted; only the counter and sealing differ"
pub batch-singly : (P : Primitives) (role : ℕ) (master card table asked items totals : List ℕ) → batch_code P master card table items totals ≡ 0
    → AllAccepted (run P (calls role master totals (corrections (items_of (read_card card) items))) card table asked).numbers
    → Alike P master card table (run P (calls role master totals (corrections (items_of (read_card card) items))) card table asked)
    (batch_card P master card table items totals) (batch_table P master card table items totals) (length (items_of (read_card card) items))
batch-singly P role master card table asked items totals ok a =
    let c = read_card card in
    let xs = items_of c items in
    let n = corrected-many xs in
    let fit = batch-has c items ((change-has P master card table (batch items) totals ok).placed 14) in
    rw (← n)
    (alike P role master totals asked card table (batch items) (corrections xs) (omega (arith, fit.some)) ok a (corrected-changes c xs) (corrected-count c xs))
