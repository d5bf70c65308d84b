-- #112: nothing to read from a reseal. "Hosts must not learn which tokens cover a block." Of accepted changes on one card, each under its role, in one step
-- or asked, whatever block numbers, bytes, masters and tables they are lent. Assumes nothing: an accepted change has found every unused record to open.
--   Given                   what a change is lent beside the card and what it hands over, and the role that makes it
--   Left, left_by, asked_by   what a change in one step leaves, and what an ask leaves, whose table is the second one
--   token_left               the token that is left in an unused record
--   IndistinguishableTables, Indistinguishable    what is the same after two changes: of the tables; number and card too
--   indistinguishable-tables, indistinguishable-second   any two changes; any two asks
--   indistinguishable, indistinguishable-asked    two changes, or two asks, that leave equally many blocks
--   indistinguishable-updates          the paper's sentence; indistinguishable-deletion, indistinguishable-batch: an update beside a deletion, beside a batch
use Prim.Native.Nat.{ℕ, ◌+◌, ◌*◌, ◌-◌, ◌≤◌}
use mathlib.Core.Path.{◌≡◌, refl, sym, ap, ◌∙◌}
use mathlib.Core.List.{List}
use mathlib.Core.Option.{Option, some}
use lib.ListN.{length, take}
use lib.Seq.{take_at}
use Rattle.scheme.specs.Primitives.{Primitives}
use Rattle.scheme.specs.Records.{Card, card_bytes, read_card, clear_bytes, nonce_bytes, record_at}
use Rattle.scheme.specs.Tokens.{key_k}
use Rattle.scheme.specs.Table.{value, sealed_record, token_in, resealed_record}
use Rattle.scheme.specs.Changes.{Change, update, delete, batch, block_changes, blocks_after, asked_card, changed_card, change_code, change_card, change_table}
use Rattle.scheme.specs.Asks.{ask_code, ask_card, ask_second}
use Rattle.scheme.specs.Roles.{change_permission, under}
use Rattle.scheme.proofs.laws.RecordLaws.{length-clear}
use Rattle.scheme.proofs.theorems.AskTheorem.{ask-exactly, one-step}
use Rattle.scheme.proofs.laws.ResealLaws.{token_after, token_at, spent-kept, record-changed, token-now, table_long, card-written}
use Rattle.scheme.proofs.laws.RoleLaws.{permitted, zero-permitted}

-- who makes a change, and the master, the table and the buffer for totals that it is lent; "The totals of #109 stay with us and are not sent"
pub record Given : Type 0 where
  pub role : ℕ
  pub master : List ℕ
  pub table : List ℕ
  pub totals : List ℕ

-- the number returned, the card, and the table that goes to the host
pub record Left : Type 0 where
  pub number : ℕ
  pub card : List ℕ
  pub table : List ℕ

module _ (P : Primitives) (card : List ℕ) where
  abbrev c : Card
  c = read_card card

  -- a change in one step
  abbrev pub left_by : Given → Change → Left
  left_by u e = record {
    number = under u.role (change_permission e) (change_code P u.master card u.table e u.totals) 22;
    card = under u.role (change_permission e) (change_card P u.master card u.table e u.totals) card;
    table = under u.role (change_permission e) (change_table P u.master card u.table e u.totals) u.table;
  }

  -- the same asked, lent a buffer for the second table
  abbrev pub asked_by : Given → Change → List ℕ → Left
  asked_by u e second = record {
    number = under u.role (change_permission e) (ask_code P u.master card u.table second e u.totals) 22;
    card = under u.role (change_permission e) (ask_card P u.master card u.table second e u.totals) card;
    table = under u.role (change_permission e) (ask_second P u.master card u.table second e u.totals) second;
  }

  -- what record i opens to at the counter that a change of this card takes, the last issued plus 1
  abbrev pub token_left : List ℕ → List ℕ → ℕ → Option (List ℕ)
  token_left master table i = token_in P (key_k P master (read_card card).id) (read_card card).version ((read_card card).last + 1) i (record_at i table)

  -- "the first 15 bytes of every unused record come out equal, .. under one master an unused record left with an equal token in both is equal whole, and ..
  -- spent records keep their bytes"; tables of one length
  pub record IndistinguishableTables (u w : Given) (a b : List ℕ) : Type 0 where
    pub clear : (i : ℕ) → (read_card card).next ≤ i → i ≤ (read_card card).t → take 15 (record_at i a) ≡ take 15 (record_at i b)
    pub whole : u.master ≡ w.master → (i : ℕ) → (read_card card).next ≤ i → i ≤ (read_card card).t
        → token_left u.master a i ≡ token_left w.master b i → record_at i a ≡ record_at i b
    pub spent : (take (((read_card card).next - 1) * 63) a ≡ take (((read_card card).next - 1) * 63) u.table)
        × (take (((read_card card).next - 1) * 63) b ≡ take (((read_card card).next - 1) * 63) w.table)
    pub long : length a ≡ length b

  -- "returned number, card and" these
  pub record Indistinguishable (u w : Given) (a b : Left) : Type 0 where
    pub number : a.number ≡ b.number
    pub cards : a.card ≡ b.card
    pub tables : IndistinguishableTables u w a.table b.table

  -- a record as a change of this card seals it
  abbrev sealing : List ℕ → ℕ → List ℕ → List ℕ
  sealing master i x = sealed_record P (key_k P master c.id) c.version (c.last + 1) i x

  sealing-clear : (master : List ℕ) (i : ℕ) (x : List ℕ) → take 15 (sealing master i x) ≡ clear_bytes c.version (c.last + 1) i
  unfolding sealed_record
  sealing-clear master i x =
      let v = c.version in
      let ctr = c.last + 1 in
      take_at (clear_bytes v ctr i) (P.sealed (key_k P master c.id) (nonce_bytes ctr i) (clear_bytes v ctr i) x) 15 (length-clear v ctr i)

  -- what an accepted change leaves, in one step or asked: a card, and records sealed with tokens
  record Sealed (u : Given) (after : Card) (a : Left) : Type 0 where
    zero : a.number ≡ 0
    its-card : a.card ≡ card_bytes after
    token : ℕ → List ℕ
    its-record : (i : ℕ) → c.next ≤ i → i ≤ c.t → record_at i a.table ≡ sealing u.master i (token i)
    its-token : (i : ℕ) → c.next ≤ i → i ≤ c.t → token_left u.master a.table i ≡ some (token i)
    its-spent : take ((c.next - 1) * 63) a.table ≡ take ((c.next - 1) * 63) u.table
    its-length : length a.table ≡ c.t * 63

  module _ (u : Given) (e : Change) where
    abbrev n : ℕ
    n = blocks_after c e

    -- without roles
    in-one-step : change_code P u.master card u.table e u.totals ≡ 0
        → Sealed u (changed_card c n)
        (record {
          number = change_code P u.master card u.table e u.totals;
          card = change_card P u.master card u.table e u.totals;
          table = change_table P u.master card u.table e u.totals;
        })
    in-one-step ok = record {
      zero = ok;
      its-card = card-written P u.master card u.table e u.totals ok;
      token = λ i. token_after P u.master c (block_changes c e) i (value (token_at P u.master c u.table i));
      its-record = λ i h l. unfold resealed_record in record-changed P u.master card u.table e u.totals ok i h l;
      its-token = token-now P u.master card u.table e u.totals ok;
      its-spent = spent-kept P u.master card u.table e u.totals ok;
      its-length = table_long P u.master card u.table e u.totals ok;
    }

    change-sealed : (left_by u e).number ≡ 0 → Sealed u (changed_card c n) (left_by u e)
    change-sealed ok =
        let number = change_code P u.master card u.table e u.totals in
        let may = zero-permitted u.role (change_permission e) number ok in
        rw (
          permitted u.role (change_permission e) number 22 may,
          permitted u.role (change_permission e) (change_card P u.master card u.table e u.totals) card may,
          permitted u.role (change_permission e) (change_table P u.master card u.table e u.totals) u.table may,
        )
        (in-one-step (sym (permitted u.role (change_permission e) number 22 may) ∙ ok))

    module _ (second : List ℕ) where
      -- the second table is the table that the change in one step writes
      in_two : ask_code P u.master card u.table second e u.totals ≡ 0
          → Sealed u (asked_card c n)
          (record {
            number = ask_code P u.master card u.table second e u.totals;
            card = ask_card P u.master card u.table second e u.totals;
            table = ask_second P u.master card u.table second e u.totals;
          })
      in_two ok =
          let x = (ask-exactly P u.master card u.table second e u.totals).0 ok in
          let s = in-one-step x.0 in
          let same = (one-step P u.master card u.table second e u.totals x.1 x.2).table' x.0 in
          record {
            zero = ok;
            its-card = unfold ask_card in rw ok;
            token = s.token;
            its-record = rw same s.its-record;
            its-token = rw same s.its-token;
            its-spent = rw same s.its-spent;
            its-length = rw same s.its-length;
          }

      ask-sealed : (asked_by u e second).number ≡ 0 → Sealed u (asked_card c n) (asked_by u e second)
      ask-sealed ok =
          let number = ask_code P u.master card u.table second e u.totals in
          let may = zero-permitted u.role (change_permission e) number ok in
          rw (
            permitted u.role (change_permission e) number 22 may,
            permitted u.role (change_permission e) (ask_card P u.master card u.table second e u.totals) card may,
            permitted u.role (change_permission e) (ask_second P u.master card u.table second e u.totals) second may,
          )
          (in_two (sym (permitted u.role (change_permission e) number 22 may) ∙ ok))

  module _ (u w : Given) where
    tables-of : (after₁ after₂ : Card) (a b : Left) → Sealed u after₁ a → Sealed w after₂ b → IndistinguishableTables u w a.table b.table
    tables-of after₁ after₂ a b s r = record {
      clear = λ i h l.
          ap (take 15) (s.its-record i h l) ∙ sealing-clear u.master i (s.token i)
          ∙ sym (ap (take 15) (r.its-record i h l) ∙ sealing-clear w.master i (r.token i));
      whole = λ one i h l same.
          let x : some (s.token i) ≡ some (r.token i) = sym (s.its-token i h l) ∙ same ∙ r.its-token i h l in
          s.its-record i h l
          ∙ ap (sealing u.master i) (ap value x)
          ∙ ap (λ (master : List ℕ). sealing master i (r.token i)) one
          ∙ sym (r.its-record i h l);
      spent = (s.its-spent, r.its-spent);
      long = s.its-length ∙ sym r.its-length;
    }

    indistinguishable-of : (after₁ after₂ : Card) (a b : Left) → after₁ ≡ after₂ → Sealed u after₁ a → Sealed w after₂ b → Indistinguishable u w a b
    indistinguishable-of after₁ after₂ a b same s r = record {
      number = s.zero ∙ sym r.zero;
      cards = s.its-card ∙ ap card_bytes same ∙ sym r.its-card;
      tables = tables-of after₁ after₂ a b s r;
    }

    module _ (e f : Change) where
      -- any two accepted changes, appends and loads too
      pub indistinguishable-tables : (left_by u e).number ≡ 0 → (left_by w f).number ≡ 0 → IndistinguishableTables u w (left_by u e).table (left_by w f).table
      indistinguishable-tables ok₁ ok₂ = tables-of _ _ (left_by u e) (left_by w f) (change-sealed u e ok₁) (change-sealed w f ok₂)

      pub indistinguishable-second : (second₁ second₂ : List ℕ) → (asked_by u e second₁).number ≡ 0 → (asked_by w f second₂).number ≡ 0
          → IndistinguishableTables u w (asked_by u e second₁).table (asked_by w f second₂).table
      indistinguishable-second second₁ second₂ ok₁ ok₂ =
          tables-of _ _ (asked_by u e second₁) (asked_by w f second₂) (ask-sealed u e second₁ ok₁) (ask-sealed w f second₂ ok₂)

      -- two that leave equally many blocks, as updates, deletions and batches do
      module _ (same : blocks_after (read_card card) e ≡ blocks_after (read_card card) f) where
        pub indistinguishable : (left_by u e).number ≡ 0 → (left_by w f).number ≡ 0 → Indistinguishable u w (left_by u e) (left_by w f)
        indistinguishable ok₁ ok₂ = indistinguishable-of _ _ (left_by u e) (left_by w f) (ap (changed_card c) same) (change-sealed u e ok₁) (change-sealed w f ok₂)

        pub indistinguishable-asked : (second₁ second₂ : List ℕ) → (asked_by u e second₁).number ≡ 0 → (asked_by w f second₂).number ≡ 0
            → Indistinguishable u w (asked_by u e second₁) (asked_by w f second₂)
        indistinguishable-asked second₁ second₂ ok₁ ok₂ =
            indistinguishable-of _ _ (asked_by u e second₁) (asked_by w f second₂) (ap (asked_card c) same) (ask-sealed u e second₁ ok₁) (ask-sealed w f second₂ ok₂)

    -- "For equal cards and any two accepted updates, whatever their block numbers and bytes and whatever sound tables"
    module _ (m : ℕ) (old mark new : List ℕ) where
      pub indistinguishable-updates : (m' : ℕ) (old' mark' new' : List ℕ) → (left_by u (update m old mark new)).number ≡ 0 → (left_by w (update m' old' mark' new')).number ≡ 0
          → Indistinguishable u w (left_by u (update m old mark new)) (left_by w (update m' old' mark' new'))
      indistinguishable-updates m' old' mark' new' = indistinguishable (update m old mark new) (update m' old' mark' new') refl

      pub indistinguishable-deletion : (m' : ℕ) (old' mark' : List ℕ) → (left_by u (update m old mark new)).number ≡ 0 → (left_by w (delete m' old' mark')).number ≡ 0
          → Indistinguishable u w (left_by u (update m old mark new)) (left_by w (delete m' old' mark'))
      indistinguishable-deletion m' old' mark' = indistinguishable (update m old mark new) (delete m' old' mark') refl

      pub indistinguishable-batch : (items : List ℕ) → (left_by u (update m old mark new)).number ≡ 0 → (left_by w (batch items)).number ≡ 0
          → Indistinguishable u w (left_by u (update m old mark new)) (left_by w (batch items))
      indistinguishable-batch items = indistinguishable (update m old mark new) (batch items) refl
