-- What a book keeps, and what its fresh records are. Assumes nothing.
--   Good                                       a book that can be: its limits, its blocks' sizes, its spent records
--   Pending, Asked                             what is pending; none-asked, none_open, some-asked: where nothing is, and where something is
--   in_order, back                             its card is in order, and comes back from its bytes
--   token-long, fresh-long, fresh-opens        fresh tokens and records, and that they open
--   sound                                      no unused record of its table is bad
--   table-plain, table_long, table-first       its table, its length, its first fresh record
--   record-next, table-open                    the records of the token to draw and of the open token
--   table-changed                              resealing follows a change of blocks
use Prim.Native.Nat.{ℕ, zero, suc, ◌+◌, ◌*◌, ◌-◌, ◌≤◌, ◌<◌}
use native.Mathlib.Omega.{arith}
use mathlib.Core.Path.{◌≡◌, refl, sym, ap, ap₂, ◌∙◌}
use mathlib.Core.List.{List, ◌++◌, append_assoc}
use mathlib.Core.Option.{Option, none, some}
use mathlib.Core.Bool.{true, false}
use lib.ListN.{length, take, drop, length-append, length-drop}
use lib.Seq.{take-append-le, drop-append-le}
use lib.Dec.{eqb}
use Rattle.octets.specs.Octets.{put}
use Rattle.octets.proofs.PartLaws.{put-at}
use Rattle.scheme.specs.Lists.{joined, records_from}
use Rattle.scheme.specs.Primitives.{Primitives}
use Rattle.scheme.specs.Marks.{version_fits}
use Rattle.scheme.specs.Records.{asks_fit, card_bytes, read_card, record_at}
use Rattle.scheme.specs.Tokens.{BlockChange, key_k, draw_key, hash_key, digest, token, digest_after}
use Rattle.scheme.specs.Table.{token_in, first_bad, resealed_record, reseal}
use Rattle.scheme.specs.Changes.{unused_bad}
use Rattle.scheme.specs.Book.{Book, pending_of, joined_blocks, book_card, with_ask, committed, with_blocks, fresh_token, fresh_record, book_table}
use Rattle.scheme.proofs.laws.TokenLaws.{length-digest}
use Rattle.scheme.proofs.laws.LimitLaws.{Limits, limits-card, open-last, open-most, asks_none, asks-some}
use Rattle.scheme.proofs.laws.RecordLaws.{token_back, record-long, record-at}
use Rattle.scheme.proofs.laws.CardLaws.{InOrder, order-back}
use Rattle.scheme.proofs.laws.TableLaws.{All, length-records}
use Rattle.scheme.proofs.laws.MarkLaws.{Formed}

-- a change to these blocks is pending
pub record Pending (b : Book) (blocks : List (List ℕ)) : Type 0 where
  pub later : b.ctr < b.last
  pub more : length b.blocks ≤ length blocks
  pub most : length blocks ≤ 16777216
  pub closed : b.open' ≡ 0
  pub formed : All (Formed b.version b.B) blocks

abbrev pub Asked : Book → Option (List (List ℕ)) → Type 0
Asked b none = Unit {0}
Asked b (some blocks) = Pending b blocks

module _ (P : Primitives) where
  pub record Good (b : Book) : Type 0 where
    pub key32 : length b.key ≡ 32
    pub id8 : length b.id ≡ 8
    pub ver : version_fits b.version ≡ true
    pub limits : Limits b.B b.d b.r b.t (length b.blocks) b.ctr b.next b.open'
    pub formed : All (Formed b.version b.B) b.blocks
    pub low : b.ctr ≤ b.last
    pub most : b.last ≤ 4294967295
    pub asked : Asked b b.asked
    pub plain : eqb b.version 3 ≡ false → (b.last ≡ b.ctr) × (b.asked ≡ none)
    pub spent63 : length (joined b.spent) ≡ (b.next - 1) * 63
    pub shown : 1 ≤ b.open' → record_at b.open' (joined b.spent) ≡ fresh_record P b b.open'

  pub open-small : (b : Book) → Good b → b.open' ≤ 65536
  open-small b g = open-most b.B b.d b.r b.t (length b.blocks) b.ctr b.next b.open' g.limits

  -- what is pending, on the book's card
  book-asks : (b : Book) → Good b → asks_fit (book_card b) ≡ true
  book-asks b g = go b.asked refl g.asked
    where
      go : (o : Option (List (List ℕ))) → b.asked ≡ o → Asked b o → asks_fit (book_card b) ≡ true
      go none e a = asks_none (book_card b) (unfold book_card in g.low) (unfold book_card in g.most) (unfold book_card in rw e) (unfold book_card in rw e)
      go (some blocks) e a =
          asks-some (book_card b) (unfold book_card in a.later) (unfold book_card in g.most) (unfold book_card in rw e) (unfold book_card in rw e a.more)
          (unfold book_card in rw e a.most) (unfold book_card in a.closed)

  book-plain : (b : Book) → Good b → eqb (book_card b).version 3 ≡ false
      → ((book_card b).last ≡ (book_card b).ctr) × ((book_card b).pending ≡ 0) × ((book_card b).count ≡ 0)
  unfolding book_card
  book-plain b g e = let p = g.plain e in rw p.1 (p.0, refl, refl)

  pub in_order : (b : Book) → Good b → InOrder (book_card b)
  in_order b g = record {
    id8 = unfold book_card in g.id8;
    ver = unfold book_card in g.ver;
    fits = limits-card (book_card b) (unfold book_card in g.limits) (book-asks b g);
    plain = book-plain b g;
  }

  -- nothing is pending where the card says so
  pub none-asked : (b : Book) → Good b → (book_card b).pending ≡ 0 → b.asked ≡ none
  unfolding book_card
  none-asked b g h = go b.asked refl g.asked h
    where
      go : (o : Option (List (List ℕ))) → b.asked ≡ o → Asked b o → pending_of o b.last ≡ 0 → b.asked ≡ none
      go none e a z = e
      go (some blocks) e a z = absurd (omega (arith, a.later))

  -- nor where a token is open
  pub none_open : (b : Book) → Good b → 1 ≤ b.open' → b.asked ≡ none
  none_open b g h = go b.asked refl g.asked
    where
      go : (o : Option (List (List ℕ))) → b.asked ≡ o → Asked b o → b.asked ≡ none
      go none e a = e
      go (some blocks) e a = absurd (omega (arith, a.closed))

  -- the blocks of what is pending, where the card says that something is
  pub some-asked : (b : Book) → Good b → 1 ≤ (book_card b).pending → (b.asked ≡ some (joined_blocks b.asked b.blocks)) × Pending b (joined_blocks b.asked b.blocks)
  unfolding book_card
  some-asked b g h = go b.asked refl g.asked h
    where
      go : (o : Option (List (List ℕ))) → b.asked ≡ o → Asked b o → 1 ≤ pending_of o b.last → (o ≡ some (joined_blocks o b.blocks)) × Pending b (joined_blocks o b.blocks)
      go none e a z = absurd (omega arith)
      go (some blocks) e a z = (refl, a)

  pub back : (b : Book) → Good b → read_card (card_bytes (book_card b)) ≡ book_card b
  back b g = order-back (book_card b) (in_order b g)

  -- fresh records open
  module _ (b : Book) where
    pub token-long : (i : ℕ) → length (fresh_token P b i) ≡ 32
    unfolding fresh_token token
    token-long i = length-digest P _ _ _ _ _

    pub fresh-long : (i : ℕ) → length (fresh_record P b i) ≡ 63
    unfolding fresh_record
    fresh-long i = record-long P _ b.version b.ctr i (fresh_token P b i) (token-long i)

    pub fresh-opens : (i : ℕ) → b.ctr ≤ 4294967295 → i < 4294967296
        → token_in P (key_k P b.key b.id) b.version b.ctr i (fresh_record P b i) ≡ some (fresh_token P b i)
    unfolding fresh_record
    fresh-opens i h l = token_back P _ b.version b.ctr i (fresh_token P b i) (token-long i) (omega arith) l

    -- record i of a table whose records from i on are fresh, and the table one record further
    module _ (table : List ℕ) (m i : ℕ) (p : List ℕ) (e : table ≡ p ++ records_from (fresh_record P b) (suc m) i) where
      pub at-fresh : length p ≡ (i - 1) * 63 → record_at i table ≡ fresh_record P b i
      unfolding records_from
      at-fresh h = ap (record_at i) e ∙ record-at i p (fresh_record P b i) (records_from (fresh_record P b) m (i + 1)) h (fresh-long i)

      further : table ≡ (p ++ fresh_record P b i) ++ records_from (fresh_record P b) m (i + 1)
      unfolding records_from
      further = e ∙ sym (append_assoc p (fresh_record P b i) (records_from (fresh_record P b) m (i + 1)))

    longer : (i : ℕ) (p x : List ℕ) → length x ≡ 63 → 1 ≤ i → length p ≡ (i - 1) * 63 → length (p ++ x) ≡ (i + 1 - 1) * 63
    longer i p x k l h = omega (arith, length-append p x)

    -- no unused record is bad
    none-bad : (table : List ℕ) (m i : ℕ) (p : List ℕ) → 1 ≤ i → i + m ≤ 4294967296 → b.ctr ≤ 4294967295 → length p ≡ (i - 1) * 63
        → table ≡ p ++ records_from (fresh_record P b) m i → first_bad P (key_k P b.key b.id) b.version b.ctr table m i ≡ 0
    unfolding first_bad
    none-bad table zero i p l k c h e = refl
    none-bad table (suc m) i p l k c h e =
        rw (at-fresh table m i p e h, fresh-opens i c (omega arith))
        (none-bad table m (i + 1) (p ++ fresh_record P b i) (omega arith) (omega arith) c (longer i p (fresh_record P b i) (fresh-long i) l h) (further table m i p e))

  module _ (b : Book) (g : Good b) where
    pub table-plain : book_table P b ≡ joined b.spent ++ records_from (fresh_record P b) (b.t + 1 - b.next) b.next
    unfolding book_table
    table-plain = refl

    -- every unused record of a book opens
    pub sound : unused_bad P b.key (book_card b) (book_table P b) ≡ 0
    unfolding unused_bad book_card
    sound =
        none-bad b (book_table P b) (b.t + 1 - b.next) b.next (joined b.spent) g.limits.next1
        (omega (arith, g.limits.tmost, g.limits.nextmost, g.limits.next1)) g.limits.ctrmost g.spent63 table-plain

    pub table_long : length (book_table P b) ≡ b.t * 63
    unfolding book_table
    table_long =
        omega (
          arith,
          length-append (joined b.spent) (records_from (fresh_record P b) (b.t + 1 - b.next) b.next),
          length-records (fresh_record P b) (fresh-long b) (b.t + 1 - b.next) b.next,
          g.spent63,
          g.limits.nextmost,
          g.limits.next1,
        )

    -- the first fresh record apart
    pub table-first : b.next ≤ b.t
        → book_table P b ≡ joined b.spent ++ (fresh_record P b b.next ++ records_from (fresh_record P b) (b.t + 1 - (b.next + 1)) (b.next + 1))
    unfolding book_table records_from
    table-first h =
        let k : b.t + 1 - b.next ≡ suc (b.t + 1 - (b.next + 1)) = omega arith in
        rw k

    pub record-next : b.next ≤ b.t → record_at b.next (book_table P b) ≡ fresh_record P b b.next
    record-next h =
        ap (record_at b.next) (table-first h)
        ∙ record-at b.next (joined b.spent) (fresh_record P b b.next) (records_from (fresh_record P b) (b.t + 1 - (b.next + 1)) (b.next + 1))
        g.spent63 (fresh-long b b.next)

    module _ (opn : 1 ≤ b.open') where
      -- the table holds its fresh record
      pub table-open : record_at b.open' (book_table P b) ≡ fresh_record P b b.open'
      unfolding record_at book_table
      table-open =
          let l : length (joined b.spent) ≡ b.open' * 63 =
          g.spent63
          ∙ ap (λ (y : ℕ). y * 63) (sym (open-last b.B b.d b.r b.t (length b.blocks) b.ctr b.next b.open' g.limits opn)) in
          let a : (b.open' - 1) * 63 ≤ length (joined b.spent) = omega arith in
          let rest = records_from (fresh_record P b) (b.t + 1 - b.next) b.next in
          ap (take 63) (drop-append-le ((b.open' - 1) * 63) (joined b.spent) rest a)
          ∙ take-append-le 63 (drop ((b.open' - 1) * 63) (joined b.spent)) rest (simp length-drop (omega arith))
          ∙ g.shown opn

  -- a change of blocks that the tokens follow reseals fresh records to fresh records
  module _ (b : Book) (blocks : List (List ℕ)) (changes : List (ℕ × BlockChange)) (room : b.last < 4294967295) (low : b.ctr ≤ b.last)
      (follows : (k c : List ℕ) → digest P k c b.d b.r blocks ≡ digest_after P k c b.d b.r changes (digest P k c b.d b.r b.blocks)) where
    one-resealed : (i : ℕ) (rec : List ℕ) → i < 4294967296 → rec ≡ fresh_record P b i
        → resealed_record P b.key (book_card b) changes i rec ≡ fresh_record P (with_blocks b blocks) i
    unfolding resealed_record book_card fresh_record fresh_token token with_blocks with_ask committed
    one-resealed i rec l e =
        rw (e, fresh-opens b i (omega arith) l, ← follows (draw_key P b.key b.id i) (hash_key P b.key b.id i))

    all-resealed : (table : List ℕ) (m i : ℕ) (p : List ℕ) → 1 ≤ i → i + m ≤ 4294967296 → length p ≡ (i - 1) * 63
        → table ≡ p ++ records_from (fresh_record P b) m i
        → reseal P b.key (book_card b) changes m i table ≡ p ++ records_from (fresh_record P (with_blocks b blocks)) m i
    unfolding reseal records_from
    all-resealed table zero i p l k h e = e
    all-resealed table (suc m) i p l k h e =
        let new = fresh_record P (with_blocks b blocks) i in
        let rest = records_from (fresh_record P b) m (i + 1) in
        let long : length new ≡ 63 = fresh-long (with_blocks b blocks) i in
        let at : put ((i - 1) * 63) (resealed_record P b.key (book_card b) changes i (record_at i table)) table ≡ (p ++ new) ++ rest =
        ap₂ (put ((i - 1) * 63)) (one-resealed i (record_at i table) (omega arith) (at-fresh b table m i p e h)) e
        ∙ put-at ((i - 1) * 63) p (fresh_record P b i) new rest h (fresh-long b i ∙ sym long)
        ∙ sym (append_assoc p new rest) in
        all-resealed (put ((i - 1) * 63) (resealed_record P b.key (book_card b) changes i (record_at i table)) table) m (i + 1) (p ++ new)
        (omega arith) (omega arith) (longer b i p new long l h) at
        ∙ append_assoc p new (records_from (fresh_record P (with_blocks b blocks)) m (i + 1))

    changed-plain : joined b.spent ++ records_from (fresh_record P (with_blocks b blocks)) (b.t + 1 - b.next) b.next ≡ book_table P (with_blocks b blocks)
    unfolding book_table with_blocks with_ask committed
    changed-plain = refl

    pub table-changed : Good b
        → reseal P b.key (book_card b) changes (b.t + 1 - b.next) b.next (book_table P b) ≡ book_table P (with_blocks b blocks)
    table-changed g =
        all-resealed (book_table P b) (b.t + 1 - b.next) b.next (joined b.spent) g.limits.next1
        (omega (arith, g.limits.tmost, g.limits.nextmost, g.limits.next1)) g.spent63 (table-plain b g)
        ∙ changed-plain
