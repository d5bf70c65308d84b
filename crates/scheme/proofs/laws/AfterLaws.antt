-- The book after each call: its card, its table, and that it stays good. Assumes nothing.
--   Held                            where a change is pending, the asked table is the one that its commit makes the book's
--   card-changed, good-changed      after a change in one step; card-asked, table-asked, held-asked, good-asked: while it is pending
--   card-committed .. good-dropped  after its commit and its drop
--   good-turned .. good-drawn       after a draw or a judgement
--   drawn-left, judged-idle, pooled-idle, settled-pending   what an accepted call finds
--   own-told                        the book's card is as long as its length field tells
use Prim.Native.Nat.{ℕ, ◌+◌, ◌*◌, ◌-◌, ◌≤◌, ◌<◌}
use native.Mathlib.Omega.{arith}
use mathlib.Core.Path.{◌≡◌, refl, sym, ap, ◌∙◌, subst}
use mathlib.Core.List.{List, [], ◌∷◌, ◌++◌, append_assoc, append-nil}
use mathlib.Core.Option.{Option, none, some}
use mathlib.Core.Bool.{true, ◌||◌, or-true, false≢true}
use borrow.Author.Tests.{eq-eqb}
use lib.ListN.{length, length-append}
use lib.Dec.{eqb}
use Rattle.octets.specs.Octets.{of_be, part}
use Rattle.scheme.specs.Lists.{joined, records_from}
use Rattle.scheme.specs.Primitives.{Primitives}
use Rattle.scheme.specs.Records.{Card, card_bytes, record_at}
use Rattle.scheme.specs.Changes.{asked_card, committed_card, dropped_card, changed_card}
use Rattle.scheme.specs.Calls.{turned_card, Moment, draw_code, judge_fault}
use Rattle.scheme.specs.Asks.{settle_code}
use Rattle.scheme.specs.Pools.{pool_fault, pooled, OwnLengths}
use Rattle.scheme.specs.Book.{Book, joined_blocks, book_card, with_ask, committed, dropped, with_blocks, with_turn, fresh_token, fresh_record, book_table}
use Rattle.scheme.proofs.laws.LimitLaws.{Limits}
use Rattle.scheme.proofs.laws.RecordLaws.{record-at}
use Rattle.scheme.proofs.laws.TableLaws.{All, joined-append, records-same}
use Rattle.scheme.proofs.laws.MarkLaws.{Formed}
use Rattle.scheme.proofs.laws.PoolLaws.{card-told, own-order}
use Rattle.scheme.proofs.laws.CallLaws.{draw-has, judge-has, settle-has}
use Rattle.scheme.proofs.laws.BookLaws.{Pending, Asked, Good, none-asked, none_open, some-asked, back, fresh-long, table-first}

module _ (P : Primitives) where
  -- the asked table
  abbrev pub HeldAt : Option (List (List ℕ)) → Book → List ℕ → Type 0
  HeldAt none b asked = Unit {0}
  HeldAt (some blocks) b asked = asked ≡ book_table P (committed b)

  abbrev pub Held : Book → List ℕ → Type 0
  Held b asked = HeldAt b.asked b asked

  module _ (b : Book) (g : Good P b) where
    limits-changed : (n ctr : ℕ) → 1 ≤ n → n ≤ 16777216 → ctr ≤ 4294967295 → Limits b.B b.d b.r b.t n ctr b.next b.open'
    limits-changed n ctr n1 nmost ctrmost = record {
      shape = g.limits.shape;
      t1 = g.limits.t1;
      tmost = g.limits.tmost;
      n1 = n1;
      nmost = nmost;
      ctrmost = ctrmost;
      next1 = g.limits.next1;
      nextmost = g.limits.nextmost;
      last = g.limits.last;
    }

    -- the book after a change, in one step or committed
    module _ (blocks : List (List ℕ)) where
      pub key-changed : (with_blocks b blocks).key ≡ b.key
      unfolding with_blocks with_ask committed
      key-changed = refl

      pub card-changed : (n : ℕ) → length blocks ≡ n → changed_card (book_card b) n ≡ book_card (with_blocks b blocks)
      unfolding changed_card asked_card committed_card book_card with_blocks with_ask committed
      card-changed n e = rw e

      pub good-changed : b.open' ≡ 0 → b.last < 4294967295 → length b.blocks ≤ length blocks → length blocks ≤ 16777216 → All (Formed b.version b.B) blocks
          → Good P (with_blocks b blocks)
      unfolding with_blocks with_ask committed
      good-changed o room more most s = record {
        key32 = g.key32;
        id8 = g.id8;
        ver = g.ver;
        limits = limits-changed (length blocks) (b.last + 1) (omega (arith, g.limits.n1)) most (omega arith);
        formed = s;
        low = omega arith;
        most = omega arith;
        asked = tt;
        plain = λ e. (refl, refl);
        spent63 = g.spent63;
        shown = λ h. absurd (omega arith);
      }

      -- while it is pending
      pub key-asked : (with_ask b blocks).key ≡ b.key
      unfolding with_ask
      key-asked = refl

      pub card-asked : (n : ℕ) → length blocks ≡ n → asked_card (book_card b) n ≡ book_card (with_ask b blocks)
      unfolding asked_card book_card with_ask
      card-asked n e = rw e

      record-asked : (i : ℕ) → fresh_record P (with_ask b blocks) i ≡ fresh_record P b i
      unfolding fresh_record fresh_token with_ask
      record-asked i = refl

      pub table-asked : book_table P b ≡ book_table P (with_ask b blocks)
      unfolding book_table with_ask
      table-asked =
          ap (λ (y : List ℕ). joined b.spent ++ y)
          (sym (records-same (fresh_record P b) (fresh_record P (with_ask b blocks)) record-asked (b.t + 1 - b.next) b.next))

      pub held-asked : (asked : List ℕ) → asked ≡ book_table P (with_blocks b blocks) → Held (with_ask b blocks) asked
      unfolding with_blocks with_ask
      held-asked asked e = e

      pub good-asked : eqb b.version 3 ≡ true → b.open' ≡ 0 → b.last < 4294967295 → length b.blocks ≤ length blocks → length blocks ≤ 16777216
          → All (Formed b.version b.B) blocks → Good P (with_ask b blocks)
      unfolding with_ask
      good-asked v o room more most s = record {
        key32 = g.key32;
        id8 = g.id8;
        ver = g.ver;
        limits = g.limits;
        formed = g.formed;
        low = omega (arith, g.low);
        most = omega arith;
        asked = record { later = omega (arith, g.low); more = more; most = most; closed = o; formed = s };
        plain = λ e. absurd (false≢true (sym e ∙ v));
        spent63 = g.spent63;
        shown = λ h. absurd (omega arith);
      }

    -- the book after a commit
    module _ (pending : 1 ≤ (book_card b).pending) where
      waits : Pending b (joined_blocks b.asked b.blocks)
      waits = (some-asked P b g pending).1

      pub card-committed : committed_card (book_card b) ≡ book_card (committed b)
      unfolding committed_card book_card committed
      card-committed = rw (some-asked P b g pending).0

      pub table-committed : (asked : List ℕ) → Held b asked → asked ≡ book_table P (committed b)
      table-committed asked h = subst (λ (o : Option (List (List ℕ))). HeldAt o b asked) (some-asked P b g pending).0 h

      pub good-committed : Good P (committed b)
      unfolding committed
      good-committed = record {
        key32 = g.key32;
        id8 = g.id8;
        ver = g.ver;
        limits = limits-changed (length (joined_blocks b.asked b.blocks)) b.last (omega (arith, g.limits.n1, waits.more)) waits.most g.most;
        formed = waits.formed;
        low = omega arith;
        most = g.most;
        asked = tt;
        plain = λ e. (refl, refl);
        spent63 = g.spent63;
        shown = λ h. absurd (omega (arith, waits.closed));
      }

    -- the book after a drop
    pub card-dropped : dropped_card (book_card b) ≡ book_card (dropped b)
    unfolding dropped_card book_card dropped
    card-dropped = refl

    record-dropped : (i : ℕ) → fresh_record P (dropped b) i ≡ fresh_record P b i
    unfolding fresh_record fresh_token dropped
    record-dropped i = refl

    pub table-dropped : book_table P b ≡ book_table P (dropped b)
    unfolding book_table dropped
    table-dropped =
        ap (λ (y : List ℕ). joined b.spent ++ y) (sym (records-same (fresh_record P b) (fresh_record P (dropped b)) record-dropped (b.t + 1 - b.next) b.next))

    pub good-dropped : Good P (dropped b)
    good-dropped = record {
      key32 = unfold dropped in g.key32;
      id8 = unfold dropped in g.id8;
      ver = unfold dropped in g.ver;
      limits = unfold dropped in g.limits;
      formed = unfold dropped in g.formed;
      low = unfold dropped in g.low;
      most = unfold dropped in g.most;
      asked = unfold dropped in tt;
      plain = unfold dropped in λ e. ((g.plain e).0, refl);
      spent63 = unfold dropped in g.spent63;
      shown = unfold dropped fresh_record fresh_token in g.shown;
    }

    -- the book after a draw or a judgement, while nothing is pending: no fresh record changes
    module _ (next o : ℕ) (spent : List (List ℕ)) where
      pub key-turned : (with_turn b next o spent).key ≡ b.key
      unfolding with_turn
      key-turned = refl

      card-turned : turned_card (book_card b) next o ≡ book_card (with_turn b next o spent)
      unfolding turned_card book_card with_turn
      card-turned = refl

      record-turned : (i : ℕ) → fresh_record P (with_turn b next o spent) i ≡ fresh_record P b i
      unfolding fresh_record fresh_token with_turn
      record-turned i = refl

      pub table-turned : book_table P (with_turn b next o spent) ≡ joined spent ++ records_from (fresh_record P b) (b.t + 1 - next) next
      unfolding book_table with_turn
      table-turned = ap (λ (y : List ℕ). joined spent ++ y) (records-same (fresh_record P b) (fresh_record P (with_turn b next o spent)) record-turned (b.t + 1 - next) next)

      module _ (idle : b.asked ≡ none) where
        pub held-turned : (asked : List ℕ) → Held (with_turn b next o spent) asked
        unfolding with_turn
        held-turned asked = subst (λ (x : Option (List (List ℕ))). HeldAt x (with_turn b next o spent) asked) (sym idle) tt

        limits-turned : 1 ≤ next → next ≤ b.t + 1 → (eqb o 0 || eqb o (next - 1)) ≡ true
            → Limits b.B b.d b.r b.t (length b.blocks) b.ctr next o
        limits-turned h₁ h₂ h₃ = record {
          shape = g.limits.shape;
          t1 = g.limits.t1;
          tmost = g.limits.tmost;
          n1 = g.limits.n1;
          nmost = g.limits.nmost;
          ctrmost = g.limits.ctrmost;
          next1 = h₁;
          nextmost = h₂;
          last = h₃;
        }

        none-turned : Asked (with_turn b next o spent) b.asked
        none-turned = subst (Asked (with_turn b next o spent)) (sym idle) tt

        pub good-turned : 1 ≤ next → next ≤ b.t + 1 → (eqb o 0 || eqb o (next - 1)) ≡ true → length (joined spent) ≡ (next - 1) * 63
            → (1 ≤ o → record_at o (joined spent) ≡ fresh_record P b o) → Good P (with_turn b next o spent)
        good-turned h₁ h₂ h₃ h₄ h₅ = record {
          key32 = unfold with_turn in g.key32;
          id8 = unfold with_turn in g.id8;
          ver = unfold with_turn in g.ver;
          limits = unfold with_turn in limits-turned h₁ h₂ h₃;
          formed = unfold with_turn in g.formed;
          low = unfold with_turn in g.low;
          most = unfold with_turn in g.most;
          asked = unfold with_turn in none-turned;
          plain = unfold with_turn in g.plain;
          spent63 = unfold with_turn in h₄;
          shown = unfold with_turn fresh_record fresh_token in h₅;
        }

    pub card-drawn : (spent : List (List ℕ))
        → card_bytes (turned_card (book_card b) ((book_card b).next + 1) (book_card b).next) ≡ card_bytes (book_card (with_turn b (b.next + 1) b.next spent))
    unfolding book_card
    card-drawn spent = ap card_bytes (card-turned (b.next + 1) b.next spent)

    pub card-judged : card_bytes (turned_card (book_card b) (book_card b).next 0) ≡ card_bytes (book_card (with_turn b b.next 0 b.spent))
    unfolding book_card
    card-judged = ap card_bytes (card-turned b.next 0 b.spent)

    -- a draw changes no byte of the table
    pub table-drawn : b.next ≤ b.t → book_table P b ≡ book_table P (with_turn b (b.next + 1) b.next (b.spent ++ fresh_record P b b.next ∷ []))
    table-drawn h =
        let s = b.spent ++ fresh_record P b b.next ∷ [] in
        let x = fresh_record P b b.next in
        let rest = records_from (fresh_record P b) (b.t + 1 - (b.next + 1)) (b.next + 1) in
        table-first P b g h ∙ sym (append_assoc (joined b.spent) x rest)
        ∙ ap (λ (u : List ℕ). u ++ rest) (sym (joined-append b.spent x))
        ∙ sym (table-turned (b.next + 1) b.next s)

    pub good-drawn : b.asked ≡ none → b.next ≤ b.t → Good P (with_turn b (b.next + 1) b.next (b.spent ++ fresh_record P b b.next ∷ []))
    good-drawn idle h =
        let x = fresh_record P b b.next in
        let s = b.spent ++ x ∷ [] in
        let more : joined s ≡ joined b.spent ++ x = joined-append b.spent x in
        let long : length (joined s) ≡ (b.next + 1 - 1) * 63 =
        ap length more ∙ omega (arith, length-append (joined b.spent) x, fresh-long P b b.next, g.spent63, g.limits.next1) in
        let last : record_at b.next (joined s) ≡ x =
        ap (record_at b.next) (more ∙ ap (λ (y : List ℕ). joined b.spent ++ y) (sym (append-nil x)))
        ∙ record-at b.next (joined b.spent) x [] g.spent63 (fresh-long P b b.next) in
        let o : eqb b.next (b.next + 1 - 1) ≡ true = eq-eqb b.next (b.next + 1 - 1) (omega arith) in
        good-turned (b.next + 1) b.next s idle (omega arith) (omega arith) (rw o (or-true (eqb b.next 0))) long (λ z. last)

    -- an accepted draw finds nothing pending and a token left
    pub drawn-has : (message plan : List ℕ) (now : Moment) → draw_code P b.key (card_bytes (book_card b)) message plan now ≡ 0 → (b.asked ≡ none) × (b.next ≤ b.t)
    drawn-has message plan now e =
        let h = draw-has P b.key (card_bytes (book_card b)) message plan now e in
        let i : (book_card b).pending ≡ 0 = subst (λ (c : Card). c.pending ≡ 0) (back P b g) h.idle in
        (none-asked P b g i, unfold book_card in subst (λ (c : Card). c.next ≤ c.t) (back P b g) h.left)

    pub drawn-left : (message plan : List ℕ) (now : Moment) → draw_code P b.key (card_bytes (book_card b)) message plan now ≡ 0 → b.next ≤ b.t
    drawn-left message plan now e = (drawn-has message plan now e).1

    -- a judgement that is made finds nothing pending
    pub judged-idle : judge_fault P b.key (card_bytes (book_card b)) ≡ 0 → b.asked ≡ none
    unfolding book_card
    judged-idle e = none_open P b g (subst (λ (c : Card). 1 ≤ c.open') (back P b g) (judge-has P b.key (card_bytes (book_card b)) e).some-open)

    pub own-told : length (card_bytes (book_card b)) ≡ 2 + of_be (part 0 2 (card_bytes (book_card b)))
    own-told = card-told (book_card b) (unfold book_card in g.id8)

    pub pooled-idle : (master : List ℕ) (before behind : List (List ℕ)) → OwnLengths before → OwnLengths behind → pool_fault master (pooled before (card_bytes (book_card b)) behind) ≡ 0
        → b.asked ≡ none
    unfolding book_card
    pooled-idle master before behind told₁ told₂ e =
        none_open P b g (subst (λ (c : Card). 1 ≤ c.open') (back P b g) (own-order before behind (card_bytes (book_card b)) told₁ own-told told₂ master e).1)

    pub settled-pending : settle_code (card_bytes (book_card b)) ≡ 0 → 1 ≤ (book_card b).pending
    settled-pending e = subst (λ (c : Card). 1 ≤ c.pending) (back P b g) (settle-has (card_bytes (book_card b)) e).1
