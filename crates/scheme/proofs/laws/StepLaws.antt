-- What a call does to the card and tables of a book is what it does to the book. Assumes nothing.
--   Carried, carried   of a permitted call: the number, the card and the tables are the book's, and the book stays good
--   Stepped, step      the same of a call under its role
use Prim.Native.Nat.{ℕ, zero, suc, ◌+◌, ◌-◌, ◌<◌}
use native.Mathlib.Omega.{arith}
use mathlib.Core.Path.{◌≡◌, refl, sym, ap, ◌∙◌, subst}
use mathlib.Core.List.{List, [], ◌∷◌, ◌++◌}
use mathlib.Core.Bool.{Bool, true, false}
use lib.ListN.{length}
use lib.Dec.{eqb}
use Rattle.scheme.specs.Checks.{if_zero}
use Rattle.scheme.specs.Primitives.{Primitives}
use Rattle.scheme.specs.Records.{Card, card_bytes}
use Rattle.scheme.specs.Table.{reseal}
use Rattle.scheme.specs.Changes.{Change, block_changes, blocks_after, change_card, change_table}
use Rattle.scheme.specs.Calls.{turned_card, draw_card, judge_code, judge_card}
use Rattle.scheme.specs.Asks.{ask_card, ask_second, settle_code, commit_card, drop_card}
use Rattle.scheme.specs.Pools.{pool_code, pool_cards, pooled}
use Rattle.scheme.specs.Roles.{permits, under}
use Rattle.scheme.specs.Runs.{Call, change, ask, commit, drop_ask, draw, judge, pool, call_permission, Lent, call_code, call_card, call_table, call_asked}
use Rattle.scheme.specs.Runs.{lent_code, lent_card, lent_table, lent_asked, fault_of}
use Rattle.scheme.specs.Book.{Book, book_card, with_ask, committed, dropped, with_blocks, changed_blocks, fresh_record, book_table, book_fault, own_answer, carried_out}
use Rattle.scheme.specs.Book.{book_answer, book_after, PresentIn, Present}
use Rattle.scheme.proofs.laws.CallLaws.{Changed, change-has, ask-has, draw-has, judge-has}
use Rattle.scheme.proofs.laws.BookLaws.{Good, back, table-plain, table-changed}
use Rattle.scheme.proofs.laws.FollowLaws.{Follows, change-follows}
use Rattle.scheme.proofs.laws.AfterLaws.{Held, key-changed, card-changed, good-changed, key-asked, card-asked, table-asked, held-asked, good-asked, card-committed}
use Rattle.scheme.proofs.laws.AfterLaws.{table-committed, good-committed, card-dropped, table-dropped, good-dropped, key-turned, table-turned, held-turned, good-turned}
use Rattle.scheme.proofs.laws.AfterLaws.{card-drawn, card-judged, table-drawn, good-drawn, drawn-has, judged-idle, own-told, pooled-idle, settled-pending}
use Rattle.scheme.proofs.laws.PoolLaws.{pool-has, own-part, own_read, own-closed}

module _ (P : Primitives) where
  -- what a permitted call finds wrong on the book's card and table, what the book answers to it, and the book after it
  abbrev fault : List ℕ → Call → Book → ℕ
  fault master x b = fault_of P master x (card_bytes (book_card b)) (book_table P b)

  abbrev answer_to : List ℕ → Call → Book → ℕ
  answer_to master x b = if_zero (fault master x b) (own_answer P x b) (fault master x b)

  abbrev pub after_it : List ℕ → Call → Book → Book
  after_it master x b = if_zero (fault master x b) (carried_out P x b) b

  pub record Carried (master : List ℕ) (x : Call) (b : Book) (asked : List ℕ) : Type 0 where
    pub code : call_code P master x (card_bytes (book_card b)) (book_table P b) ≡ answer_to master x b
    pub card : call_card P master x (card_bytes (book_card b)) (book_table P b) ≡ card_bytes (book_card (after_it master x b))
    pub table : call_table P master x (card_bytes (book_card b)) (book_table P b) asked ≡ book_table P (after_it master x b)
    pub held : Held P (after_it master x b) (call_asked P master x (card_bytes (book_card b)) (book_table P b) asked)
    pub same : (after_it master x b).key ≡ b.key
    pub good : Good P (after_it master x b)

  -- under its role
  pub record Stepped (x : Lent) (b : Book) (asked : List ℕ) : Type 0 where
    pub code : lent_code P x (card_bytes (book_card b)) (book_table P b) ≡ book_answer P x b
    pub card : lent_card P x (card_bytes (book_card b)) (book_table P b) ≡ card_bytes (book_card (book_after P x b))
    pub table : lent_table P x (card_bytes (book_card b)) (book_table P b) asked ≡ book_table P (book_after P x b)
    pub held : Held P (book_after P x b) (lent_asked P x (card_bytes (book_card b)) (book_table P b) asked)
    pub same : (book_after P x b).key ≡ b.key
    pub good : Good P (book_after P x b)

  module _ (b : Book) (g : Good P b) (asked : List ℕ) (held : Held P b asked) where
    -- a call that is turned away
    refused : (master : List ℕ) (x : Call) (n : ℕ) → fault master x b ≡ suc n → Carried master x b asked
    unfolding change_card change_table ask_card commit_card drop_card draw_card judge_code judge_card pool_code pool_cards
    refused master (change ch totals) n e = record { code = rw e; card = rw e; table = rw e; held = rw e held; same = rw e; good = rw e g }
    refused master (ask ch second totals) n e = record { code = rw e; card = rw e; table = rw e; held = rw e held; same = rw e; good = rw e g }
    refused master commit n e = record { code = rw e; card = rw e; table = rw e; held = rw e held; same = rw e; good = rw e g }
    refused master drop_ask n e = record { code = rw e; card = rw e; table = rw e; held = rw e held; same = rw e; good = rw e g }
    refused master (draw message plan now) n e = record { code = rw e; card = rw e; table = rw e; held = rw e held; same = rw e; good = rw e g }
    refused master (judge reply) n e = record { code = rw e; card = rw e; table = rw e; held = rw e held; same = rw e; good = rw e g }
    refused master (pool before behind reply) n e =
        record { code = rw e; card = rw e (own-part before behind (card_bytes (book_card b))); table = rw e; held = rw e held; same = rw e; good = rw e g }

    -- an accepted commit or drop, whatever master
    commits : (master : List ℕ) → settle_code (card_bytes (book_card b)) ≡ 0 → Carried master commit b asked
    unfolding commit_card
    commits master e =
        let p = settled-pending P b g e in
        record {
          code = rw e;
          card = rw (e, back P b g) (ap card_bytes (card-committed P b g p));
          table = rw e (table-committed P b g p asked held);
          held = rw e (unfold committed in tt);
          same = rw e (unfold committed in refl);
          good = rw e (good-committed P b g p);
        }

    drops : (master : List ℕ) → settle_code (card_bytes (book_card b)) ≡ 0 → Carried master drop_ask b asked
    unfolding drop_card
    drops master e = record {
      code = rw e;
      card = rw (e, back P b g) (ap card_bytes (card-dropped P b g));
      table = rw e (table-dropped P b g);
      held = rw e (unfold dropped in tt);
      same = rw e (unfold dropped in refl);
      good = rw e (good-dropped P b g);
    }

    -- the blocks after an accepted change or ask
    follows : (ch : Change) → Changed P b.key (book_card b) (book_table P b) ch → PresentIn P ch b → Follows P b ch
    follows ch u o = change-follows P b g b.key ch u o

    -- the book's table resealed
    table-resealed : (ch : Change) → b.last < 4294967295 → Follows P b ch
        → reseal P b.key (book_card b) (block_changes (book_card b) ch) ((book_card b).t + 1 - (book_card b).next) (book_card b).next (book_table P b)
        ≡ book_table P (with_blocks b (changed_blocks ch b))
    unfolding book_card
    table-resealed ch room f = table-changed P b (changed_blocks ch b) (block_changes (book_card b) ch) room g.low f.follows g

    -- a call that is accepted, lent the book's key
    taken : (x : Call) → fault b.key x b ≡ 0 → Present P x b → Carried b.key x b asked
    unfolding change_card change_table ask_card ask_second draw_card judge_code judge_card pool_code pool_cards
    taken (change ch totals) e o =
        let u : Changed P b.key (book_card b) (book_table P b) ch = rw (back P b g) at (change-has P b.key (card_bytes (book_card b)) (book_table P b) ch totals e) in
        let f = follows ch u o in
        let closed : b.open' ≡ 0 = unfold book_card in u.closed in
        let room : b.last < 4294967295 = unfold book_card in u.room in
        record {
          code = rw e;
          card = rw (e, back P b g) (ap card_bytes (card-changed P b g (changed_blocks ch b) (blocks_after (book_card b) ch) f.count));
          table = rw (e, back P b g) (table-resealed ch room f);
          held = rw e (unfold with_blocks with_ask committed in tt);
          same = rw e (key-changed P b g (changed_blocks ch b));
          good = rw e (good-changed P b g (changed_blocks ch b) closed room f.more f.most f.formed);
        }
    taken (ask ch second totals) e o =
        let h = ask-has P b.key (card_bytes (book_card b)) (book_table P b) second ch totals e in
        let u : Changed P b.key (book_card b) (book_table P b) ch = rw (back P b g) at h.0 in
        let v : eqb b.version 3 ≡ true = unfold book_card in subst (λ (c : Card). eqb c.version 3 ≡ true) (back P b g) h.1 in
        let f = follows ch u o in
        let closed : b.open' ≡ 0 = unfold book_card in u.closed in
        let room : b.last < 4294967295 = unfold book_card in u.room in
        record {
          code = rw e;
          card = rw (e, back P b g) (ap card_bytes (card-asked P b g (changed_blocks ch b) (blocks_after (book_card b) ch) f.count));
          table = rw e (table-asked P b g (changed_blocks ch b));
          held = rw (e, back P b g) (held-asked P b g (changed_blocks ch b) _ (table-resealed ch room f));
          same = rw e (key-asked P b g (changed_blocks ch b));
          good = rw e (good-asked P b g (changed_blocks ch b) v closed room f.more f.most f.formed);
        }
    taken commit e o = commits b.key e
    taken drop_ask e o = drops b.key e
    taken (draw message plan now) e o =
        let h = drawn-has P b g message plan now e in
        let s = b.spent ++ fresh_record P b b.next ∷ [] in
        record {
          code = rw e;
          card = rw (e, back P b g) (card-drawn P b g s);
          table = rw e (table-drawn P b g h.1);
          held = rw e (held-turned P b g (b.next + 1) b.next s h.0 asked);
          same = rw e (key-turned P b g (b.next + 1) b.next s);
          good = rw e (good-drawn P b g h.0 h.1);
        }
    taken (judge reply) e o =
        let idle = judged-idle P b g e in
        record {
          code = rw (e, back P b g);
          card = rw (e, back P b g) (card-judged P b g);
          table = rw e (table-plain P b g ∙ sym (table-turned P b g b.next 0 b.spent));
          held = rw e (held-turned P b g b.next 0 b.spent idle asked);
          same = rw e (key-turned P b g b.next 0 b.spent);
          good = rw e (good-turned P b g b.next 0 b.spent idle g.limits.next1 g.limits.nextmost refl g.spent63 (λ z. absurd (omega arith)));
        }
    taken (pool before behind reply) e o =
        let card = card_bytes (book_card b) in
        let idle = pooled-idle P b g b.key before behind o.0 o.1 e in
        record {
          code = rw (e, own_read before behind card o.0 (own-told P b g) o.1, back P b g);
          card =
              rw e
              (own-closed before behind card o.0 (own-told P b g) o.1 b.key e
              ∙ ap (λ (c : Card). card_bytes (turned_card c c.next 0)) (back P b g)
              ∙ card-judged P b g);
          table = rw e (table-plain P b g ∙ sym (table-turned P b g b.next 0 b.spent));
          held = rw e (held-turned P b g b.next 0 b.spent idle asked);
          same = rw e (key-turned P b g b.next 0 b.spent);
          good = rw e (good-turned P b g b.next 0 b.spent idle g.limits.next1 g.limits.nextmost refl g.spent63 (λ z. absurd (omega arith)));
        }

    -- a call lent a master that is the key
    with-key : (master : List ℕ) (x : Call) → master ≡ b.key → fault master x b ≡ 0 → Present P x b → Carried master x b asked
    with-key master x m e o =
        let e' : fault b.key x b ≡ 0 = ap (λ (y : List ℕ). fault y x b) (sym m) ∙ e in
        subst (λ (y : List ℕ). Carried y x b asked) (sym m) (taken x e' o)

    accepted : (master : List ℕ) (x : Call) → (length master ≡ 32 → master ≡ b.key) → fault master x b ≡ 0 → Present P x b → Carried master x b asked
    accepted master (change ch totals) k e o =
        with-key master (change ch totals) (k (change-has P master (card_bytes (book_card b)) (book_table P b) ch totals e).key32) e o
    accepted master (ask ch second totals) k e o =
        with-key master (ask ch second totals) (k (ask-has P master (card_bytes (book_card b)) (book_table P b) second ch totals e).0.key32) e o
    accepted master commit k e o = commits master e
    accepted master drop_ask k e o = drops master e
    accepted master (draw message plan now) k e o =
        with-key master (draw message plan now) (k (draw-has P master (card_bytes (book_card b)) message plan now e).key32) e o
    accepted master (judge reply) k e o = with-key master (judge reply) (k (judge-has P master (card_bytes (book_card b)) e).key32) e o
    accepted master (pool before behind reply) k e o =
        with-key master (pool before behind reply) (k (pool-has master (pooled before (card_bytes (book_card b)) behind) e).key32) e o

    pub carried : (master : List ℕ) (x : Call) → (length master ≡ 32 → master ≡ b.key)
        → (fault_of P master x (card_bytes (book_card b)) (book_table P b) ≡ 0 → Present P x b) → Carried master x b asked
    carried master x k o = go (fault master x b) refl
      where
        go : (n : ℕ) → fault master x b ≡ n → Carried master x b asked
        go (suc n) e = refused master x n e
        go zero e = accepted master x k e (o e)

    -- a call without permission changes nothing
    pub step : (x : Lent) → (length x.master ≡ 32 → x.master ≡ b.key) → (book_fault P x b ≡ 0 → Present P x.call b) → Stepped x b asked
    unfolding book_fault book_answer book_after under
    step x k o = go (permits x.role (call_permission x.call)) refl
      where
        go : (may : Bool) → permits x.role (call_permission x.call) ≡ may → Stepped x b asked
        go true e =
            let s = carried x.master x.call k (λ f. o (rw e f)) in
            record { code = rw e s.code; card = rw e s.card; table = rw e s.table; held = rw e s.held; same = rw e s.same; good = rw e s.good }
        go false e = record { code = rw e; card = rw e; table = rw e; held = rw e held; same = rw e; good = rw e g }
