-- After the list theorem: judge accepts exactly the fresh token, and the host's proof is accepted. Assumes nothing.
--   judge-exactly    a well-formed reply that carries the open token's record from the table is accepted exactly when its digest is the fresh token
--   host-accepted    the reply that prove writes from the drawn message, the current blocks with their marks and the table left is accepted on the drawn card
use Prim.Native.Nat.{ℕ, ◌+◌, ◌*◌, ◌≤◌}
use native.Mathlib.Omega.{arith}
use mathlib.Core.Path.{◌≡◌, refl, sym, ap, ap₂, ◌∙◌, subst}
use mathlib.Core.Logic.{◌↔◌}
use mathlib.Core.List.{List, [], ◌∷◌, ◌++◌}
use mathlib.Core.Option.{Option, none, some}
use mathlib.Core.Bool.{true, ◌&&◌}
use borrow.Author.Tests.{eqb-true, eq-eqb, le-leb, lt-ltb}
use lib.ListN.{length, get_or, drop}
use lib.Dec.{eqb, leb, ltb}
use Rattle.octets.specs.Octets.{of_be, part, same}
use Rattle.octets.proofs.SameLaws.{same_refl, same_true}
use Rattle.scheme.specs.Primitives.{Primitives}
use Rattle.scheme.specs.Marks.{marks_in, bytes_of, marks_of}
use Rattle.scheme.specs.Records.{Card, card_bytes, read_card, token_fits, blocks_fit, head_fits, record_at, message_bytes, message_fits, reply_bytes}
use Rattle.scheme.specs.Tokens.{key_k, draw_key, hash_key, token}
use Rattle.scheme.specs.Table.{body_in}
use Rattle.scheme.specs.Judging.{well_formed, verdict, Accepted}
use Rattle.scheme.specs.Calls.{set_up_code, set_up_card, set_up_table, Moment, draw_code, draw_card, message_for, draw_message, judge_fault, judge_code, prove_code, prove_reply}
use Rattle.scheme.specs.Roles.{may_draw, may_judge, permits, under}
use Rattle.scheme.specs.Runs.{draw, Lent, Ran, run}
use Rattle.scheme.specs.Book.{Book, started, book_card, with_turn, fresh_token, fresh_record, book_table, book_last, Honest, committed}
use Rattle.scheme.proofs.laws.CheckLaws.{passed, passed-all, both, pair, in-range}
use Rattle.scheme.proofs.laws.LimitLaws.{limits-shape}
use Rattle.scheme.proofs.laws.RecordLaws.{card-sized, card-head, sealed-head, sealed-ctr, sealed-i, sealed-body, MessageSmall, message-back}
use Rattle.scheme.proofs.laws.RecordLaws.{message-long, message-head, reply-long, reply-head, reply-id, reply-i, reply-digest, reply-record}
use Rattle.scheme.proofs.laws.MarkLaws.{bytes-long, marks-long, marks-low, marked-back}
use Rattle.scheme.proofs.laws.JudgingLaws.{accepted-exactly}
use Rattle.scheme.proofs.laws.BookLaws.{Good, open-small, in_order, back, token-long, fresh-long, table_long, record-next, table-open}
use Rattle.scheme.proofs.laws.AfterLaws.{HeldAt, Held, drawn-left}
use Rattle.scheme.proofs.laws.RoleLaws.{permitted, zero-permitted}
use Rattle.scheme.proofs.laws.StepLaws.{after_it, Carried, carried}
use Rattle.scheme.proofs.theorems.ListTheorem.{last-good, last-key, start-good, start-held, theorem}

-- the table that a commit would make the book's is held
own_held : (P : Primitives) (b : Book) → Held P b (book_table P (committed b))
own_held P b = go b.asked
  where
    go : (o : Option (List (List ℕ))) → HeldAt P o b (book_table P (committed b))
    go none = tt
    go (some blocks) = refl

module _ (P : Primitives) (b : Book) (g : Good P b) where
  module _ (opn : 1 ≤ b.open') where
    open-card : ltb 0 (book_card b).open' ≡ true
    unfolding book_card
    open-card = lt-ltb 0 b.open' opn

    judge-sound : judge_fault P b.key (card_bytes (book_card b)) ≡ 0
    unfolding judge_fault
    judge-sound =
        rw (back P b g)
        (passed _ _ (pair _ _ (eq-eqb (length b.key) 32 g.key32) (card-sized (book_card b) (unfold book_card in g.id8)))
        (passed _ _ (card-head (book_card b) (unfold book_card in g.id8) (unfold book_card in g.ver))
        (passed _ _ (in_order P b g).fits
        (passed _ _ open-card passed-all))))

    number : (reply : List ℕ) → judge_code P b.key (card_bytes (book_card b)) reply ≡ verdict P b.key (book_card b) reply
    unfolding judge_code
    number reply = rw (judge-sound, back P b g)

    module _ (reply : List ℕ) (formed : well_formed (book_card b) reply ≡ true) (carries : drop 47 reply ≡ record_at b.open' (book_table P b)) where
      -- the record carried is the fresh record of the open token
      fresh-record : drop 47 reply ≡ fresh_record P b b.open'
      fresh-record = carries ∙ table-open P b g opn

      fresh-body : body_in P (key_k P b.key b.id) b.ctr b.open' (drop 47 reply) ≡ some (fresh_token P b b.open')
      unfolding fresh_record
      fresh-body =
          ap (body_in P (key_k P b.key b.id) b.ctr b.open') fresh-record
          ∙ sealed-body P (key_k P b.key b.id) b.version b.ctr b.open' (fresh_token P b b.open') (token-long P b b.open')

      same-digest : Accepted P b.key (book_card b) reply → part 15 32 reply ≡ fresh_token P b b.open'
      unfolding book_card
      same-digest a =
          let e : some (part 15 32 reply) ≡ some (fresh_token P b b.open') = sym a.opens ∙ fresh-body in
          cc

      accepted : part 15 32 reply ≡ fresh_token P b b.open' → Accepted P b.key (book_card b) reply
      unfolding well_formed head_fits book_card fresh_record
      accepted e =
          let rec = drop 47 reply in
          let x = fresh_token P b b.open' in
          let key = key_k P b.key b.id in
          let f₁ = both (eqb (length reply) 110 && head_fits 108 b.version reply && same (part 3 8 reply) b.id) (eqb (of_be (part 11 4 reply)) b.open') formed in
          let f₂ = both (eqb (length reply) 110 && head_fits 108 b.version reply) (same (part 3 8 reply) b.id) f₁.0 in
          let f₃ = both (eqb (length reply) 110) (head_fits 108 b.version reply) f₂.0 in
          let f₄ = both (eqb (of_be (part 0 2 reply)) 108) (eqb (get_or reply 2 0) b.version) f₃.1 in
          let h : head_fits 61 b.version rec ≡ true = ap (head_fits 61 b.version) fresh-record ∙ sealed-head P key b.version b.ctr b.open' x in
          let hs = both (eqb (of_be (part 0 2 rec)) 61) (eqb (get_or rec 2 0) b.version) h in
          record {
            size = eqb-true (length reply) 110 f₃.0;
            own_length = eqb-true (of_be (part 0 2 reply)) 108 f₄.0;
            own_version = eqb-true (get_or reply 2 0) b.version f₄.1;
            own_id = same_true (part 3 8 reply) b.id f₂.1;
            own_i = eqb-true (of_be (part 11 4 reply)) b.open' f₁.1;
            record_length = eqb-true (of_be (part 0 2 rec)) 61 hs.0;
            record_version = eqb-true (get_or rec 2 0) b.version hs.1;
            record_ctr = ap (λ (u : List ℕ). of_be (part 3 8 u)) fresh-record ∙ sealed-ctr P key b.version b.ctr b.open' x (omega (arith, g.limits.ctrmost));
            record_i = ap (λ (u : List ℕ). of_be (part 11 4 u)) fresh-record ∙ sealed-i P key b.version b.ctr b.open' x (omega (arith, open-small P b g));
            opens = fresh-body ∙ ap some (sym e);
          }

      -- accepted exactly where the digest is the fresh token
      pub judged : (judge_code P b.key (card_bytes (book_card b)) reply ≡ 0) ↔ (part 15 32 reply ≡ fresh_token P b b.open')
      judged =
          let rule = accepted-exactly P b.key (book_card b) reply in
          (λ h. same-digest (rule.0 (sym (number reply) ∙ h)), λ e. number reply ∙ rule.1 (accepted e))

module _ (P : Primitives) (b : Book) (g : Good P b) (buffer plan : List ℕ) (now : Moment) (ok : draw_code P b.key (card_bytes (book_card b)) buffer plan now ≡ 0) where
  -- the message drawn
  drawn-message : draw_message P b.key (card_bytes (book_card b)) buffer plan now ≡ message_bytes (message_for P b.key (book_card b))
  unfolding draw_message
  drawn-message = rw (ok, back P b g)

  below : b.next ≤ b.t
  below = drawn-left P b g buffer plan now ok

  message-small : MessageSmall (message_for P b.key (book_card b))
  unfolding message_for book_card draw_key hash_key
  message-small = record {
    id8 = g.id8;
    i4 = omega (arith, below, g.limits.tmost);
    B2 = omega (arith, g.limits.shape.Bmost);
    d4 = omega (arith, g.limits.shape.dmost);
    r2 = omega (arith, g.limits.shape.rmost);
    n4 = omega (arith, g.limits.nmost);
    k32 = P.hmac_long _ _;
    c32 = P.hmac_long _ _;
  }

  message-fits : message_fits (message_for P b.key (book_card b)) ≡ true
  unfolding message_fits token_fits blocks_fit message_for book_card
  message-fits =
      pair _ _ (pair _ _ (limits-shape b.B b.d b.r g.limits.shape) (in-range 1 65536 b.next g.limits.next1 (omega (arith, below, g.limits.tmost))))
      (in-range 1 16777216 (length b.blocks) g.limits.n1 g.limits.nmost)

  -- the book after the draw
  turned : Book
  turned = with_turn b (b.next + 1) b.next (b.spent ++ fresh_record P b b.next ∷ [])

  after_is : after_it P b.key (draw buffer plan now) b ≡ turned
  unfolding turned
  after_is = rw ok

  drawing : Carried P b.key (draw buffer plan now) b (book_table P (committed b))
  drawing = carried P b g (book_table P (committed b)) (own_held P b) b.key (draw buffer plan now) (λ h. refl) (λ h. tt)

  turned-good : Good P turned
  turned-good = rw after_is at drawing.good

  turned-card : draw_card P b.key (card_bytes (book_card b)) buffer plan now ≡ card_bytes (book_card turned)
  turned-card = drawing.card ∙ ap (λ (y : Book). card_bytes (book_card y)) after_is

  turned-table : book_table P b ≡ book_table P turned
  turned-table = drawing.table ∙ ap (book_table P) after_is

  turned-open : turned.open' ≡ b.next
  unfolding turned with_turn
  turned-open = refl

  turned-key : turned.key ≡ b.key
  unfolding turned with_turn
  turned-key = refl

  turned-token : fresh_token P turned b.next ≡ fresh_token P b b.next
  unfolding turned with_turn fresh_token
  turned-token = refl

  -- the reply that prove writes
  reply : List ℕ
  reply = reply_bytes b.version b.id b.next (fresh_token P b b.next) (fresh_record P b b.next)

  well-formed : well_formed (book_card turned) reply ≡ true
  unfolding well_formed book_card turned with_turn reply
  well-formed =
      let dg = fresh_token P b b.next in
      let rec = fresh_record P b b.next in
      let long = token-long P b b.next in
      pair _ _ (pair _ _ (pair _ _
      (eq-eqb (length reply) 110 (reply-long b.version b.id b.next dg rec g.id8 long (fresh-long P b b.next)))
      (reply-head b.version b.id b.next dg rec g.id8 long))
      (rw (reply-id b.version b.id b.next dg rec g.id8 long) (same_refl b.id)))
      (eq-eqb (of_be (part 11 4 reply)) b.next (reply-i b.version b.id b.next dg rec g.id8 long (omega (arith, below, g.limits.tmost))))

  reply-carries : drop 47 reply ≡ record_at turned.open' (book_table P turned)
  unfolding reply
  reply-carries =
      reply-record b.version b.id b.next (fresh_token P b b.next) (fresh_record P b b.next) g.id8 (token-long P b b.next)
      ∙ sym (record-next P b g below) ∙ ap₂ record_at (sym turned-open) turned-table

  digested : part 15 32 reply ≡ fresh_token P turned turned.open'
  unfolding reply
  digested =
      reply-digest b.version b.id b.next (fresh_token P b b.next) (fresh_record P b b.next) g.id8 (token-long P b b.next)
      ∙ sym turned-token ∙ ap (fresh_token P turned) (sym turned-open)

  reply-accepted : judge_code P b.key (card_bytes (book_card turned)) reply ≡ 0
  reply-accepted =
      ap (λ (y : List ℕ). judge_code P y (card_bytes (book_card turned)) reply) (sym turned-key)
      ∙ (judged P turned turned-good (omega (arith, turned-open, g.limits.next1)) reply well-formed reply-carries).1 digested

  module _ (space totals : List ℕ) (space110 : length space ≡ 110) (totals16 : length totals ≡ 16) where
    sizes-fit : eqb (length (bytes_of b.version b.blocks)) ((message_for P b.key (book_card b)).n * (message_for P b.key (book_card b)).B)
        && eqb (length (marks_of b.version b.blocks)) ((message_for P b.key (book_card b)).n * marks_in (message_for P b.key (book_card b)).version)
        && leb ((message_for P b.key (book_card b)).i * 63) (length (book_table P b)) ≡ true
    unfolding message_for book_card
    sizes-fit =
        pair _ _ (pair _ _ (eq-eqb (length (bytes_of b.version b.blocks)) (length b.blocks * b.B) (bytes-long b.version b.B b.blocks g.formed))
        (eq-eqb (length (marks_of b.version b.blocks)) (length b.blocks * marks_in b.version) (marks-long b.version b.B b.blocks g.formed)))
        (le-leb (b.next * 63) (length (book_table P b)) (omega (arith, table_long P b g, below)))

    proved : prove_code P (message_bytes (message_for P b.key (book_card b))) (bytes_of b.version b.blocks) (marks_of b.version b.blocks) (book_table P b) space totals ≡ 0
    unfolding prove_code
    proved =
        let m = message_for P b.key (book_card b) in
        rw (message-back m message-small)
        (passed _ _ (pair _ _ (pair _ _ (eq-eqb (length (message_bytes m)) 91 (message-long m message-small)) (eq-eqb (length space) 110 space110))
        (eq-eqb (length totals) 16 totals16))
        (passed _ _ (message-head m message-small (unfold message_for book_card in g.ver))
        (passed _ _ message-fits
        (passed _ _ sizes-fit (passed _ _ (marks-low b.version b.B b.blocks g.formed) passed-all)))))

    written : prove_reply P (message_bytes (message_for P b.key (book_card b))) (bytes_of b.version b.blocks) (marks_of b.version b.blocks)
        (book_table P b) space totals ≡ reply
    unfolding prove_reply reply message_for book_card fresh_token token
    written =
        rw (proved, message-back (message_for P b.key (book_card b)) message-small, marked-back b.version b.B b.blocks g.formed, record-next P b g below)

    pub hosted : (prove_code P (draw_message P b.key (card_bytes (book_card b)) buffer plan now) (bytes_of b.version b.blocks) (marks_of b.version b.blocks)
        (book_table P b) space totals ≡ 0)
        × (judge_code P b.key (draw_card P b.key (card_bytes (book_card b)) buffer plan now)
        (prove_reply P (draw_message P b.key (card_bytes (book_card b)) buffer plan now) (bytes_of b.version b.blocks) (marks_of b.version b.blocks)
        (book_table P b) space totals) ≡ 0)
    hosted = (rw drawn-message proved, rw (drawn-message, turned-card, written) reply-accepted)

-- after an accepted set-up and an honest list
module _ (P : Primitives) (master id : List ℕ) (v B d r t n : ℕ) (blocks card table totals : List ℕ) (ok : set_up_code P master id v B d r t n blocks card table totals ≡ 0)
    (calls : List Lent) (asked : List ℕ) (honest : Honest P calls (started master id v B d r t n blocks)) where
  -- the run, and the book after it
  abbrev pub ran : Ran
  ran = run P calls (set_up_card P master id v B d r t n blocks card table totals) (set_up_table P master id v B d r t n blocks card table totals) asked

  abbrev pub book : Book
  book = book_last P calls (started master id v B d r t n blocks)

  good : Good P book
  good = last-good P calls (started master id v B d r t n blocks) asked (start-good P master id v B d r t n blocks card table totals ok)
      (start-held P master id v B d r t n blocks card table totals ok asked) honest

  key : book.key ≡ master
  unfolding started
  key = last-key P calls (started master id v B d r t n blocks) asked (start-good P master id v B d r t n blocks card table totals ok)
      (start-held P master id v B d r t n blocks card table totals ok asked) honest

  card-left : ran.card ≡ card_bytes (book_card book)
  card-left = ap (λ (x : Ran). x.card) (theorem P master id v B d r t n blocks card table totals ok calls asked honest)

  table-left : ran.table ≡ book_table P book
  table-left = ap (λ (x : Ran). x.table) (theorem P master id v B d r t n blocks card table totals ok calls asked honest)

  card-read : read_card ran.card ≡ book_card book
  card-read = ap read_card card-left ∙ back P book good

  -- on the book's card
  on-book : 1 ≤ (book_card book).open' → (reply : List ℕ) → well_formed (book_card book) reply ≡ true → drop 47 reply ≡ record_at (book_card book).open' ran.table
      → (judge_code P master ran.card reply ≡ 0) ↔ (part 15 32 reply ≡ fresh_token P book (book_card book).open')
  unfolding book_card
  on-book opn reply formed carries =
      let j = judged P book good opn reply formed (carries ∙ ap (record_at book.open') table-left) in
      let e : judge_code P master ran.card reply ≡ judge_code P book.key (card_bytes (book_card book)) reply =
      ap₂ (λ (x y : List ℕ). judge_code P x y reply) (sym key) card-left in
      (λ h. j.0 (sym e ∙ h), λ h. e ∙ j.1 h)

  judge-plain : 1 ≤ (read_card ran.card).open' → (reply : List ℕ) → well_formed (read_card ran.card) reply ≡ true
      → drop 47 reply ≡ record_at (read_card ran.card).open' ran.table
      → (judge_code P master ran.card reply ≡ 0) ↔ (part 15 32 reply ≡ fresh_token P book (read_card ran.card).open')
  judge-plain =
      subst (λ (c : Card). 1 ≤ c.open' → (reply : List ℕ) → well_formed c reply ≡ true → drop 47 reply ≡ record_at c.open' ran.table
      → (judge_code P master ran.card reply ≡ 0) ↔ (part 15 32 reply ≡ fresh_token P book c.open')) (sym card-read) on-book

  -- "demand 3's last sentence speaks of a permitted judge"
  pub judge-exactly : (role : ℕ) → permits role may_judge ≡ true → 1 ≤ (read_card ran.card).open' → (reply : List ℕ) → well_formed (read_card ran.card) reply ≡ true
      → drop 47 reply ≡ record_at (read_card ran.card).open' ran.table
      → (under role may_judge (judge_code P master ran.card reply) 22 ≡ 0) ↔ (part 15 32 reply ≡ fresh_token P book (read_card ran.card).open')
  judge-exactly role may opn reply formed carries =
      let j = judge-plain opn reply formed carries in
      let e = permitted role may_judge (judge_code P master ran.card reply) 22 may in
      (λ h. j.0 (sym e ∙ h), λ h. e ∙ j.1 h)

  host-plain : (buffer plan space totals' : List ℕ) (now : Moment) → draw_code P master ran.card buffer plan now ≡ 0 → length space ≡ 110 → length totals' ≡ 16
      → let message = draw_message P master ran.card buffer plan now in
      let bytes = bytes_of book.version book.blocks in
      let marks = marks_of book.version book.blocks in
      (prove_code P message bytes marks ran.table space totals' ≡ 0)
      × (judge_code P master (draw_card P master ran.card buffer plan now) (prove_reply P message bytes marks ran.table space totals') ≡ 0)
  host-plain buffer plan space totals' now h l w =
      let k : draw_code P book.key (card_bytes (book_card book)) buffer plan now ≡ 0 = ap₂ (λ (x y : List ℕ). draw_code P x y buffer plan now) key (sym card-left) ∙ h in
      let r = hosted P book good buffer plan now k space totals' l w in
      let m : draw_message P master ran.card buffer plan now ≡ draw_message P book.key (card_bytes (book_card book)) buffer plan now =
      ap₂ (λ (x y : List ℕ). draw_message P x y buffer plan now) (sym key) card-left in
      let c : draw_card P master ran.card buffer plan now ≡ draw_card P book.key (card_bytes (book_card book)) buffer plan now =
      ap₂ (λ (x y : List ℕ). draw_card P x y buffer plan now) (sym key) card-left in
      let bytes = bytes_of book.version book.blocks in
      let marks = marks_of book.version book.blocks in (
        ap₂ (λ (x y : List ℕ). prove_code P x bytes marks y space totals') m table-left ∙ r.0,
        ap₂ (λ (x y : List ℕ). judge_code P x y (prove_reply P (draw_message P master ran.card buffer plan now) bytes marks ran.table space totals')) (sym key) c
            ∙ ap₂ (λ (x y : List ℕ). judge_code P book.key (draw_card P book.key (card_bytes (book_card book)) buffer plan now)
            (prove_reply P x bytes marks y space totals')) m table-left
            ∙ r.1,
      )

  -- drawn and judged by roles that may: a draw that gives 0 was permitted
  pub host-accepted : (drawer judger : ℕ) → permits judger may_judge ≡ true → (buffer plan space totals' : List ℕ) (now : Moment)
      → under drawer may_draw (draw_code P master ran.card buffer plan now) 22 ≡ 0 → length space ≡ 110 → length totals' ≡ 16
      → let message = under drawer may_draw (draw_message P master ran.card buffer plan now) buffer in
      let drawn = under drawer may_draw (draw_card P master ran.card buffer plan now) ran.card in
      let bytes = bytes_of book.version book.blocks in
      let marks = marks_of book.version book.blocks in
      (prove_code P message bytes marks ran.table space totals' ≡ 0)
      × (under judger may_judge (judge_code P master drawn (prove_reply P message bytes marks ran.table space totals')) 22 ≡ 0)
  host-accepted drawer judger may buffer plan space totals' now h l w =
      let may₀ = zero-permitted drawer may_draw (draw_code P master ran.card buffer plan now) h in
      let k = sym (permitted drawer may_draw (draw_code P master ran.card buffer plan now) 22 may₀) ∙ h in
      let r = host-plain buffer plan space totals' now k l w in
      rw (
        permitted drawer may_draw (draw_message P master ran.card buffer plan now) buffer may₀,
        permitted drawer may_draw (draw_card P master ran.card buffer plan now) ran.card may₀,
      )
      (r.0, permitted judger may_judge _ 22 may ∙ r.1)
