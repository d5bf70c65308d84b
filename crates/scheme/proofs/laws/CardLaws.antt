-- Cards in order, which pass 1, 2 and 3: they come back from their bytes, and calls leave them in order. Assumes nothing.
--   sized-id, head-sized           a card of either size has an id; one whose head is right has the size of its version
--   InOrder, read-order            a card in order; one whose bytes pass the tests is
--   order-back                     it comes back from its bytes
--   asked-order, changed-order     the card while a change is pending, and after one
--   committed-order, dropped-order, turned-order, closed-order   after a commit, a drop, a draw or a judgement
use Prim.Native.Nat.{ℕ, zero, suc, ◌+◌, ◌-◌, ◌≤◌, ◌<◌}
use native.Mathlib.Omega.{arith}
use mathlib.Core.Path.{◌≡◌, refl, sym, ◌∙◌}
use mathlib.Core.List.{List}
use mathlib.Core.Bool.{Bool, true, false, cond, ◌&&◌, ◌||◌, false≢true}
use borrow.Author.Tests.{eqb-true}
use lib.ListN.{length, get_or}
use lib.Dec.{eqb}
use Rattle.octets.specs.Octets.{of_be, part}
use Rattle.octets.proofs.PartLaws.{length_part}
use Rattle.scheme.specs.Marks.{version_fits}
use Rattle.scheme.specs.Records.{Card, card_bytes, read_card, card_fits, head_known, card_length, card_sized, card_head}
use Rattle.scheme.specs.Changes.{asked_card, committed_card, dropped_card, changed_card}
use Rattle.scheme.specs.Calls.{turned_card}
use Rattle.scheme.proofs.laws.CheckLaws.{both}
use Rattle.scheme.proofs.laws.RecordLaws.{card-back}
use Rattle.scheme.proofs.laws.LimitLaws.{Limits, card-limits, limits-card, Asking, card-asks, asks_none, asks-some, limits-small, read_plain}

pub record InOrder (c : Card) : Type 0 where
  pub id8 : length c.id ≡ 8
  pub ver : version_fits c.version ≡ true
  pub fits : card_fits c ≡ true
  pub plain : eqb c.version 3 ≡ false → (c.last ≡ c.ctr) × (c.pending ≡ 0) × (c.count ≡ 0)

-- a card of either size has an id
pub sized-id : (card : List ℕ) → card_sized card ≡ true → length (read_card card).id ≡ 8
unfolding card_sized read_card
sized-id card h = length_part 3 8 card (go (eqb (length card) 43) refl h)
  where
    go : (b : Bool) → eqb (length card) 43 ≡ b → b || eqb (length card) 63 ≡ true → 3 + 8 ≤ length card
    go true e k = omega (arith, eqb-true (length card) 43 e)
    go false e k = omega (arith, eqb-true (length card) 63 k)

-- and, its head being right, a version that there is
head-version : (card : List ℕ) → card_head card ≡ true → version_fits (read_card card).version ≡ true
unfolding card_head head_known read_card
head-version card h =
    let v = get_or card 2 0 in
    let p = both (eqb (of_be (part 0 2 card)) (card_length v) && version_fits v) (eqb (length card) (2 + card_length v)) h in
    (both (eqb (of_be (part 0 2 card)) (card_length v)) (version_fits v) p.0).1

pub head-sized : (card : List ℕ) → card_head card ≡ true → (card_sized card ≡ true) × (length card ≡ 2 + card_length (get_or card 2 0))
unfolding card_head card_sized card_length
head-sized card h =
    let v = get_or card 2 0 in
    let l = eqb-true (length card) (2 + card_length v) (both (head_known (card_length v) card) (eqb (length card) (2 + card_length v)) h).1 in
    (rw l (go (eqb v 3)), l)
  where
    go : (b : Bool) → (eqb (2 + cond b 61 41) 43 || eqb (2 + cond b 61 41) 63) ≡ true
    go true = refl
    go false = refl

pub read-order : (card : List ℕ) → card_sized card ≡ true → card_head card ≡ true → card_fits (read_card card) ≡ true → InOrder (read_card card)
read-order card s h f = record { id8 = sized-id card s; ver = head-version card h; fits = f; plain = read_plain card }

pub order-back : (c : Card) → InOrder c → read_card (card_bytes c) ≡ c
order-back c o = card-back c (limits-small c o.id8 (card-limits c o.fits) (card-asks c o.fits) o.plain)

module _ (c : Card) (o : InOrder c) where
  limits : Limits c.B c.d c.r c.t c.n c.ctr c.next c.open'
  limits = card-limits c o.fits

  asks : Asking c
  asks = card-asks c o.fits

  -- the limits with other blocks and another counter
  limits-on : (n ctr : ℕ) → c.n ≤ n → n ≤ 16777216 → ctr ≤ 4294967295 → Limits c.B c.d c.r c.t n ctr c.next c.open'
  limits-on n ctr more most room = record {
    shape = limits.shape;
    t1 = limits.t1;
    tmost = limits.tmost;
    n1 = omega (arith, limits.n1);
    nmost = most;
    ctrmost = room;
    next1 = limits.next1;
    nextmost = limits.nextmost;
    last = limits.last;
  }

  module _ (n : ℕ) (more : c.n ≤ n) (most : n ≤ 16777216) (room : c.last < 4294967295) where
    pub asked-order : eqb c.version 3 ≡ true → c.open' ≡ 0 → InOrder (asked_card c n)
    asked-order v closed = record {
      id8 = unfold asked_card in o.id8;
      ver = unfold asked_card in o.ver;
      fits =
          limits-card (asked_card c n) (unfold asked_card in limits)
          (asks-some (asked_card c n) (unfold asked_card in omega (arith, asks.low)) (unfold asked_card in omega arith) (unfold asked_card in refl)
          (unfold asked_card in more) (unfold asked_card in most) (unfold asked_card in closed));
      plain = unfold asked_card in λ e. absurd (false≢true (sym e ∙ v));
    }

    pub changed-order : InOrder (changed_card c n)
    changed-order = record {
      id8 = unfold changed_card committed_card asked_card in o.id8;
      ver = unfold changed_card committed_card asked_card in o.ver;
      fits =
          limits-card (changed_card c n) (unfold changed_card committed_card asked_card in limits-on n (c.last + 1) more most (omega arith))
          (asks_none (changed_card c n) (unfold changed_card committed_card asked_card in omega arith) (unfold changed_card committed_card asked_card in omega arith)
          (unfold changed_card committed_card asked_card in refl) (unfold changed_card committed_card asked_card in refl));
      plain = unfold changed_card committed_card asked_card in λ e. (refl, refl, refl);
    }

  pub committed-order : 1 ≤ c.pending → InOrder (committed_card c)
  committed-order p =
      let busy = asks.busy p in
      let room : c.pending ≤ 4294967295 = omega (arith, asks.pend, asks.most) in
      record {
        id8 = unfold committed_card in o.id8;
        ver = unfold committed_card in o.ver;
        fits =
            limits-card (committed_card c) (unfold committed_card in limits-on c.count c.pending busy.2 asks.countmost room)
            (asks_none (committed_card c) (unfold committed_card in asks.pend) (unfold committed_card in asks.most) (unfold committed_card in refl) (unfold committed_card in refl));
        plain = unfold committed_card in λ e. (sym busy.0, refl, refl);
      }

  pub dropped-order : InOrder (dropped_card c)
  dropped-order = record {
    id8 = unfold dropped_card in o.id8;
    ver = unfold dropped_card in o.ver;
    fits =
        limits-card (dropped_card c) (unfold dropped_card in limits)
        (asks_none (dropped_card c) (unfold dropped_card in asks.low) (unfold dropped_card in asks.most) (unfold dropped_card in refl) (unfold dropped_card in refl));
    plain = unfold dropped_card in λ e. ((o.plain e).0, refl, refl);
  }

  pub turned-order : (next opn : ℕ) → c.pending ≡ 0 → 1 ≤ next → next ≤ c.t + 1 → (eqb opn 0 || eqb opn (next - 1)) ≡ true → InOrder (turned_card c next opn)
  turned-order next opn idle low high last = record {
    id8 = unfold turned_card in o.id8;
    ver = unfold turned_card in o.ver;
    fits =
        limits-card (turned_card c next opn) (unfold turned_card in turned)
        (asks_none (turned_card c next opn) (unfold turned_card in asks.low) (unfold turned_card in asks.most) (unfold turned_card in idle) (unfold turned_card in asks.idle idle));
    plain = unfold turned_card in o.plain;
  }
    where
      turned : Limits c.B c.d c.r c.t c.n c.ctr next opn
      turned = record {
        shape = limits.shape;
        t1 = limits.t1;
        tmost = limits.tmost;
        n1 = limits.n1;
        nmost = limits.nmost;
        ctrmost = limits.ctrmost;
        next1 = low;
        nextmost = high;
        last = last;
      }

  -- a card with a token open has nothing pending, so its draw may be closed
  pub closed-order : 1 ≤ c.open' → InOrder (turned_card c c.next 0)
  closed-order h = turned-order c.next 0 (idle c.pending refl) limits.next1 limits.nextmost refl
    where
      idle : (n : ℕ) → c.pending ≡ n → c.pending ≡ 0
      idle zero e = e
      idle (suc n) e = absurd (omega (arith, h, (asks.busy (omega arith)).3))
