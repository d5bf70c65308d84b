-- #108: "A one-step change, load or batch too, is ask and commit together", on any card, any table and any bytes handed over. Assumes nothing.
--   ask-exactly   an ask is accepted exactly where the change in one step is, the card is of version 3 and the second table is as long as the first
--   one-step      where the last two hold, both give the same number and totals; where it is 0, the second table is the table that the change writes, and a
--                 commit is accepted and leaves the card that the change leaves
--   read_asked    the card that an accepted ask leaves
--   read_dropped  and after its drop: as before the ask, but with one counter more issued
use Prim.Native.Nat.{ℕ, ◌+◌, ◌*◌, ◌<◌}
use native.Mathlib.Omega.{arith}
use mathlib.Core.Path.{◌≡◌, refl, sym, ◌∙◌}
use mathlib.Core.Logic.{◌↔◌}
use mathlib.Core.List.{List, [], ◌∷◌, ◌++◌}
use mathlib.Core.Bool.{Bool, true, false, ◌&&◌}
use borrow.Author.Tests.{eqb-true, eq-eqb, lt-ltb}
use lib.ListN.{length}
use lib.Dec.{eqb}
use Rattle.scheme.specs.Checks.{first}
use Rattle.scheme.specs.Primitives.{Primitives}
use Rattle.scheme.specs.Records.{Card, card_bytes, read_card, card_fits, card_sized, card_head}
use Rattle.scheme.specs.Changes.{Change, late_checks, blocks_after, asked_card, dropped_card, changed_card, unused_bad, change_code, change_card, change_table, change_totals}
use Rattle.scheme.specs.Asks.{settle_code, commit_card, drop_card, ask_checks, ask_code, ask_card, ask_second, ask_totals}
use Rattle.scheme.proofs.laws.CheckLaws.{plain-codes, checks-held, passed, passed-all, both}
use Rattle.scheme.proofs.laws.RecordLaws.{card-sized, card-head}
use Rattle.scheme.proofs.laws.LimitLaws.{card-asks}
use Rattle.scheme.proofs.laws.CardLaws.{InOrder, order-back, asked-order, dropped-order}
use Rattle.scheme.proofs.laws.CallLaws.{late-plain, Changed, ask-has}
use Rattle.scheme.proofs.laws.ResealLaws.{blocks-fit}

-- a card with one counter more issued
unfoldable pub issued_more : Card → Card
issued_more c = record {
  version = c.version;
  id = c.id;
  B = c.B;
  d = c.d;
  r = c.r;
  t = c.t;
  n = c.n;
  ctr = c.ctr;
  next = c.next;
  open' = c.open';
  last = c.last + 1;
  pending = c.pending;
  count = c.count;
}

-- a list of checks with one test more, and one more in a check, where both hold
two-more : (a h v f s : Bool) (rest : List (Bool × ℕ)) → v ≡ true → s ≡ true
    → first 0 ((a, 1) ∷ (h && v, 2) ∷ (f, 3) ∷ (s, 1) ∷ rest) ≡ first 0 ((a, 1) ∷ (h, 2) ∷ (f, 3) ∷ rest)
unfolding first
two-more a true v f s rest e g = rw (e, g)
two-more a false v f s rest e g = refl

module _ (P : Primitives) (master card table second : List ℕ) (change : Change) (totals : List ℕ) where
  abbrev c : Card
  c = read_card card

  abbrev n : ℕ
  n = blocks_after c change

  -- what an accepted ask leaves
  module _ (ok : ask_code P master card table second change totals ≡ 0) where
    has : Changed P master c table change
    has = (ask-has P master card table second change totals ok).0

    ordered : InOrder (asked_card c n)
    ordered =
        let fit = blocks-fit P master c table change has in
        asked-order c has.order n fit.0 fit.1 has.room (ask-has P master card table second change totals ok).1 has.closed

    pub read_asked : read_card (ask_card P master card table second change totals) ≡ asked_card (read_card card) (blocks_after (read_card card) change)
    unfolding ask_card
    read_asked = rw ok (order-back (asked_card c n) ordered)

    pending-some : 0 < (asked_card c n).pending
    unfolding asked_card
    pending-some = omega arith

    settles : settle_code (card_bytes (asked_card c n)) ≡ 0
    unfolding settle_code
    settles =
        rw (order-back (asked_card c n) ordered)
        (passed _ _ (card-sized (asked_card c n) ordered.id8)
        (passed _ _ (card-head (asked_card c n) ordered.id8 ordered.ver)
        (passed _ _ ordered.fits
        (passed _ _ (lt-ltb 0 (asked_card c n).pending pending-some) passed-all))))

    -- "even after a drop": the counter that the ask took stays issued
    pub read_dropped : read_card (drop_card (ask_card P master card table second change totals)) ≡ issued_more (read_card card)
    unfolding drop_card ask_card issued_more
    read_dropped =
        let idle = has.idle in
        let none : c.count ≡ 0 = (card-asks c has.order.fits).idle idle in
        rw (ok, settles, order-back (asked_card c n) ordered, order-back (dropped_card (asked_card c n)) (dropped-order (asked_card c n) ordered), idle, none)
        (unfold dropped_card asked_card in refl)

  pub record OneStep : Type 0 where
    pub number : ask_code P master card table second change totals ≡ change_code P master card table change totals
    pub totals' : ask_totals P master card table second change totals ≡ change_totals P master card table change totals
    pub table' : change_code P master card table change totals ≡ 0 → ask_second P master card table second change totals ≡ change_table P master card table change totals
    pub commits : change_code P master card table change totals ≡ 0 → settle_code (ask_card P master card table second change totals) ≡ 0
    pub card' : change_code P master card table change totals ≡ 0 → commit_card (ask_card P master card table second change totals) ≡ change_card P master card table change totals

  module _ (three : (read_card card).version ≡ 3) (long : length second ≡ (read_card card).t * 63) where
    same_number : ask_code P master card table second change totals ≡ change_code P master card table change totals
    unfolding ask_code change_code
    same_number =
        let bad = unused_bad P master c table in
        two-more (eqb (length master) 32 && card_sized card && eqb (length totals) 16) (card_head card) (eqb c.version 3) (card_fits c) (eqb (length second) (c.t * 63))
        (late_checks c table change ++ (eqb bad 0, 7 + 256 * bad) ∷ []) (eq-eqb c.version 3 three) (eq-eqb (length second) (c.t * 63) long)

    pub one-step : OneStep
    one-step = record {
      number = same_number;
      totals' = unfold ask_totals change_totals in rw same_number;
      table' = λ e. unfold ask_second change_table in rw (same_number, e);
      commits = λ e. unfold ask_card in rw (same_number, e) (settles (same_number ∙ e));
      card' = λ e. unfold commit_card ask_card change_card changed_card in rw (same_number, e, settles (same_number ∙ e), order-back (asked_card c n) (ordered (same_number ∙ e)));
    }

  -- "Only version 3 takes asks"
  asked-three : ask_code P master card table second change totals ≡ 0 → ((read_card card).version ≡ 3) × (length second ≡ (read_card card).t * 63)
  unfolding ask_code
  asked-three ok =
      let checks = ask_checks P master card table second change totals in
      let p = (checks-held checks _ (plain-codes checks (late-plain c table change)) ok).0 in
      (eqb-true c.version 3 (both (card_head card) (eqb c.version 3) p.1.0).1, eqb-true (length second) (c.t * 63) p.1.1.1.0)

  pub ask-exactly : (ask_code P master card table second change totals ≡ 0)
      ↔ ((change_code P master card table change totals ≡ 0) × ((read_card card).version ≡ 3) × (length second ≡ (read_card card).t * 63))
  ask-exactly = (accepted, λ h. same_number h.1 h.2 ∙ h.0)
    where
      accepted : ask_code P master card table second change totals ≡ 0
          → (change_code P master card table change totals ≡ 0) × ((read_card card).version ≡ 3) × (length second ≡ (read_card card).t * 63)
      accepted ok = let p = asked-three ok in (sym (same_number p.0 p.1) ∙ ok, p.0, p.1)
