-- #108: "Every ask takes the last issued plus 1, even after a drop, because a nonce may seal only once". Of any list of calls on any card and tables, whatever
-- masters and bytes are lent; the cards of a pooled judgement are as long as their length fields tell. Assumes nothing.
--   sealed-under   an accepted change seals every unused record under the last issued plus 1 and its own number, and an ask writes what the change would
--   seals-rise     the counters that accepted changes and asks take rise, from the last issued on the card at the start
--   seals-once     after an accepted set-up no pair of counter and token number seals twice, the records of the set-up included
use Prim.Native.Nat.{ℕ, zero, suc, ◌+◌, ◌*◌, ◌-◌, ◌≤◌, ◌<◌}
use native.Mathlib.Omega.{arith}
use native.Mathlib.Decide.{ℕ_discrete}
use mathlib.Core.Path.{◌≡◌, refl, sym, ap, ◌∙◌, subst}
use mathlib.Core.Logic.{◌⊎◌, inl, inr}
use mathlib.Core.List.{List, [], ◌∷◌, ◌++◌, append_assoc}
use mathlib.Core.Bool.{Bool, true, false, or-true}
use borrow.Author.Tests.{eq-eqb}
use lib.ListN.{length, length-append}
use lib.Dec.{eqb}
use Rattle.octets.specs.Octets.{of_be, part}
use Rattle.scheme.specs.Checks.{if_zero}
use Rattle.scheme.specs.Lists.{joined, pieces, records_from}
use Rattle.scheme.specs.Primitives.{Primitives}
use Rattle.scheme.specs.Marks.{live, alike}
use Rattle.scheme.specs.Records.{Card, card_bytes, read_card, record_at}
use Rattle.scheme.specs.Tokens.{key_k, token}
use Rattle.scheme.specs.Table.{sealed_record, resealed_record}
use Rattle.scheme.specs.Changes.{Change, asked_card, committed_card, dropped_card, changed_card, change_code, change_card, change_table}
use Rattle.scheme.specs.Calls.{set_up_code, set_up_card, set_up_table, turned_card, Moment, draw_code, draw_card, judge_fault, judge_card}
use Rattle.scheme.specs.Asks.{settle_code, commit_card, drop_card, ask_code, ask_card}
use Rattle.scheme.specs.Pools.{cut, closed_all, pool_fault, pool_cards, pooled, OwnLengths}
use Rattle.scheme.specs.Roles.{permits, under}
use Rattle.scheme.specs.Runs.{Call, change, ask, commit, drop_ask, draw, judge, pool, call_permission, Lent, call_card, lent_code, lent_card, lent_table, lent_asked}
use Rattle.scheme.specs.Book.{started, book_card}
use Rattle.scheme.specs.Nonces.{Rising, nonces_from, unused_nonces, Missing, Once, OwnLength, OtherLengthsIn, OtherLengths, PlacedIn, Placed, takes, writes, taken, sealed, counters, seals}
use Rattle.scheme.proofs.laws.TokenLaws.{length-digest}
use Rattle.scheme.proofs.laws.RecordLaws.{sealed-ctr, sealed-i, record-long, record-at}
use Rattle.scheme.proofs.laws.LimitLaws.{card-limits}
use Rattle.scheme.proofs.laws.CardLaws.{InOrder, order-back, committed-order, dropped-order, turned-order, closed-order}
use Rattle.scheme.proofs.laws.PoolLaws.{card-told, own-part, own-order, own-closed}
use Rattle.scheme.proofs.laws.CallLaws.{set-up-has, change-has, draw-has, judge-has, settle-has}
use Rattle.scheme.proofs.laws.ResealLaws.{record-changed, card-changed}
use Rattle.scheme.proofs.laws.BookLaws.{back}
use Rattle.scheme.proofs.theorems.ListTheorem.{start-good, start-card}
use Rattle.scheme.proofs.theorems.AskTheorem.{ask-exactly, one-step, read_asked}

-- one counter with token numbers in their order
unfoldable pairs_from : ℕ → ℕ → ℕ → List (ℕ × ℕ)
pairs_from k zero i = []
pairs_from k (suc m) i = (k, i) ∷ pairs_from k m (i + 1)

nonces-are : (k m i : ℕ) (table : List ℕ)
    → ((j : ℕ) → i ≤ j → j < i + m → (of_be (part 3 8 (record_at j table)) ≡ k) × (of_be (part 11 4 (record_at j table)) ≡ j)) → nonces_from m i table ≡ pairs_from k m i
unfolding nonces_from pairs_from
nonces-are k zero i table h = refl
nonces-are k (suc m) i table h =
    let here = h i (omega arith) (omega arith) in
    rw (here.0, here.1, nonces-are k m (i + 1) table (λ j l u. h j (omega arith) (omega arith)))

-- every counter is above m
abbrev Above : ℕ → List (ℕ × ℕ) → Type 0
Above m [] = Unit {0}
Above m (q ∷ qs) = (m < q.0) × Above m qs

above-less : (l k : ℕ) (qs : List (ℕ × ℕ)) → l < k → Above k qs → Above l qs
above-less l k [] h a = tt
above-less l k (q ∷ qs) h a = (omega (arith, a.0), above-less l k qs h a.1)

above_more : (l k m i : ℕ) (qs : List (ℕ × ℕ)) → l < k → Above k qs → Above l (pairs_from k m i ++ qs)
unfolding pairs_from
above_more l k zero i qs h a = above-less l k qs h a
above_more l k (suc m) i qs h a = (h, above_more l k m (i + 1) qs h a)

missing-above : (k i : ℕ) (qs : List (ℕ × ℕ)) → Above k qs → Missing (k, i) qs
missing-above k i [] a = tt
missing-above k i (q ∷ qs) a = ((λ e. omega (arith, a.0, ap (λ (p : ℕ × ℕ). p.0) e)), missing-above k i qs a.1)

missing-more : (k m i j : ℕ) (qs : List (ℕ × ℕ)) → j < i → Above k qs → Missing (k, j) (pairs_from k m i ++ qs)
unfolding pairs_from
missing-more k zero i j qs h a = missing-above k j qs a
missing-more k (suc m) i j qs h a = ((λ e. omega (arith, ap (λ (p : ℕ × ℕ). p.1) e)), missing-more k m (i + 1) j qs (omega arith) a)

once_more : (k m i : ℕ) (qs : List (ℕ × ℕ)) → Above k qs → Once qs → Once (pairs_from k m i ++ qs)
unfolding pairs_from
once_more k zero i qs a o = o
once_more k (suc m) i qs a o = (missing-more k m (i + 1) i qs (omega arith) a, once_more k m (i + 1) qs a o)

-- a card written or left: no other last issued, and as long as its length field tells where it was
record Same (card card' : List ℕ) : Type 0 where
  last : (read_card card').last ≡ (read_card card).last
  own : OwnLength card → OwnLength card'

same-last : (n : ℕ) (c : Card) (card : List ℕ) → (n ≡ 0 → InOrder c) → c.last ≡ (read_card card).last → Same card (if_zero n (card_bytes c) card)
same-last zero c card o e = record { last = ap (λ (x : Card). x.last) (order-back c (o refl)) ∙ e; own = λ l. card-told c (o refl).id8 }
same-last (suc n) c card o e = record { last = refl; own = λ l. l }

nothing : {A : Type 0} (n : ℕ) → if_zero {A = List A} n [] [] ≡ []
nothing zero = refl
nothing (suc n) = refl

module _ (P : Primitives) where
  -- an accepted change seals unused record i under the last issued plus 1 and i: such is the nonce of a sealed record
  module _ (master card table : List ℕ) (ch : Change) (totals : List ℕ) (ok : change_code P master card table ch totals ≡ 0) where
    pub sealed-under : (i : ℕ) → (read_card card).next ≤ i → i ≤ (read_card card).t
        → (x : List ℕ) × (record_at i (change_table P master card table ch totals)
        ≡ sealed_record P (key_k P master (read_card card).id) (read_card card).version ((read_card card).last + 1) i x)
    unfolding resealed_record
    sealed-under i h l = (_, record-changed P master card table ch totals ok i h l)

    change-nonces : unused_nonces (read_card card) (change_table P master card table ch totals)
        ≡ pairs_from ((read_card card).last + 1) ((read_card card).t + 1 - (read_card card).next) (read_card card).next
    change-nonces =
        let c = read_card card in
        let has = change-has P master card table ch totals ok in
        let limits = card-limits c has.order.fits in
        nonces-are (c.last + 1) (c.t + 1 - c.next) c.next (change_table P master card table ch totals)
        (λ j u v.
        let s = sealed-under j u (omega arith) in
        let key = key_k P master c.id in (
          rw s.1 (sealed-ctr P key c.version (c.last + 1) j s.0 (omega (arith, has.room))),
          rw s.1 (sealed-i P key c.version (c.last + 1) j s.0 (omega (arith, limits.tmost))),
        ))

    change-last : (read_card (change_card P master card table ch totals)).last ≡ (read_card card).last + 1
    change-last = rw (card-changed P master card table ch totals ok) (unfold changed_card committed_card asked_card in refl)

  -- what a call does to the last counter issued: nothing, or one step, and the records that it seals are under the new one
  record Still (x : Lent) (card table : List ℕ) : Type 0 where
    none-taken : taken P x card table ≡ []
    none-sealed : sealed P x card table ≡ []
    stays : (read_card (lent_card P x card table)).last ≡ (read_card card).last
    own : OwnLength card → OwnLength (lent_card P x card table)

  record Steps (x : Lent) (card table : List ℕ) (k : ℕ) : Type 0 where
    one-taken : taken P x card table ≡ k ∷ []
    all_under : sealed P x card table ≡ pairs_from k ((read_card card).t + 1 - (read_card card).next) (read_card card).next
    above : (read_card card).last < k
    rises : (read_card (lent_card P x card table)).last ≡ k
    own : OwnLength card → OwnLength (lent_card P x card table)

  module _ (role : ℕ) (master card table : List ℕ) where
    still : (x : Call) → permits role (call_permission x) ≡ true → Same card (call_card P master x card table) → takes P master x card table ≡ [] → writes P master x card table ≡ []
        → Still (record { role = role; master = master; call = x }) card table
    unfolding taken sealed under
    still x may e f g =
        let n = lent_code P (record { role = role; master = master; call = x }) card table in
        record { none-taken = rw f (nothing n); none-sealed = rw g (nothing n); stays = rw may e.last; own = rw may e.own }

    last-commit : Same card (commit_card card)
    unfolding commit_card
    last-commit =
        same-last (settle_code card) (committed_card (read_card card)) card
        (λ e. let h = settle-has card e in committed-order (read_card card) h.0 h.1) (unfold committed_card in refl)

    last-drop : Same card (drop_card card)
    unfolding drop_card
    last-drop = same-last (settle_code card) (dropped_card (read_card card)) card (λ e. dropped-order (read_card card) (settle-has card e).0) (unfold dropped_card in refl)

    last-draw : (message plan : List ℕ) (now : Moment) → Same card (draw_card P master card message plan now)
    unfolding draw_card
    last-draw message plan now = same-last (draw_code P master card message plan now) (turned_card c (c.next + 1) c.next) card drawn (unfold turned_card in refl)
      where
        c : Card
        c = read_card card

        drawn : draw_code P master card message plan now ≡ 0 → InOrder (turned_card c (c.next + 1) c.next)
        drawn e =
            let h = draw-has P master card message plan now e in
            let o : eqb c.next (c.next + 1 - 1) ≡ true = eq-eqb c.next (c.next + 1 - 1) (omega arith) in
            turned-order c h.order (c.next + 1) c.next h.idle (omega arith) (omega (arith, h.left)) (rw o (or-true (eqb c.next 0)))

    last-judge : (reply : List ℕ) → Same card (judge_card P master card reply)
    unfolding judge_card
    last-judge reply =
        let c = read_card card in
        same-last (judge_fault P master card) (turned_card c c.next 0) card
        (λ e. let h = judge-has P master card e in closed-order c h.order h.some-open) (unfold turned_card in refl)

    -- of a pooled judgement, what stands in the card's place
    last-pool : (before behind : List (List ℕ)) (reply : List ℕ) → OwnLengths before → OwnLength card → OwnLengths behind → Same card (call_card P master (pool before behind reply) card table)
    unfolding pool_cards
    last-pool before behind reply t long u = go (pool_fault master (pooled before card behind)) refl
      where
        go : (n : ℕ) → pool_fault master (pooled before card behind) ≡ n
            → Same card (part (length (joined before)) (length card) (if_zero n (closed_all (cut (pooled before card behind))) (pooled before card behind)))
        go zero e =
            let c = read_card card in
            let o = own-order before behind card t long u master e in
            rw (own-closed before behind card t long u master e)
            (same-last 0 (turned_card c c.next 0) card (λ z. closed-order c o.0 o.1) (unfold turned_card in refl))
        go (suc n) e = rw (own-part before behind card) (record { last = refl; own = λ l. l })

    change-own : (ch : Change) (totals : List ℕ) → change_code P master card table ch totals ≡ 0 → OwnLength (change_card P master card table ch totals)
    unfolding change_card changed_card committed_card asked_card
    change-own ch totals ok = rw ok (card-told _ (change-has P master card table ch totals ok).order.id8)

    ask-own : (ch : Change) (second totals : List ℕ) → ask_code P master card table second ch totals ≡ 0 → OwnLength (ask_card P master card table second ch totals)
    unfolding ask_card asked_card
    ask-own ch second totals ok = rw ok (card-told _ (change-has P master card table ch totals ((ask-exactly P master card table second ch totals).0 ok).0).order.id8)

    -- an accepted change, and an accepted ask, which writes what the change would
    change-steps : (ch : Change) (totals : List ℕ) → permits role (call_permission (change ch totals)) ≡ true → change_code P master card table ch totals ≡ 0
        → Steps (record { role = role; master = master; call = change ch totals }) card table ((read_card card).last + 1)
    unfolding taken sealed under
    change-steps ch totals may ok =
        let l = change-last master card table ch totals ok in
        record {
          one-taken = rw (may, ok, l);
          all_under = rw (may, ok) (change-nonces master card table ch totals ok);
          above = omega arith;
          rises = rw may l;
          own = λ l. rw may (change-own ch totals ok);
        }

    ask-steps : (ch : Change) (second totals : List ℕ) → permits role (call_permission (ask ch second totals)) ≡ true → ask_code P master card table second ch totals ≡ 0
        → Steps (record { role = role; master = master; call = ask ch second totals }) card table ((read_card card).last + 1)
    unfolding taken sealed under
    ask-steps ch second totals may ok =
        let h = (ask-exactly P master card table second ch totals).0 ok in
        let same = (one-step P master card table second ch totals h.1 h.2).table' h.0 in
        let l : (read_card (ask_card P master card table second ch totals)).last ≡ (read_card card).last + 1 =
        rw (read_asked P master card table second ch totals ok) (unfold asked_card in refl) in
        record {
          one-taken = rw (may, ok, l);
          all_under = rw (may, ok, same) (change-nonces master card table ch totals h.0);
          above = omega arith;
          rises = rw may l;
          own = λ l. rw may (ask-own ch second totals ok);
        }

    -- a refused one
    refused-change : (ch : Change) (totals : List ℕ) (n : ℕ) → permits role (call_permission (change ch totals)) ≡ true → change_code P master card table ch totals ≡ suc n → Still (record { role = role; master = master; call = change ch totals }) card table
    unfolding taken sealed change_card under
    refused-change ch totals n may e = record { none-taken = rw (may, e); none-sealed = rw (may, e); stays = rw (may, e); own = λ l. rw (may, e) l }

    refused-ask : (ch : Change) (second totals : List ℕ) (n : ℕ) → permits role (call_permission (ask ch second totals)) ≡ true → ask_code P master card table second ch totals ≡ suc n
        → Still (record { role = role; master = master; call = ask ch second totals }) card table
    unfolding taken sealed ask_card under
    refused-ask ch second totals n may e = record { none-taken = rw (may, e); none-sealed = rw (may, e); stays = rw (may, e); own = λ l. rw (may, e) l }

    -- one or the other, of a permitted call
    abbrev Either : Call → Type 0
    Either x = Still (record { role = role; master = master; call = x }) card table ⊎ Steps (record { role = role; master = master; call = x }) card table ((read_card card).last + 1)

    either : (x : Call) → PlacedIn x card → permits role (call_permission x) ≡ true → Either x
    either (change ch totals) t may = go (change_code P master card table ch totals) refl
      where
        go : (n : ℕ) → change_code P master card table ch totals ≡ n → Either (change ch totals)
        go zero e = inr (change-steps ch totals may e)
        go (suc n) e = inl (refused-change ch totals n may e)
    either (ask ch second totals) t may = go (ask_code P master card table second ch totals) refl
      where
        go : (n : ℕ) → ask_code P master card table second ch totals ≡ n → Either (ask ch second totals)
        go zero e = inr (ask-steps ch second totals may e)
        go (suc n) e = inl (refused-ask ch second totals n may e)
    either commit t may = inl (still commit may last-commit refl refl)
    either drop_ask t may = inl (still drop_ask may last-drop refl refl)
    either (draw message plan now) t may = inl (still (draw message plan now) may (last-draw message plan now) refl refl)
    either (judge reply) t may = inl (still (judge reply) may (last-judge reply) refl refl)
    either (pool before behind reply) t may = inl (still (pool before behind reply) may (last-pool before behind reply t.0 t.1 t.2) refl refl)

  abbrev card' : Lent → List ℕ → List ℕ → List ℕ
  card' x card table = lent_card P x card table

  module _ (x : Lent) (card table : List ℕ) (told : PlacedIn x.call card) where
    -- a call that is not permitted does nothing
    either-role : Still x card table ⊎ Steps x card table ((read_card card).last + 1)
    unfolding taken sealed under
    either-role = go (permits x.role (call_permission x.call)) refl
      where
        go : (may : Bool) → permits x.role (call_permission x.call) ≡ may → Still x card table ⊎ Steps x card table ((read_card card).last + 1)
        go true e = either x.role x.master card table x.call told e
        go false e = inl (record { none-taken = rw e; none-sealed = rw e; stays = rw e; own = λ l. rw e l })

    own-after : OwnLength card → OwnLength (card' x card table)
    own-after = go either-role
      where
        go : Still x card table ⊎ Steps x card table ((read_card card).last + 1) → OwnLength card → OwnLength (card' x card table)
        go (inl s) = s.own
        go (inr s) = s.own

    more-counters : (ms : List ℕ) → Rising (read_card (card' x card table)).last ms → Rising (read_card card).last (taken P x card table ++ ms)
    more-counters ms r = go either-role
      where
        go : Still x card table ⊎ Steps x card table ((read_card card).last + 1) → Rising (read_card card).last (taken P x card table ++ ms)
        go (inl s) = rw s.none-taken (subst (λ (n : ℕ). Rising n ms) s.stays r)
        go (inr s) = rw s.one-taken (s.above, subst (λ (n : ℕ). Rising n ms) s.rises r)

    more-seals : (qs : List (ℕ × ℕ)) → Above (read_card (card' x card table)).last qs → Once qs → Above (read_card card).last (sealed P x card table ++ qs) × Once (sealed P x card table ++ qs)
    more-seals qs a o = go either-role
      where
        c : Card
        c = read_card card

        go : Still x card table ⊎ Steps x card table (c.last + 1) → Above c.last (sealed P x card table ++ qs) × Once (sealed P x card table ++ qs)
        go (inl s) = rw s.none-sealed (subst (λ (n : ℕ). Above n qs) s.stays a, o)
        go (inr s) =
            let above = subst (λ (n : ℕ). Above n qs) s.rises a in
            rw s.all_under (
              above_more c.last (c.last + 1) (c.t + 1 - c.next) c.next qs s.above above,
              once_more (c.last + 1) (c.t + 1 - c.next) c.next qs above o,
            )

  -- "Every ask takes the last issued plus 1, even after a drop"
  pub seals-rise : (xs : List Lent) (card table asked : List ℕ) → Placed P xs card table asked → Rising (read_card card).last (counters P xs card table asked)
  unfolding counters
  seals-rise [] card table asked t = tt
  seals-rise (x ∷ xs) card table asked t =
      more-counters x card table t.0 _ (seals-rise xs (card' x card table) (lent_table P x card table asked) (lent_asked P x card table asked) t.1)

  seals-above : (xs : List Lent) (card table asked : List ℕ) → Placed P xs card table asked
      → Above (read_card card).last (seals P xs card table asked) × Once (seals P xs card table asked)
  unfolding seals
  seals-above [] card table asked t = (tt, tt)
  seals-above (x ∷ xs) card table asked t =
      let ih = seals-above xs (card' x card table) (lent_table P x card table asked) (lent_asked P x card table asked) t.1 in
      more-seals x card table t.0 _ ih.0 ih.1

  -- a card that was written stays as long as its length field tells, so it is enough that the other cards are
  placed-in : (x : Call) (card : List ℕ) → OwnLength card → OtherLengthsIn x → PlacedIn x card
  placed-in (change ch totals) card l t = tt
  placed-in (ask ch second totals) card l t = tt
  placed-in commit card l t = tt
  placed-in drop_ask card l t = tt
  placed-in (draw message plan now) card l t = tt
  placed-in (judge reply) card l t = tt
  placed-in (pool before behind reply) card l t = (t.0, l, t.1)

  placed : (xs : List Lent) (card table asked : List ℕ) → OwnLength card → OtherLengths xs → Placed P xs card table asked
  placed [] card table asked l t = tt
  placed (x ∷ xs) card table asked l t =
      let p = placed-in x.call card l t.0 in
      (p, placed xs (card' x card table) (lent_table P x card table asked) (lent_asked P x card table asked) (own-after x card table p l) t.1)

  -- a record among records one after the other
  records-at : (f : ℕ → List ℕ) → ((i : ℕ) → length (f i) ≡ 63) → (m i : ℕ) (p : List ℕ) → 1 ≤ i → length p ≡ (i - 1) * 63
      → (j : ℕ) → i ≤ j → j < i + m → record_at j (p ++ records_from f m i) ≡ f j
  unfolding records_from
  records-at f long zero i p l h j u v = absurd (omega arith)
  records-at f long (suc m) i p l h j u v =
      go (ℕ_discrete i j) (records-at f long m (i + 1) (p ++ f i) (omega arith) (omega (arith, length-append p (f i), long i)) j)
    where
      rest : List ℕ
      rest = records_from f m (i + 1)

      go : Dec (i ≡ j) → (i + 1 ≤ j → j < i + 1 + m → record_at j ((p ++ f i) ++ rest) ≡ f j) → record_at j (p ++ (f i ++ rest)) ≡ f j
      go (yes e) later = ap (λ (n : ℕ). record_at n (p ++ (f i ++ rest))) (sym e) ∙ record-at i p (f i) rest h (long i) ∙ ap f e
      go (no n) later = ap (record_at j) (sym (append_assoc p (f i) rest)) ∙ later (omega arith) (omega arith)

  module _ (master id : List ℕ) (v B d r t n : ℕ) (blocks card table totals : List ℕ) (ok : set_up_code P master id v B d r t n blocks card table totals ≡ 0) where
    -- set-up seals at counter 0
    start-nonces : nonces_from t 1 (set_up_table P master id v B d r t n blocks card table totals) ≡ pairs_from 0 t 1
    unfolding set_up_table token
    start-nonces = rw ok (nonces-are 0 t 1 (records_from f t 1) own)
      where
        f : ℕ → List ℕ
        f i = sealed_record P (key_k P master id) v 0 i (token P master id d r i (alike (live v) (pieces B n blocks)))

        long : (i : ℕ) → length (f i) ≡ 63
        long i = record-long P (key_k P master id) v 0 i _ (length-digest P _ _ _ _ _)

        own : (j : ℕ) → 1 ≤ j → j < 1 + t → (of_be (part 3 8 (record_at j (records_from f t 1))) ≡ 0) × (of_be (part 11 4 (record_at j (records_from f t 1))) ≡ j)
        own j l u =
            let e = records-at f long t 1 [] (omega arith) refl j l u in
            let has = set-up-has P master id v B d r t n blocks card table totals ok in (
              rw e (sealed-ctr P (key_k P master id) v 0 j _ (omega arith)),
              rw e (sealed-i P (key_k P master id) v 0 j _ (omega (arith, has.tmost))),
            )

    start-last : (read_card (set_up_card P master id v B d r t n blocks card table totals)).last ≡ 0
    start-last =
        let b = started master id v B d r t n blocks in
        ap (λ (c : Card). c.last)
        (ap read_card (start-card P master id v B d r t n blocks card table totals ok) ∙ back P b (start-good P master id v B d r t n blocks card table totals ok))
        ∙ (unfold book_card started in refl)

    -- "a nonce may seal only once"
    pub seals-once : (calls : List Lent) (asked : List ℕ) → OtherLengths calls
        → Once (nonces_from t 1 (set_up_table P master id v B d r t n blocks card table totals)
        ++ seals P calls (set_up_card P master id v B d r t n blocks card table totals) (set_up_table P master id v B d r t n blocks card table totals) asked)
    seals-once calls asked told =
        let card' = set_up_card P master id v B d r t n blocks card table totals in
        let table' = set_up_table P master id v B d r t n blocks card table totals in
        let b = started master id v B d r t n blocks in
        let g = start-good P master id v B d r t n blocks card table totals ok in
        let own : OwnLength card' = subst OwnLength (sym (start-card P master id v B d r t n blocks card table totals ok)) (card-told (book_card b) (unfold book_card in g.id8)) in
        let p = seals-above calls card' table' asked (placed calls card' table' asked own told) in
        rw start-nonces (once_more 0 t 1 (seals P calls card' table' asked) (subst (λ (m : ℕ). Above m (seals P calls card' table' asked)) start-last p.0) p.1)
