-- "7 never comes up": no call on the card and table of a book gives code 7. Assumes nothing.
--   fine   the code of a call is not 7
use Prim.Native.Nat.{ℕ, zero, suc}
use native.Mathlib.Omega.{arith}
use native.Mathlib.Decide.{ℕ_discrete}
use mathlib.Core.Path.{◌≡◌, refl, sym, ap, ◌∙◌, subst}
use mathlib.Core.Logic.{◌≢◌}
use mathlib.Core.List.{List, [], ◌++◌}
use mathlib.Core.Bool.{Bool, true, false, cond}
use borrow.Author.Tests.{ne_eqb}
use lib.ListN.{length}
use lib.Dec.{eqb}
use Rattle.scheme.specs.Checks.{first, if_zero}
use Rattle.scheme.specs.Primitives.{Primitives}
use Rattle.scheme.specs.Records.{Card, card_bytes, read_card}
use Rattle.scheme.specs.Judging.{cause_number, cause, verdict_of, verdict}
use Rattle.scheme.specs.Changes.{Change, unused_bad, change_checks, change_code}
use Rattle.scheme.specs.Calls.{Moment, draw_early, draw_late, draw_code, judge_checks, judge_fault, judge_code}
use Rattle.scheme.specs.Asks.{ask_checks, ask_code, settle_checks, settle_code}
use Rattle.scheme.specs.Pools.{read_all, cut, pool_fault, pool_fits, pool_verdict, pool_code, pooled}
use Rattle.scheme.specs.Roles.{permits, under}
use Rattle.scheme.specs.Runs.{Call, change, ask, commit, drop_ask, draw, judge, pool, call_permission, Lent, call_code, lent_code}
use Rattle.scheme.specs.Book.{Book, book_card, book_table}
use Rattle.scheme.proofs.laws.CheckLaws.{Fine, fine-pass, fine-part, fine_end}
use Rattle.scheme.proofs.laws.CallLaws.{late-plain}
use Rattle.scheme.proofs.laws.PoolLaws.{fine-pool}
use Rattle.scheme.proofs.laws.BookLaws.{Good, back, sound}

-- a verdict
two : (t : Bool) → Fine (cond t 0 11)
two true = omega arith
two false = omega arith

-- a pooled judgement
fine-pooled : (P : Primitives) (master cards reply : List ℕ) → Fine (pool_code P master cards reply)
unfolding pool_code pool_verdict
fine-pooled P master cards reply = go (pool_fault master cards) (fine-pool master cards)
  where
    go : (n : ℕ) → Fine n → Fine (if_zero n (pool_verdict P master (read_all (cut cards)) reply) n)
    go zero f = two (pool_fits P master (read_all (cut cards)) reply)
    go (suc n) f = f

module _ (P : Primitives) (b : Book) (g : Good P b) where
  -- a change lent the key finds every unused record sound
  none-bad : unused_bad P b.key (read_card (card_bytes (book_card b))) (book_table P b) ≡ 0
  none-bad = ap (λ (c : Card). unused_bad P b.key c (book_table P b)) (back P b g) ∙ sound P b g

  fine-key : (ch : Change) (totals : List ℕ) → Fine (change_code P b.key (card_bytes (book_card b)) (book_table P b) ch totals)
  unfolding change_code
  fine-key ch totals =
      rw none-bad
      (fine-part (change_checks P b.key (card_bytes (book_card b)) (book_table P b) ch totals) _ (late-plain (read_card (card_bytes (book_card b))) (book_table P b) ch)
      (fine-pass _ _ refl fine_end))

  fine-key-ask : (ch : Change) (second totals : List ℕ) → Fine (ask_code P b.key (card_bytes (book_card b)) (book_table P b) second ch totals)
  unfolding ask_code
  fine-key-ask ch second totals =
      rw none-bad
      (fine-part (ask_checks P b.key (card_bytes (book_card b)) (book_table P b) second ch totals) _ (late-plain (read_card (card_bytes (book_card b))) (book_table P b) ch)
      (fine-pass _ _ refl fine_end))

  -- one lent a master of another length gives 1
  module _ (master : List ℕ) where
    fine-other : (ch : Change) (totals : List ℕ) → length master ≢ 32 → Fine (change_code P master (card_bytes (book_card b)) (book_table P b) ch totals)
    unfolding change_code first
    fine-other ch totals h = rw (ne_eqb (length master) 32 h) (omega arith)

    fine-other-ask : (ch : Change) (second totals : List ℕ) → length master ≢ 32 → Fine (ask_code P master (card_bytes (book_card b)) (book_table P b) second ch totals)
    unfolding ask_code first
    fine-other-ask ch second totals h = rw (ne_eqb (length master) 32 h) (omega arith)

    -- either way
    by_length : (f : List ℕ → ℕ) → (length master ≡ 32 → master ≡ b.key) → Fine (f b.key) → (length master ≢ 32 → Fine (f master)) → Fine (f master)
    by_length f k own other = go (ℕ_discrete (length master) 32)
      where
        go : Dec (length master ≡ 32) → Fine (f master)
        go (yes l) = subst (λ (y : List ℕ). Fine (f y)) (sym (k l)) own
        go (no n) = other n

  fine-settle : Fine (settle_code (card_bytes (book_card b)))
  unfolding settle_code
  fine-settle = fine-part (settle_checks (card_bytes (book_card b))) [] refl fine_end

  fine-draw : (master message plan : List ℕ) (now : Moment) → Fine (draw_code P master (card_bytes (book_card b)) message plan now)
  unfolding draw_code
  fine-draw master message plan now =
      let card = card_bytes (book_card b) in
      fine-part (draw_early P master card message plan now ++ draw_late P (read_card card) plan now) [] refl fine_end

  fine-fault : (master : List ℕ) → Fine (judge_fault P master (card_bytes (book_card b)))
  unfolding judge_fault
  fine-fault master = fine-part (judge_checks P master (card_bytes (book_card b))) [] refl fine_end

  fine-judge : (master reply : List ℕ) → Fine (judge_code P master (card_bytes (book_card b)) reply)
  unfolding judge_code verdict verdict_of
  fine-judge master reply = go (judge_fault P master (card_bytes (book_card b))) (fine-fault master)
    where
      go : (n : ℕ) → Fine n → Fine (if_zero n (verdict P master (read_card (card_bytes (book_card b))) reply) n)
      go zero f = two (eqb (cause_number (cause P master (read_card (card_bytes (book_card b))) reply)) 0)
      go (suc n) f = f

  fine-call : (master : List ℕ) (x : Call) → (length master ≡ 32 → master ≡ b.key) → Fine (call_code P master x (card_bytes (book_card b)) (book_table P b))
  fine-call master (change ch totals) k =
      by_length master (λ m. change_code P m (card_bytes (book_card b)) (book_table P b) ch totals) k (fine-key ch totals) (fine-other master ch totals)
  fine-call master (ask ch second totals) k =
      by_length master (λ m. ask_code P m (card_bytes (book_card b)) (book_table P b) second ch totals) k (fine-key-ask ch second totals) (fine-other-ask master ch second totals)
  fine-call master commit k = fine-settle
  fine-call master drop_ask k = fine-settle
  fine-call master (draw message plan now) k = fine-draw master message plan now
  fine-call master (judge reply) k = fine-judge master reply
  fine-call master (pool before behind reply) k = fine-pooled P master (pooled before (card_bytes (book_card b)) behind) reply

  -- under its role a call gives the same, or 22
  pub fine : (x : Lent) → (length x.master ≡ 32 → x.master ≡ b.key) → Fine (lent_code P x (card_bytes (book_card b)) (book_table P b))
  unfolding under
  fine x k = go (permits x.role (call_permission x.call))
    where
      go : (may : Bool) → Fine (cond may (call_code P x.master x.call (card_bytes (book_card b)) (book_table P b)) 22)
      go true = fine-call x.master x.call k
      go false = omega arith
