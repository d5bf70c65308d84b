-- Laws of the code of an ask and of what it leaves. Assumes nothing.
--   check-short, check-refused, check-of   the code of its checks: another buffer's length, the code of the card's head, the tests behind that
--   Asked, asked-has                       what an ask has whose checks pass
--   ask-early, ask-last                    the code of an ask from its checks and from its table
--   refusal-keeps, copied, ask-writes                     what an ask leaves that is turned away; the table copied; what it makes of card, second table and totals
--   asked-room                             the card while a change is pending can be written over the one before
use Prim.Native.Nat.{ℕ, ◌+◌, ◌*◌, ◌-◌, ◌<◌}
use native.Mathlib.Omega.{arith}
use mathlib.Core.Path.{◌≡◌, refl, sym, ap, ◌∙◌}
use mathlib.Core.List.{List, [], ◌∷◌}
use mathlib.Core.Bool.{Bool, true, false, cond, ◌&&◌}
use borrow.Author.Tests.{eqb-true}
use lib.Dec.{eqb}
use lib.ListN.{length}
use Rattle.octets.specs.Octets.{put}
use Rattle.octets.proofs.PartLaws.{put_whole}
use Rattle.scheme.specs.Checks.{first, if_zero}
use Rattle.scheme.specs.Records as S
use Rattle.scheme.specs.Changes.{Change, block_changes, blocks_after, asked_card, unused_bad, late_checks}
use Rattle.scheme.specs.Asks.{ask_checks, ask_code, ask_card, ask_second, ask_totals}
use Rattle.scheme.specs.Table.{reseal}
use Rattle.scheme.specs.Totals.{totals_bytes, change_turns, change_hashes}
use Rattle.scheme.proofs.laws.CheckLaws.{Codes, plain-codes, first-passed, both, refusal-kept, answer-written}
use Rattle.scheme.proofs.laws.CallLaws.{late-plain}
use Rattle.standard.specs.Standard.{standard}
use Rattle.records.proofs.FaultLaws.{first-swap-last, checks-other, checks-refused, checks-passed}
use Rattle.cards.specs.Fields.{card_of, head_fault, card_fault}
use Rattle.cards.specs.declared.Card.{Card}
use Rattle.cards.proofs.FaultLaws.{card-code, after-room}
use Rattle.changes.proofs.LateLaws.{Early, late-has, code-refused, code-last}

-- the first four checks: a of the other buffers, s and h of the card's size and head, v of its version, f of its limits, z of the second table
four : (a s h v f z : Bool) (rest : List (Bool × ℕ))
    → first 0 ((a && s, 1) ∷ (h && v, 2) ∷ (f, 3) ∷ (z, 1) ∷ rest)
    ≡ cond a (if_zero (first 0 ((s, 1) ∷ (h, 2) ∷ [])) (cond v (cond f (cond z (first 0 rest) 1) 3) 2) (first 0 ((s, 1) ∷ (h, 2) ∷ []))) 1
unfolding first
four false s h v f z rest = refl
four true false h v f z rest = refl
four true true false v f z rest = refl
four true true true v f z rest = refl

module _ (master card table second : List ℕ) (change : Change) (totals : List ℕ) where
  abbrev checks : List (Bool × ℕ)
  checks = ask_checks standard master card table second change totals

  abbrev lent : Bool
  lent = eqb (length master) 32 && eqb (length totals) 16

  abbrev bad : ℕ
  bad = unused_bad standard master (S.read_card card) table

  -- what is checked behind the card's head
  abbrev behind : S.Card → ℕ
  behind c = cond (eqb c.version 3) (cond (S.card_fits c) (cond (eqb (length second) (c.t * 63)) (first 0 (late_checks c table change)) 1) 3) 2

  whole : first 0 checks ≡ cond lent (if_zero (head_fault card) (behind (S.read_card card)) (head_fault card)) 1
  unfolding head_fault
  whole =
      let c = S.read_card card in
      first-swap-last (eqb (length master) 32) (S.card_sized card) (eqb (length totals) 16) 1 _
      ∙ four lent (S.card_sized card) (S.card_head card) (eqb c.version 3) (S.card_fits c) (eqb (length second) (c.t * 63)) (late_checks c table change)

  pub check-short : lent ≡ false → 1 ≡ first 0 checks
  check-short s = checks-other lent (head_fault card) (behind (S.read_card card)) whole s

  module _ (n : ℕ) (l : lent ≡ true) (e : n ≡ head_fault card) where
    pub check-refused : (n ≡ 0 → ⊥) → n ≡ first 0 checks
    check-refused s = checks-refused lent (head_fault card) (behind (S.read_card card)) whole n l e s

    -- `fits` is the test of the limits, m the code of the checks behind the card's
    pub check-of : {v f z fits : Bool} {m : ℕ} (c : Card) → n ≡ 0 → card_of c ≡ S.read_card card → eqb c.version 3 ≡ v → fits ≡ S.card_fits (card_of c) → fits ≡ f
        → eqb (length second) (c.tokens * 63) ≡ z → m ≡ first 0 (late_checks (card_of c) table change)
        → cond v (cond f (cond z m 1) 3) 2 ≡ first 0 checks
    unfolding card_of
    check-of {v} {f} {z} {fits} {m} c zero k e₁ g e₂ e₃ e₄ =
        let tail : behind (card_of c) ≡ cond v (cond f (cond z m 1) 3) 2 = rw (e₁, ← g, e₂, e₃, ← e₄) in
        sym (checks-passed lent (head_fault card) (behind (S.read_card card)) whole l (sym e ∙ zero)
        ∙ ap behind (sym k)
        ∙ tail)

  -- what an ask has whose checks pass; k is their code
  pub record Asked : Type 0 where
    pub early : Early master card table change totals
    pub room : length second ≡ (S.read_card card).t * 63

  pub asked-has : (k : ℕ) → k ≡ first 0 checks → k ≡ 0 → Asked
  asked-has k e zero =
      let c = S.read_card card in
      let p₁ = first-passed (eqb (length master) 32 && S.card_sized card && eqb (length totals) 16, 1) _ (omega arith) (sym e ∙ zero) in
      let p₂ = first-passed (S.card_head card && eqb c.version 3, 2) _ (omega arith) p₁.1 in
      let p₃ = first-passed (S.card_fits c, 3) _ (omega arith) p₂.1 in
      let p₄ = first-passed (eqb (length second) (c.t * 63), 1) _ (omega arith) p₃.1 in
      let q = both (eqb (length master) 32 && S.card_sized card) (eqb (length totals) 16) p₁.0 in
      let q₁ = both (eqb (length master) 32) (S.card_sized card) q.0 in
      let q₂ = both (S.card_head card) (eqb c.version 3) p₂.0 in
      record {
        early = record {
          key32 = eqb-true (length master) 32 q₁.0;
          counted = eqb-true (length totals) 16 q.1;
          fault = sym (card-code card q₁.1 q₂.0 p₃.0);
          late = late-has c table change p₄.1;
        };
        room = eqb-true (length second) (c.t * 63) p₄.0;
      }

  codes : Codes checks
  codes = plain-codes checks (late-plain (S.read_card card) table change)

  pub ask-early : (n : ℕ) → n ≡ first 0 checks → (n ≡ 0 → ⊥) → n ≡ ask_code standard master card table second change totals
  unfolding ask_code
  ask-early n e s = code-refused checks codes bad n e s

  pub ask-last : (k n : ℕ) → k ≡ first 0 checks → k ≡ 0 → n ≡ cond (eqb bad 0) 0 (7 + 256 * bad) → n ≡ ask_code standard master card table second change totals
  unfolding ask_code
  ask-last k n f z e = code-last checks codes bad n (sym f ∙ z) e

  -- an ask that is turned away leaves card, second table and totals
  pub refusal-keeps : (n : ℕ) → n ≡ ask_code standard master card table second change totals → (n ≡ 0 → ⊥)
      → (n ≡ ask_code standard master card table second change totals)
      × ((card ≡ ask_card standard master card table second change totals)
      × ((second ≡ ask_second standard master card table second change totals) × (totals ≡ ask_totals standard master card table second change totals)))
  unfolding ask_card ask_second ask_totals
  refusal-keeps n e s = (e, (refusal-kept _ _ card n e s, (refusal-kept _ _ second n e s, refusal-kept _ _ totals n e s)))

  -- the second table, once the standing one is copied
  pub copied : (xs : List ℕ) → Asked → xs ≡ put 0 table second → xs ≡ table
  copied xs h e = e ∙ put_whole table second (h.early.late.whole ∙ sym h.room)

  -- what an ask makes of card, second table and totals
  pub ask-writes : (c after : Card) (blocks : ℕ) (card' xs second' totals' : List ℕ) → card_of c ≡ S.read_card card → 0 ≡ ask_code standard master card table second change totals
      → card' ≡ S.card_bytes (card_of after) → card_of after ≡ asked_card (card_of c) blocks → blocks ≡ blocks_after (card_of c) change → xs ≡ table
      → second' ≡ reseal standard master (card_of c) (block_changes (card_of c) change) (c.tokens + 1 - c.next) c.next xs
      → totals' ≡ totals_bytes (change_turns standard master (card_of c) (block_changes (card_of c) change)) (change_hashes standard master (card_of c) (block_changes (card_of c) change))
      → (0 ≡ ask_code standard master card table second change totals)
      × ((card' ≡ ask_card standard master card table second change totals)
      × ((second' ≡ ask_second standard master card table second change totals) × (totals' ≡ ask_totals standard master card table second change totals)))
  unfolding ask_card ask_second ask_totals card_of
  ask-writes c after blocks card' xs second' totals' e z f g h y q u = (
    z,
    (
      f ∙ ap S.card_bytes g ∙ ap (λ (n : ℕ). S.card_bytes (asked_card (card_of c) n)) h
          ∙ ap (λ (x : S.Card). S.card_bytes (asked_card x (blocks_after x change))) e
          ∙ answer-written _ _ card _ z refl,
      (
        q ∙ ap (reseal standard master (card_of c) (block_changes (card_of c) change) (c.tokens + 1 - c.next) c.next) y
            ∙ ap (λ (x : S.Card). reseal standard master x (block_changes x change) (x.t + 1 - x.next) x.next table) e
            ∙ answer-written _ _ second _ z refl,
        u ∙ ap (λ (x : S.Card). totals_bytes (change_turns standard master x (block_changes x change)) (change_hashes standard master x (block_changes x change))) e
            ∙ answer-written _ _ totals _ z refl,
      ),
    ),
  )

  -- the card while a change is pending has the version of the one before
  pub asked-room : (c after : Card) (blocks : ℕ) → card_of c ≡ S.read_card card → card_fault card ≡ 0 → card_of after ≡ asked_card (card_of c) blocks
      → (length card ≡ 2 + S.card_length after.version) × (after.version < 256)
  unfolding card_of asked_card
  asked-room c after blocks e z g = after-room card c e z after (ap (λ (k : S.Card). k.version) g)
