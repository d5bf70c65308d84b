-- What an accepted call has, read from its list of checks. Assumes nothing.
--   SetUp, set-up-has                        the limits and lengths of an accepted set-up
--   Changed, change-has, ask-has             those of an accepted change, in one step or asked
--   place-codes, late-plain                  the codes of a place are at least 1; no code of a change but its last is 7
--   Drawn, draw-has, Judged, judge-has       an accepted draw, a judgement that is made
--   settle-has                               an accepted commit or drop
--   positions-least                          the positions given are the least that cover as large a share of the planned rows
use Prim.Native.Nat.{ℕ, ◌+◌, ◌*◌, ◌-◌, ◌≤◌, ◌<◌}
use native.Mathlib.Omega.{arith}
use native.Mathlib.Nat.{div-add-mod', mod-lt}
use mathlib.Core.Path.{◌≡◌, refl}
use mathlib.Core.List.{List, [], ◌∷◌, ◌++◌}
use mathlib.Core.Bool.{true, ◌&&◌}
use borrow.Author.Tests.{eqb-true, leb-true, ltb-true}
use lib.ListN.{length}
use lib.Dec.{eqb}
use Rattle.schedule.specs.Hours.{plan_fits}
use Rattle.scheme.specs.Checks.{first}
use Rattle.scheme.specs.Primitives.{Primitives}
use Rattle.scheme.specs.Marks.{version_fits}
use Rattle.scheme.specs.Records.{Card, read_card, shape_fits, token_fits, blocks_fit, card_fits, card_length, card_sized, card_head}
use Rattle.scheme.specs.Changes.{Change, update, delete, append, load, batch, handed_fits, place_checks, late_checks, unused_bad, change_checks, change_code}
use Rattle.scheme.specs.Calls.{positions_for, set_up_checks, set_up_code, Moment, draw_early, draw_late, draw_code, judge_checks, judge_fault}
use Rattle.scheme.specs.Asks.{ask_checks, ask_code, settle_checks, settle_code}
use Rattle.scheme.proofs.laws.CheckLaws.{Codes, first-passed, Plain, plain-codes, Holds, holds-append, checks-held, test_of, test-holds, both, within-true}
use Rattle.scheme.proofs.laws.LimitLaws.{Shape, shape-limits}
use Rattle.scheme.proofs.laws.CardLaws.{InOrder, read-order}

-- "r × planned rows / present blocks, rounded up"
pub positions-least : (r planned present : ℕ) → 1 ≤ present
    → (r * planned ≤ positions_for r planned present * present) × (positions_for r planned present * present < r * planned + present)
unfolding positions_for
positions-least r planned present h =
    let e = div-add-mod' (r * planned + present - 1) present in
    let l = mod-lt (r * planned + present - 1) h in
    (omega arith, omega arith)

pub record SetUp (master id : List ℕ) (v B d r t n : ℕ) (blocks : List ℕ) : Type 0 where
  pub key32 : length master ≡ 32
  pub id8 : length id ≡ 8
  pub ver : version_fits v ≡ true
  pub shape : Shape B d r
  pub t1 : 1 ≤ t
  pub tmost : t ≤ 65536
  pub n1 : 1 ≤ n
  pub nmost : n ≤ 16777216
  pub blocks_long : length blocks ≡ n * B

module _ (P : Primitives) where
  pub set-up-has : (master id : List ℕ) (v B d r t n : ℕ) (blocks card table totals : List ℕ) → set_up_code P master id v B d r t n blocks card table totals ≡ 0
      → SetUp master id v B d r t n blocks
  unfolding set_up_code token_fits blocks_fit
  set-up-has master id v B d r t n blocks card table totals h =
      let checks = set_up_checks P master id v B d r t n blocks card table totals in
      let p = (checks-held checks [] (plain-codes checks refl) h).0 in
      let fixed = both (eqb (length master) 32 && eqb (length id) 8 && card_sized card) (eqb (length totals) 16) p.0 in
      let sizes = both (eqb (length master) 32 && eqb (length id) 8) (card_sized card) fixed.0 in
      let lent = both (eqb (length master) 32) (eqb (length id) 8) sizes.0 in
      let q₁ = both (version_fits v && shape_fits B d r && token_fits t) (blocks_fit n) p.1.0 in
      let q₂ = both (version_fits v && shape_fits B d r) (token_fits t) q₁.0 in
      let q₃ = both (version_fits v) (shape_fits B d r) q₂.0 in
      let u = both (eqb (length blocks) (n * B) && eqb (length card) (2 + card_length v)) (eqb (length table) (t * 63)) p.1.1.0 in
      let wt = within-true 1 65536 t q₂.1 in
      let wn = within-true 1 16777216 n q₁.1 in
      record {
        key32 = eqb-true (length master) 32 lent.0;
        id8 = eqb-true (length id) 8 lent.1;
        ver = q₃.0;
        shape = shape-limits B d r q₃.1;
        t1 = wt.0;
        tmost = wt.1;
        n1 = wn.0;
        nmost = wn.1;
        blocks_long = eqb-true (length blocks) (n * B) (both (eqb (length blocks) (n * B)) (eqb (length card) (2 + card_length v)) u.0).0;
      }

pub record Changed (P : Primitives) (master : List ℕ) (c : Card) (table : List ℕ) (change : Change) : Type 0 where
  pub key32 : length master ≡ 32
  pub order : InOrder c
  pub long : length table ≡ c.t * 63
  pub handed : handed_fits c change ≡ true
  pub closed : c.open' ≡ 0
  pub idle : c.pending ≡ 0
  pub placed : (k : ℕ) → test_of k (place_checks c change) ≡ true
  pub room : c.last < 4294967295
  pub sound : unused_bad P master c table ≡ 0

pub place-codes : (c : Card) (change : Change) → Codes (place_checks c change)
place-codes c (update m old mark new) = (omega arith, tt)
place-codes c (delete m old mark) = (omega arith, tt)
place-codes c (append new) = (omega arith, tt)
place-codes c (load blocks) = (omega arith, (omega arith, tt))
place-codes c (batch items) = (omega arith, (omega arith, (omega arith, tt)))

-- no code of a change but its last is 7
pub late-plain : (c : Card) (table : List ℕ) (change : Change) → Plain (late_checks c table change) ≡ true
late-plain c table (update m old mark new) = refl
late-plain c table (delete m old mark) = refl
late-plain c table (append new) = refl
late-plain c table (load blocks) = refl
late-plain c table (batch items) = refl

module _ (P : Primitives) (master card : List ℕ) where
  -- from the tests of a change, in one step or asked
  late-has : (table : List ℕ) (change : Change) (totals : List ℕ) → eqb (length master) 32 && card_sized card && eqb (length totals) 16 ≡ true
      → card_head card ≡ true → card_fits (read_card card) ≡ true
      → Holds (late_checks (read_card card) table change)
      → first 0 ((eqb (unused_bad P master (read_card card) table) 0, 7 + 256 * unused_bad P master (read_card card) table) ∷ []) ≡ 0
      → Changed P master (read_card card) table change
  late-has table change totals sizes head fits late last =
      let c = read_card card in
      let bad = unused_bad P master c table in
      let lent = both (eqb (length master) 32) (card_sized card) (both (eqb (length master) 32 && card_sized card) (eqb (length totals) 16) sizes).0 in
      let handed = both (eqb (length table) (c.t * 63)) (handed_fits c change) late.0 in
      let place = holds-append (place_checks c change) _ late.1.1.1.1 in
      record {
        key32 = eqb-true (length master) 32 lent.0;
        order = read-order card lent.1 head fits;
        long = eqb-true (length table) (c.t * 63) handed.0;
        handed = handed.1;
        closed = eqb-true c.open' 0 late.1.1.0;
        idle = eqb-true c.pending 0 late.1.1.1.0;
        placed = λ k. test-holds k (place_checks c change) place.0;
        room = ltb-true c.last 4294967295 place.1.0;
        sound = eqb-true bad 0 (first-passed (eqb bad 0, 7 + 256 * bad) [] (omega arith) last).0;
      }

  pub change-has : (table : List ℕ) (change : Change) (totals : List ℕ) → change_code P master card table change totals ≡ 0 → Changed P master (read_card card) table change
  unfolding change_code
  change-has table change totals h =
      let checks = change_checks P master card table change totals in
      let p = checks-held checks _ (plain-codes checks (late-plain (read_card card) table change)) h in
      late-has table change totals p.0.0 p.0.1.0 p.0.1.1.0 p.0.1.1.1 p.1

  -- an accepted ask, which is of version 3
  pub ask-has : (table second : List ℕ) (change : Change) (totals : List ℕ) → ask_code P master card table second change totals ≡ 0
      → Changed P master (read_card card) table change × (eqb (read_card card).version 3 ≡ true)
  unfolding ask_code
  ask-has table second change totals h =
      let checks = ask_checks P master card table second change totals in
      let p = checks-held checks _ (plain-codes checks (late-plain (read_card card) table change)) h in
      let head = both (card_head card) (eqb (read_card card).version 3) p.0.1.0 in
      (late-has table change totals p.0.0 head.0 p.0.1.1.0 p.0.1.1.1.1 p.1, head.1)

  -- an accepted draw: nothing is open or pending, and a token is left
  pub record Drawn : Type 0 where
    pub key32 : length master ≡ 32
    pub order : InOrder (read_card card)
    pub closed : (read_card card).open' ≡ 0
    pub idle : (read_card card).pending ≡ 0
    pub left : (read_card card).next ≤ (read_card card).t

  pub draw-has : (message plan : List ℕ) (now : Moment) → draw_code P master card message plan now ≡ 0 → Drawn
  unfolding draw_code
  draw-has message plan now h =
      let c = read_card card in
      let checks = draw_early P master card message plan now ++ draw_late P c plan now in
      let test : (k : ℕ) → test_of k checks ≡ true = λ k. test-holds k checks (checks-held checks [] (plain-codes checks refl) h).0 in
      let sizes = both (eqb (length master) 32 && card_sized card && eqb (length message) 91) (eqb (length plan) 28) (test 1) in
      let lent = both (eqb (length master) 32 && card_sized card) (eqb (length message) 91) sizes.0 in
      let own = both (eqb (length master) 32) (card_sized card) lent.0 in
      record {
        key32 = eqb-true (length master) 32 own.0;
        order = read-order card own.1 (test 2) (both (card_fits c) (plan_fits plan) (test 3)).0;
        closed = eqb-true c.open' 0 (test 8);
        idle = eqb-true c.pending 0 (test 18);
        left = leb-true c.next c.t (test 6);
      }

  -- a judgement that is made: a token is open
  pub record Judged : Type 0 where
    pub key32 : length master ≡ 32
    pub order : InOrder (read_card card)
    pub some-open : 1 ≤ (read_card card).open'

  pub judge-has : judge_fault P master card ≡ 0 → Judged
  unfolding judge_fault
  judge-has h =
      let checks = judge_checks P master card in
      let p = (checks-held checks [] (plain-codes checks refl) h).0 in
      let own = both (eqb (length master) 32) (card_sized card) p.0 in
      record {
        key32 = eqb-true (length master) 32 own.0;
        order = read-order card own.1 p.1.0 p.1.1.0;
        some-open = ltb-true 0 (read_card card).open' p.1.1.1.0;
      }

-- an accepted commit or drop: something is pending
pub settle-has : (card : List ℕ) → settle_code card ≡ 0 → InOrder (read_card card) × (1 ≤ (read_card card).pending)
unfolding settle_code
settle-has card h =
    let p = (checks-held (settle_checks card) [] (plain-codes (settle_checks card) refl) h).0 in
    (read-order card p.0 p.1.0 p.1.1.0, ltb-true 0 (read_card card).pending p.1.1.1.0)
