-- Laws of what a change in one step and an ask share: the checks behind the card's, the table's code, and what is known once they pass. Assumes nothing.
--   late_of                     the code of the checks behind the card's from its tests
--   Late, late-has              what a change has that passes them
--   Early, Held, late-held           that with its card; the same of the numbers that the program reads
--   code-refused, code-last     the code of a list of checks whose last check is the table's
--   fault-of, fault-keyed       the table's code, and that under the keys of a call
--   opened, taken               what resealing asks for
use Prim.Native.Nat.{ℕ, ◌+◌, ◌*◌, ◌-◌, ◌<◌}
use native.Mathlib.Omega.{arith}
use mathlib.Core.Path.{◌≡◌, refl, sym, ap, subst, ◌∙◌}
use mathlib.Core.List.{List, [], ◌∷◌, ◌++◌}
use mathlib.Core.Bool.{Bool, true, false, cond, ◌&&◌}
use borrow.Author.Tests.{eqb-true, ltb-true}
use lib.Dec.{eqb, ltb}
use lib.ListN.{length}
use Rattle.scheme.specs.Checks.{first, if_zero}
use Rattle.scheme.specs.Marks.{marks_fit}
use Rattle.scheme.specs.Records as S
use Rattle.scheme.specs.Changes.{Change, handed_fits, old_mark, place_checks, late_checks, unused_bad}
use Rattle.scheme.specs.Table.{first_bad}
use Rattle.scheme.specs.Tokens.{key_k}
use Rattle.scheme.proofs.laws.CheckLaws.{Codes, Holds, first-passed, both, refusal-kept, answer-written, first-append, first-stage}
use Rattle.scheme.proofs.laws.CheckLaws.{checks-held as split}
use Rattle.scheme.proofs.laws.CallLaws.{place-codes}
use Rattle.scheme.proofs.laws.LimitLaws.{Limits}
use Rattle.standard.specs.Standard.{standard}
use Rattle.records.proofs.FaultLaws.{version-small}
use Rattle.cards.specs.Fields.{card_of, card_fault}
use Rattle.cards.specs.declared.Card.{Card}
use Rattle.cards.proofs.FaultLaws.{card-held, card-version}
use Rattle.tokens.specs.Keyed.{Keyed}
use Rattle.tokens.specs.declared.Keys.{Keys}
use Rattle.reseals.specs.Resealed.{Opens}
use Rattle.changes.specs.Kinds.{table_fault, Taken}

module _ (c : Card) (table : List ℕ) (change : Change) where
  abbrev roomy : Bool
  roomy = ltb c.last 4294967295

  -- the place's checks, then the counter's
  place : first 0 (place_checks (card_of c) change ++ (roomy, 10) ∷ []) ≡ if_zero (first 0 (place_checks (card_of c) change)) (cond roomy 0 10) (first 0 (place_checks (card_of c) change))
  unfolding first
  place =
      first-append 0 (place_checks (card_of c) change) ((roomy, 10) ∷ [])
      ∙ first-stage (first 0 ((roomy, 10) ∷ [])) (place_checks (card_of c) change) (place-codes (card_of c) change)

  -- `given` is the test of the blocks handed over, `low` that of the old mark
  pub late_of : {k h w o p u given low : Bool} {n : ℕ} → eqb (length table) (c.tokens * 63) ≡ k → given ≡ handed_fits (card_of c) change → given ≡ h
      → low ≡ marks_fit (old_mark change) → low ≡ w → eqb c.open_token 0 ≡ o → eqb c.pending 0 ≡ p → first 0 (place_checks (card_of c) change) ≡ n → ltb c.last 4294967295 ≡ u
      → cond (k && h) (cond w (cond o (cond p (if_zero n (cond u 0 10) n) 18) 8) 15) 1 ≡ first 0 (late_checks (card_of c) table change)
  unfolding card_of first
  late_of e₁ g e₂ l e₃ e₄ e₅ e₆ e₇ = sym (rw (e₁, ← g, e₂, ← l, e₃, e₄, e₅, place, e₆, e₇))

-- what a change has that passes these checks
pub record Late (c : S.Card) (table : List ℕ) (change : Change) : Type 0 where
  pub whole : length table ≡ c.t * 63
  pub handed : handed_fits c change ≡ true
  pub placed : Holds (place_checks c change)
  pub room : c.last < 4294967295

pub late-has : (c : S.Card) (table : List ℕ) (change : Change) → first 0 (late_checks c table change) ≡ 0 → Late c table change
late-has c table change z =
    let p₁ = first-passed (eqb (length table) (c.t * 63) && handed_fits c change, 1) _ (omega arith) z in
    let p₂ = first-passed (marks_fit (old_mark change), 15) _ (omega arith) p₁.1 in
    let p₃ = first-passed (eqb c.open' 0, 8) _ (omega arith) p₂.1 in
    let p₄ = first-passed (eqb c.pending 0, 18) _ (omega arith) p₃.1 in
    let p₅ = split (place_checks c change) _ (place-codes c change) p₄.1 in
    let p₆ = first-passed (ltb c.last 4294967295, 10) _ (omega arith) p₅.1 in
    let q = both (eqb (length table) (c.t * 63)) (handed_fits c change) p₁.0 in
    record { whole = eqb-true (length table) (c.t * 63) q.0; handed = q.1; placed = p₅.0; room = ltb-true c.last 4294967295 p₆.0 }

-- with its master, its card and its totals
pub record Early (master card table : List ℕ) (change : Change) (totals : List ℕ) : Type 0 where
  pub key32 : length master ≡ 32
  pub counted : length totals ≡ 16
  pub fault : card_fault card ≡ 0
  pub late : Late (S.read_card card) table change

-- the same of the numbers that the program reads
pub record Held (c : Card) (table : List ℕ) (change : Change) : Type 0 where
  pub version : c.version < 256
  pub limits : Limits c.block_bytes c.rows c.positions c.tokens c.blocks c.counter c.next c.open_token
  pub whole : length table ≡ c.tokens * 63
  pub handed : handed_fits (card_of c) change ≡ true
  pub placed : Holds (place_checks (card_of c) change)
  pub room : c.last < 4294967295

pub late-held : {master card table totals : List ℕ} {change : Change} (c : Card) → card_of c ≡ S.read_card card → Early master card table change totals → Held c table change
unfolding card_of
late-held {master} {card} {table} {totals} {change} c e h =
    let l : Late (card_of c) table change = subst (λ (x : S.Card). Late x table change) (sym e) h.late in
    record {
      version = version-small c.version (card-version card c e h.fault);
      limits = card-held card c e h.fault;
      whole = l.whole;
      handed = l.handed;
      placed = l.placed;
      room = l.room;
    }

-- a list of checks whose last check is the table's
module _ (checks : List (Bool × ℕ)) (codes : Codes checks) (bad : ℕ) where
  stages : first 0 (checks ++ (eqb bad 0, 7 + 256 * bad) ∷ []) ≡ if_zero (first 0 checks) (cond (eqb bad 0) 0 (7 + 256 * bad)) (first 0 checks)
  unfolding first
  stages = first-append 0 checks ((eqb bad 0, 7 + 256 * bad) ∷ []) ∙ first-stage (first 0 ((eqb bad 0, 7 + 256 * bad) ∷ [])) checks codes

  pub code-refused : (n : ℕ) → n ≡ first 0 checks → (n ≡ 0 → ⊥) → n ≡ first 0 (checks ++ (eqb bad 0, 7 + 256 * bad) ∷ [])
  code-refused n e s = e ∙ refusal-kept (first 0 checks) _ (first 0 checks) n e s ∙ sym stages

  pub code-last : (n : ℕ) → first 0 checks ≡ 0 → n ≡ cond (eqb bad 0) 0 (7 + 256 * bad) → n ≡ first 0 (checks ++ (eqb bad 0, 7 + 256 * bad) ∷ [])
  code-last n z e = e ∙ answer-written (first 0 checks) _ (first 0 checks) (first 0 checks) refl z ∙ sym stages

-- the table's code, from the lowest record n that does not open
pub fault-of : {b : Bool} (key : List ℕ) (c : Card) (table : List ℕ) (n : ℕ)
    → n ≡ first_bad standard key c.version c.counter table (c.tokens + 1 - c.next) c.next → eqb n 0 ≡ b → cond b 0 (7 + 256 * n) ≡ table_fault key c table
unfolding table_fault
fault-of key c table n e p = ap (λ (t : Bool). cond t 0 (7 + 256 * n)) (sym p) ∙ ap (λ (bad : ℕ). cond (eqb bad 0) 0 (7 + 256 * bad)) e

-- under the keys of the call
pub fault-keyed : (master card table : List ℕ) (keys : Keys) (c : Card) (n : ℕ) → Keyed master c.id keys → card_of c ≡ S.read_card card → n ≡ table_fault keys.k c table
    → n ≡ cond (eqb (unused_bad standard master (S.read_card card) table) 0) 0 (7 + 256 * unused_bad standard master (S.read_card card) table)
unfolding table_fault unused_bad card_of
fault-keyed master card table keys c n k e h =
    let code : ℕ → ℕ = λ bad. cond (eqb bad 0) 0 (7 + 256 * bad) in
    h
    ∙ ap (λ (key : List ℕ). code (first_bad standard key c.version c.counter table (c.tokens + 1 - c.next) c.next)) k.sealing
    ∙ ap (λ (x : S.Card). code (first_bad standard (key_k standard master x.id) x.version x.ctr table (x.t + 1 - x.next) x.next)) e

-- every unused record opens where it is 0
fault-none : (key : List ℕ) (c : Card) (table : List ℕ) → table_fault key c table ≡ 0
    → first_bad standard key c.version c.counter table (c.tokens + 1 - c.next) c.next ≡ 0
unfolding table_fault
fault-none key c table = go (first_bad standard key c.version c.counter table (c.tokens + 1 - c.next) c.next)
  where
    at : (n : ℕ) (b : Bool) → eqb n 0 ≡ b → cond b 0 (7 + 256 * n) ≡ 0 → n ≡ 0
    at n true e z = eqb-true n 0 e
    at n false e z = absurd (omega arith)

    go : (n : ℕ) → cond (eqb n 0) 0 (7 + 256 * n) ≡ 0 → n ≡ 0
    go n = at n (eqb n 0) refl

-- what resealing asks for
pub opened : {change : Change} (key : List ℕ) (c : Card) (table : List ℕ) → Held c table change → table_fault key c table ≡ 0 → Opens key c table
opened key c table h z =
    let l = h.limits in
    record {
      small_version = h.version;
      few_tokens = l.tmost;
      next1 = l.next1;
      nextmost = l.nextmost;
      room = h.room;
      whole = h.whole;
      opens = fault-none key c table z;
    }

pub taken : {change : Change} {table : List ℕ} (c : Card) → Held c table change → Taken c change
taken c h =
    let l = h.limits in
    record {
      rowed = l.shape.d1;
      few_rows = l.shape.dmost;
      drawn = l.shape.rd;
      sized = l.shape.B1;
      small = l.shape.Bmost;
      few = l.nmost;
      handed = h.handed;
      placed = h.placed;
    }
