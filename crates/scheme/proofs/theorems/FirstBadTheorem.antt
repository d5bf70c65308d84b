-- #103: "It must be the lowest unused token whose record does not open", of every change, in one step or asked. Assumes nothing.
--   Unused, Opens, Bad   a token that is unused, a record that opens, an unused token whose record does not
--   Lowest               the lowest unused token whose record does not open
--   Unrefused            no refusal that comes before 7 applies; UnrefusedAsk: of an ask
--   seven-lowest         the number is code 7 with token i exactly where none applies and i is the lowest; seven-lowest-ask: of an ask
--   seven-exactly        the code is 7 exactly where none applies and some unused record does not open; seven-exactly-ask
--   mended               a table fetched again from that number on: where its records from there on open, the change is accepted; mended-ask
use Prim.Native.Nat.{ℕ, zero, suc, ◌+◌, ◌*◌, ◌-◌, ◌%◌, ◌≤◌, ◌<◌}
use native.Mathlib.Omega.{arith}
use native.Mathlib.Decide.{ℕ_discrete}
use mathlib.Core.Path.{◌≡◌, refl, sym, ap, ◌∙◌, subst}
use mathlib.Core.Logic.{◌↔◌}
use mathlib.Core.List.{List, [], ◌∷◌, ◌++◌}
use mathlib.Core.Option.{Option, none, some}
use mathlib.Core.Bool.{Bool, true, false, cond, ◌&&◌, false≢true}
use borrow.Author.Tests.{eqb-true, eq-eqb, ne_eqb, ltb-true, ltb-false}
use lib.ListN.{length, get_or}
use lib.Dec.{eqb, ltb}
use Rattle.octets.specs.Octets.{of_be, part}
use Rattle.scheme.specs.Checks.{first}
use Rattle.scheme.specs.Primitives.{Primitives}
use Rattle.scheme.specs.Records.{Card, read_card, head_fits, record_at}
use Rattle.scheme.specs.Tokens.{key_k}
use Rattle.scheme.specs.Table.{there, value, body_in, token_in, first_bad}
use Rattle.scheme.specs.Changes.{Change, handed_fits, late_checks, unused_bad, change_checks, change_code}
use Rattle.scheme.specs.Asks.{ask_checks, ask_code}
use Rattle.scheme.proofs.laws.CheckLaws.{Plain, Holds, last-seven, first-last, both}
use Rattle.scheme.proofs.laws.LimitLaws.{card-limits}
use Rattle.scheme.proofs.laws.TableLaws.{opens, all-open}
use Rattle.scheme.proofs.laws.CallLaws.{late-plain}

-- "Every unused record, which is every one from next to t"
abbrev pub Unused : Card → ℕ → Type 0
Unused c i = (c.next ≤ i) × (i ≤ c.t)

module _ (P : Primitives) (master : List ℕ) (c : Card) where
  -- "must open (length 61, version .., the card's ctr, its own i, a tag that holds)", the version being the card's: a record, as that of token i, under the key K of the card's file
  pub record Opens (i : ℕ) (rec : List ℕ) : Type 0 where
    pub length61 : of_be (part 0 2 rec) ≡ 61
    pub version : get_or rec 2 0 ≡ c.version
    pub counter : of_be (part 3 8 rec) ≡ c.ctr
    pub own : of_be (part 11 4 rec) ≡ i
    pub token : List ℕ
    pub tag : body_in P (key_k P master c.id) c.ctr i rec ≡ some token

  module _ (table : List ℕ) where
    -- an unused token whose record in the table does not open
    abbrev pub Bad : ℕ → Type 0
    Bad i = Unused c i × (Opens i (record_at i table) → ⊥)

    -- and every unused record below it opens
    pub record Lowest (i : ℕ) : Type 0 where
      pub bad : Bad i
      pub below : (j : ℕ) → Unused c j → j < i → Opens j (record_at j table)

-- what a change checks before the records of the table: every test holds, and so none of 1, 2, 3, 15, 8, 18, 14, 4, 12, 5 and 10 is its answer
abbrev pub Unrefused : Primitives → List ℕ → List ℕ → List ℕ → Change → List ℕ → Type 0
Unrefused P master card table change totals = Holds (change_checks P master card table change totals)

abbrev pub UnrefusedAsk : Primitives → List ℕ → List ℕ → List ℕ → List ℕ → Change → List ℕ → Type 0
UnrefusedAsk P master card table second change totals = Holds (ask_checks P master card table second change totals)

-- a token that is there behind a test
behind : (b : Bool) (o : Option (List ℕ)) → there (cond b o none) ≡ true → (b ≡ true) × (o ≡ some (value o))
behind true none h = absurd (false≢true h)
behind true (some x) h = (refl, refl)
behind false o h = absurd (false≢true h)

module _ (P : Primitives) (master : List ℕ) (c : Card) (table : List ℕ) where
  -- the test of the definitions, and what it says
  opened : ℕ → Bool
  opened i = opens P (key_k P master c.id) c.version c.ctr table i

  opened-opens : (i : ℕ) → opened i ≡ true → Opens P master c i (record_at i table)
  unfolding opened token_in head_fits
  opened-opens i h =
      let rec = record_at i table in
      let body = body_in P (key_k P master c.id) c.ctr i rec in
      let p = behind (head_fits 61 c.version rec && eqb (of_be (part 3 8 rec)) c.ctr && eqb (of_be (part 11 4 rec)) i) body h in
      let q₁ = both (head_fits 61 c.version rec && eqb (of_be (part 3 8 rec)) c.ctr) (eqb (of_be (part 11 4 rec)) i) p.0 in
      let q₂ = both (head_fits 61 c.version rec) (eqb (of_be (part 3 8 rec)) c.ctr) q₁.0 in
      let q₃ = both (eqb (of_be (part 0 2 rec)) 61) (eqb (get_or rec 2 0) c.version) q₂.0 in
      record {
        length61 = eqb-true (of_be (part 0 2 rec)) 61 q₃.0;
        version = eqb-true (get_or rec 2 0) c.version q₃.1;
        counter = eqb-true (of_be (part 3 8 rec)) c.ctr q₂.1;
        own = eqb-true (of_be (part 11 4 rec)) i q₁.1;
        token = value body;
        tag = p.1;
      }

  opens-opened : (i : ℕ) → Opens P master c i (record_at i table) → opened i ≡ true
  unfolding opened token_in head_fits
  opens-opened i o =
      let rec = record_at i table in
      rw (
        eq-eqb (of_be (part 0 2 rec)) 61 o.length61,
        eq-eqb (get_or rec 2 0) c.version o.version,
        eq-eqb (of_be (part 3 8 rec)) c.ctr o.counter,
        eq-eqb (of_be (part 11 4 rec)) i o.own,
        o.tag,
      )

  -- what a search of m records from i on finds
  record Found (i m bad : ℕ) : Type 0 where
    from : i ≤ bad
    to : bad < i + m
    shut : opened bad ≡ false
    before : (j : ℕ) → i ≤ j → j < bad → opened j ≡ true

  found : (m i : ℕ) → 1 ≤ first_bad P (key_k P master c.id) c.version c.ctr table m i → Found i m (first_bad P (key_k P master c.id) c.version c.ctr table m i)
  unfolding first_bad opened
  found zero i h = absurd (omega arith)
  found (suc m) i h = go (opened i) refl h (found m (i + 1))
    where
      rest : ℕ
      rest = first_bad P (key_k P master c.id) c.version c.ctr table m (i + 1)

      go : (o : Bool) → opened i ≡ o → 1 ≤ cond o rest i → (1 ≤ rest → Found (i + 1) m rest) → Found i (suc m) (cond o rest i)
      go false e l ih = record { from = omega arith; to = omega arith; shut = e; before = λ j u v. absurd (omega arith) }
      go true e l ih =
          let f = ih l in
          record { from = omega (arith, f.from); to = omega (arith, f.to); shut = f.shut; before = λ j u v. here j u v f (ℕ_discrete i j) }
        where
          here : (j : ℕ) → i ≤ j → j < rest → Found (i + 1) m rest → Dec (i ≡ j) → opened j ≡ true
          here j u v f (yes p) = ap opened (sym p) ∙ e
          here j u v f (no q) = f.before j (omega arith) v

  bad-lowest : 1 ≤ unused_bad P master c table → Lowest P master c table (unused_bad P master c table)
  unfolding unused_bad
  bad-lowest h =
      let f = found (c.t + 1 - c.next) c.next h in
      record {
        bad = ((f.from, omega (arith, f.from, f.to)), λ o. false≢true (sym f.shut ∙ opens-opened (unused_bad P master c table) o));
        below = λ j u l. opened-opens j (f.before j u.0 l);
      }

  -- the search finds something where there is something to find
  some-bad : 1 ≤ c.next → (i : ℕ) → Bad P master c table i → 1 ≤ unused_bad P master c table
  unfolding unused_bad opened
  some-bad n i b = go (unused_bad P master c table) refl
    where
      go : (bad : ℕ) → unused_bad P master c table ≡ bad → 1 ≤ bad
      go zero e =
          absurd (b.1 (opened-opens i (all-open P (key_k P master c.id) c.version c.ctr table (c.t + 1 - c.next) c.next n e i b.0.0 (omega (arith, b.0.0, b.0.1)))))
      go (suc bad) e = omega arith

  -- there is one lowest
  one-lowest : (i j : ℕ) → Lowest P master c table i → Lowest P master c table j → i ≡ j
  one-lowest i j a b = go (ℕ_discrete i j)
    where
      first_of : (x y : ℕ) → Lowest P master c table x → Lowest P master c table y → x < y → ⊥
      first_of x y a b l = a.bad.1 (b.below x a.bad.0 l)

      go : Dec (i ≡ j) → i ≡ j
      go (yes e) = e
      go (no n) = omega (arith, first_of i j a b, first_of j i b a)

-- a list of checks whose last check looks at the unused records
module _ (P : Primitives) (master : List ℕ) (c : Card) (table : List ℕ) (checks : List (Bool × ℕ)) (plain : Plain checks ≡ true) (next_one : Holds checks → 1 ≤ c.next) where
  abbrev number : ℕ
  number = first 0 (checks ++ (eqb (unused_bad P master c table) 0, 7 + 256 * unused_bad P master c table) ∷ [])

  -- the number where nothing before 7 refuses
  seven-number : Holds checks → 1 ≤ unused_bad P master c table → number ≡ 7 + 256 * unused_bad P master c table
  seven-number h l =
      let bad = unused_bad P master c table in
      first-last checks (eqb bad 0, 7 + 256 * bad) h ∙ rw (ne_eqb bad 0 (λ z. omega arith)) refl

  -- a number with code 7
  seven-has : number % 256 ≡ 7 → Holds checks × (1 ≤ unused_bad P master c table)
  seven-has h =
      let bad = unused_bad P master c table in
      let p = last-seven checks (eqb bad 0, 7 + 256 * bad) plain h in
      (p.0, go bad p.1)
    where
      go : (n : ℕ) → eqb n 0 ≡ false → 1 ≤ n
      go zero e = absurd (false≢true (sym e))
      go (suc n) e = omega arith

  names-lowest : (i : ℕ) → (number ≡ 7 + 256 * i) ↔ (Holds checks × Lowest P master c table i)
  names-lowest i = (there-is, is-seven)
    where
      there-is : number ≡ 7 + 256 * i → Holds checks × Lowest P master c table i
      there-is e =
          let p = seven-has (omega arith) in
          let z : unused_bad P master c table ≡ i = omega (arith, seven-number p.0 p.1) in
          (p.0, subst (Lowest P master c table) z (bad-lowest P master c table p.1))

      is-seven : Holds checks × Lowest P master c table i → number ≡ 7 + 256 * i
      is-seven h =
          let some = some-bad P master c table (next_one h.0) i h.1.bad in
          seven-number h.0 some ∙ ap (λ (n : ℕ). 7 + 256 * n) (one-lowest P master c table _ i (bad-lowest P master c table some) h.1)

  says-seven : (number % 256 ≡ 7) ↔ (Holds checks × ((i : ℕ) × Bad P master c table i))
  says-seven = (some-record, code)
    where
      some-record : number % 256 ≡ 7 → Holds checks × ((i : ℕ) × Bad P master c table i)
      some-record h = let p = seven-has h in (p.0, (unused_bad P master c table, (bad-lowest P master c table p.1).bad))

      code : Holds checks × ((i : ℕ) × Bad P master c table i) → number % 256 ≡ 7
      code h = omega (arith, seven-number h.0 (some-bad P master c table (next_one h.0) h.1.0 h.1.1))

-- of a change in one step
module _ (P : Primitives) (master card table : List ℕ) (change : Change) (totals : List ℕ) where
  next_one : Unrefused P master card table change totals → 1 ≤ (read_card card).next
  next_one h = (card-limits (read_card card) h.1.1.0).next1

  pub seven-lowest : (i : ℕ)
      → (change_code P master card table change totals ≡ 7 + 256 * i) ↔ (Unrefused P master card table change totals × Lowest P master (read_card card) table i)
  unfolding change_code
  seven-lowest = names-lowest P master (read_card card) table (change_checks P master card table change totals) (late-plain (read_card card) table change) next_one

  pub seven-exactly : (change_code P master card table change totals % 256 ≡ 7)
      ↔ (Unrefused P master card table change totals × ((i : ℕ) × Bad P master (read_card card) table i))
  unfolding change_code
  seven-exactly = says-seven P master (read_card card) table (change_checks P master card table change totals) (late-plain (read_card card) table change) next_one

-- and of an ask
module _ (P : Primitives) (master card table second : List ℕ) (change : Change) (totals : List ℕ) where
  next-one-ask : UnrefusedAsk P master card table second change totals → 1 ≤ (read_card card).next
  next-one-ask h = (card-limits (read_card card) h.1.1.0).next1

  pub seven-lowest-ask : (i : ℕ)
      → (ask_code P master card table second change totals ≡ 7 + 256 * i) ↔ (UnrefusedAsk P master card table second change totals × Lowest P master (read_card card) table i)
  unfolding ask_code
  seven-lowest-ask = names-lowest P master (read_card card) table (ask_checks P master card table second change totals) (late-plain (read_card card) table change) next-one-ask

  pub seven-exactly-ask : (ask_code P master card table second change totals % 256 ≡ 7)
      ↔ (UnrefusedAsk P master card table second change totals × ((i : ℕ) × Bad P master (read_card card) table i))
  unfolding ask_code
  seven-exactly-ask = says-seven P master (read_card card) table (ask_checks P master card table second change totals) (late-plain (read_card card) table change) next-one-ask

-- "Our planners fetch records again from the number that code 7 gives": the table is then as long as it was, has the unused records below that number as
-- they were, and from there on, to t, records that open
module _ (P : Primitives) (master card table fetched : List ℕ) (i : ℕ) (long : length fetched ≡ length table)
    (kept : (j : ℕ) → Unused (read_card card) j → j < i → record_at j fetched ≡ record_at j table)
    (sound : (j : ℕ) → i ≤ j → j ≤ (read_card card).t → Opens P master (read_card card) j (record_at j fetched)) where
  -- the refusals before 7 look at the table's length alone
  same-late : (change : Change) → Holds (late_checks (read_card card) table change) → Holds (late_checks (read_card card) fetched change)
  same-late change h =
      let c = read_card card in
      (subst (λ (n : ℕ). eqb n (c.t * 63) && handed_fits c change ≡ true) (sym long) h.0, h.1)

  module _ (low : Lowest P master (read_card card) table i) where
    all_sound : (j : ℕ) → Unused (read_card card) j → Opens P master (read_card card) j (record_at j fetched)
    all_sound j u = go (ltb j i) refl
      where
        go : (b : Bool) → ltb j i ≡ b → Opens P master (read_card card) j (record_at j fetched)
        go true e =
            let l = ltb-true j i e in
            subst (Opens P master (read_card card) j) (sym (kept j u l)) (low.below j u l)
        go false e = sound j (ltb-false j i e) u.1

    none-bad : unused_bad P master (read_card card) fetched ≡ 0
    none-bad = go (unused_bad P master (read_card card) fetched) refl
      where
        go : (n : ℕ) → unused_bad P master (read_card card) fetched ≡ n → n ≡ 0
        go zero e = refl
        go (suc n) e =
            let b = (bad-lowest P master (read_card card) fetched (omega arith)).bad in
            absurd (b.1 (all_sound (unused_bad P master (read_card card) fetched) b.0))

  pub mended : (change : Change) (totals : List ℕ) → change_code P master card table change totals ≡ 7 + 256 * i → change_code P master card fetched change totals ≡ 0
  unfolding change_code
  mended change totals seven =
      let bad = unused_bad P master (read_card card) fetched in
      let p = (seven-lowest P master card table change totals i).0 seven in
      let h = p.0 in
      first-last (change_checks P master card fetched change totals) (eqb bad 0, 7 + 256 * bad) (h.0, (h.1.0, (h.1.1.0, same-late change h.1.1.1)))
      ∙ rw (none-bad p.1) refl

  pub mended-ask : (second : List ℕ) (change : Change) (totals : List ℕ) → ask_code P master card table second change totals ≡ 7 + 256 * i → ask_code P master card fetched second change totals ≡ 0
  unfolding ask_code
  mended-ask second change totals seven =
      let bad = unused_bad P master (read_card card) fetched in
      let p = (seven-lowest-ask P master card table second change totals i).0 seven in
      let h = p.0 in
      first-last (ask_checks P master card fetched second change totals) (eqb bad 0, 7 + 256 * bad)
      (h.0, (h.1.0, (h.1.1.0, (h.1.1.1.0, same-late change h.1.1.1.1))))
      ∙ rw (none-bad p.1) refl
