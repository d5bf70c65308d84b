-- Laws of records resealed one after the other. Assumes nothing.
--   under-keyed      under the keys of a call a record becomes the scheme's resealed_record
--   one-record       a record opened, changed and sealed
--   bad-most         the lowest record that does not open is none of those behind the last
--   bad-opens        where all records from i on open, record i does
--   bad-later        and where record i is written anew, those behind it still do
--   turn             both of a table whose record i is resealed
--   reseal-more      what is left to do after record i
--   lent-few         what is lent has few rows and few changes
--   totals-step, totals-end        the totals on the tokens from i on: on the first of them, and on none
--   totals-fit, totals-keyed       on all of them: it fits 64 bits, and is the scheme's
use Prim.Native.Nat.{ℕ, zero, suc, ◌+◌, ◌*◌, ◌-◌, ◌≤◌, ◌<◌}
use native.Mathlib.Omega.{arith}
use mathlib.Core.Path.{◌≡◌, refl, sym, ap, ◌∙◌}
use mathlib.Core.List.{List, [], ◌∷◌}
use mathlib.Core.Bool.{Bool, true, false, cond, false≢true}
use lib.ListN.{length, length-append}
use lib.Dec.{eqb}
use borrow.Author.Tests.{eqb-true}
use Rattle.octets.specs.Octets.{put}
use Rattle.octets.proofs.PartLaws.{length-put}
use Rattle.scheme.specs.Records.{Card, record_at}
use Rattle.scheme.specs.Table.{there, value, token_in, first_bad, sealed_record, resealed_record, reseal}
use Rattle.scheme.specs.Tokens.{BlockChange, draw_key, digest_after}
use Rattle.scheme.specs.Totals.{token_turns, token_hashes, change_turns, change_hashes}
use Rattle.scheme.proofs.laws.RecordLaws.{record-long}
use Rattle.scheme.proofs.laws.TableLaws.{bad-step, all-open, reseal-step}
use Rattle.scheme.proofs.laws.ResealLaws.{put-later}
use Rattle.scheme.proofs.laws.TotalLaws.{sum_step, sum-end, sum_same, tokens-turns-most, tokens-hashes-most}
use Rattle.standard.specs.Standard.{standard}
use Rattle.tokens.specs.Keyed.{Keyed, token_key}
use Rattle.tokens.specs.declared.Keys.{Keys}
use Rattle.tokens.proofs.TokenKeys.{draw-key, hash-key}
use Rattle.block_changes.specs.BlockChanges.{number_at, block_change_at, items_below, items_of, alone, Lent}
use Rattle.block_changes.specs.declared.BlockChanges.{BlockChanges}
use Rattle.reseals.specs.Resealed.{resealed_under, turns_from, hashes_from}

pub under-keyed : {master : List ℕ} {keys : Keys} (c : Card) (changes : List (ℕ × BlockChange)) (i : ℕ) (rec : List ℕ) → Keyed master c.id keys
    → resealed_under keys c changes i rec ≡ resealed_record standard master c changes i rec
unfolding resealed_under resealed_record
under-keyed c changes i rec h = rw (draw-key h i, hash-key h i, h.sealing)

-- one record: x is the token in it, y the token changed, after the table with y sealed
pub one-record : (keys : Keys) (c : Card) (changes : List (ℕ × BlockChange)) (i : ℕ) (table after x y : List ℕ)
    → x ≡ value (token_in standard keys.k c.version c.ctr i (record_at i table))
    → y ≡ digest_after standard (token_key keys.w i) (token_key keys.z i) c.d c.r changes x
    → length y ≡ 32
    → after ≡ put ((i - 1) * 63) (sealed_record standard keys.k c.version (c.last + 1) i y) table
    → (length (resealed_under keys c changes i (record_at i table)) ≡ 63) × (after ≡ put ((i - 1) * 63) (resealed_under keys c changes i (record_at i table)) table)
unfolding resealed_under
one-record keys c changes i table after x y e f l g =
    let digest = digest_after standard (token_key keys.w i) (token_key keys.z i) c.d c.r changes in
    let same : y ≡ digest (value (token_in standard keys.k c.version c.ctr i (record_at i table))) = f ∙ ap digest e in (
      ap (λ (z : List ℕ). length (sealed_record standard keys.k c.version (c.last + 1) i z)) (sym same) ∙ record-long standard keys.k c.version (c.last + 1) i y l,
      g ∙ ap (λ (z : List ℕ). put ((i - 1) * 63) (sealed_record standard keys.k c.version (c.last + 1) i z) table) same,
    )

pub bad-most : (key : List ℕ) (v ctr : ℕ) (table : List ℕ) (m i : ℕ) → first_bad standard key v ctr table m i ≤ i + m
unfolding first_bad
bad-most key v ctr table zero i = omega arith
bad-most key v ctr table (suc m) i = go (there (token_in standard key v ctr i (record_at i table))) (bad-most key v ctr table m (i + 1))
  where
    go : (b : Bool) → first_bad standard key v ctr table m (i + 1) ≤ i + 1 + m → cond b (first_bad standard key v ctr table m (i + 1)) i ≤ i + suc m
    go true l = omega arith
    go false l = omega arith

-- record i of t records, of which those from i on open
module _ (key : List ℕ) (v ctr t i : ℕ) (table : List ℕ) (l : 1 ≤ i) (h : i ≤ t) (z : first_bad standard key v ctr table (t + 1 - i) i ≡ 0) where
  pub bad-opens : there (token_in standard key v ctr i (record_at i table)) ≡ true
  bad-opens = all-open standard key v ctr table (t + 1 - i) i l z i (omega arith) (omega arith)

  -- record i is written anew
  module _ (rec : List ℕ) (long : length rec ≡ 63) (whole : length table ≡ t * 63) where
    others : (m j : ℕ) → i < j → first_bad standard key v ctr (put ((i - 1) * 63) rec table) m j ≡ first_bad standard key v ctr table m j
    unfolding first_bad
    others zero j f = refl
    others (suc m) j f = rw (put-later i t rec table l h whole long j f, others m (j + 1) (omega arith))

    pub bad-later : first_bad standard key v ctr (put ((i - 1) * 63) rec table) (t + 1 - (i + 1)) (i + 1) ≡ 0
    bad-later = others (t + 1 - (i + 1)) (i + 1) (omega arith) ∙ sym (bad-step standard key v ctr t i table h bad-opens) ∙ z

-- a table whose record i is resealed: its length, and the records behind it
pub turn : (keys : Keys) (c : Card) (changes : List (ℕ × BlockChange)) (t i : ℕ) (table after : List ℕ) → 1 ≤ i → i ≤ t → length table ≡ t * 63
    → first_bad standard keys.k c.version c.ctr table (t + 1 - i) i ≡ 0
    → length (resealed_under keys c changes i (record_at i table)) ≡ 63
    → after ≡ put ((i - 1) * 63) (resealed_under keys c changes i (record_at i table)) table
    → (length after ≡ t * 63) × (first_bad standard keys.k c.version c.ctr after (t + 1 - (i + 1)) (i + 1) ≡ 0)
turn keys c changes t i table after l h whole z long e =
    let rec = resealed_under keys c changes i (record_at i table) in (
      ap length e ∙ length-put ((i - 1) * 63) rec table (omega arith) ∙ whole,
      ap (λ (x : List ℕ). first_bad standard keys.k c.version c.ctr x (t + 1 - (i + 1)) (i + 1)) e
          ∙ bad-later keys.k c.version c.ctr t i table l h z rec long whole,
    )

pub reseal-more : {master : List ℕ} {keys : Keys} (c : Card) (changes : List (ℕ × BlockChange)) (t i : ℕ) (table after : List ℕ)
    → Keyed master c.id keys → i ≤ t → after ≡ put ((i - 1) * 63) (resealed_under keys c changes i (record_at i table)) table
    → reseal standard master c changes (t + 1 - (i + 1)) (i + 1) after ≡ reseal standard master c changes (t + 1 - i) i table
reseal-more {master} {keys} c changes t i table after k h e =
    ap (reseal standard master c changes (t + 1 - (i + 1)) (i + 1))
    (e ∙ ap (λ (rec : List ℕ). put ((i - 1) * 63) rec table) (under-keyed c changes i (record_at i table) k))
    ∙ sym (reseal-step standard master c changes t i table h)

items-long : (n : ℕ) (f : ℕ → ℕ × BlockChange) → length (items_below n f) ≡ n
unfolding items_below
items-long zero f = refl
items-long (suc n) f = length-append (items_below n f) (f n ∷ []) ∙ omega (arith, items-long n f)

pub lent-few : (w : BlockChanges) (om old nm new : List ℕ) → Lent w om old nm new → (1 ≤ w.rows) × (w.rows ≤ 1048576) × (length (items_of w om old nm new) ≤ 16777216)
unfolding alone items_of
lent-few w om old nm new h = go (cond w.listed false (eqb w.count 1)) refl
  where
    single : (l : Bool) (n : ℕ) → cond l false (eqb n 1) ≡ true → n ≤ 16777216
    single true n e = absurd (false≢true e)
    single false n e = omega (arith, eqb-true n 1 e)

    long : length (items_of w om old nm new) ≡ w.count
    long = items-long w.count (λ e. (number_at w new e, block_change_at w om old nm new e))

    go : (b : Bool) → alone w ≡ b → (1 ≤ w.rows) × (w.rows ≤ 1048576) × (length (items_of w om old nm new) ≤ 16777216)
    go true e = ((h.one e).rowed, (h.one e).few_rows, omega (arith, long, single w.listed w.count e))
    go false e = ((h.several e).rowed, (h.several e).few_rows, omega (arith, long, (h.several e).few))

-- the totals, token by token
module _ (keys : Keys) (c : Card) (changes : List (ℕ × BlockChange)) where
  pub totals-step : (i : ℕ) → i ≤ c.t
      → (turns_from keys c changes i ≡ token_turns standard (token_key keys.w i) c.d changes + turns_from keys c changes (i + 1))
      × (hashes_from keys c changes i ≡ token_hashes standard (token_key keys.w i) c.d c.r changes + hashes_from keys c changes (i + 1))
  unfolding turns_from hashes_from
  totals-step i h = (
    sum_step (λ j. token_turns standard (token_key keys.w j) c.d changes) c.t i h,
    sum_step (λ j. token_hashes standard (token_key keys.w j) c.d c.r changes) c.t i h,
  )

  pub totals-end : (i : ℕ) → c.t < i → (turns_from keys c changes i ≡ 0) × (hashes_from keys c changes i ≡ 0)
  unfolding turns_from hashes_from
  totals-end i h = (
    sum-end (λ j. token_turns standard (token_key keys.w j) c.d changes) c.t i h,
    sum-end (λ j. token_hashes standard (token_key keys.w j) c.d c.r changes) c.t i h,
  )

  pub totals-fit : 1 ≤ c.d → c.d ≤ 1048576 → c.t ≤ 65536 → 1 ≤ c.next → length changes ≤ 16777216
      → (turns_from keys c changes c.next < 18446744073709551616) × (hashes_from keys c changes c.next < 18446744073709551616)
  unfolding turns_from hashes_from
  totals-fit pos most some first many = (
    tokens-turns-most standard (token_key keys.w) c.d (c.t + 1 - c.next) c.next changes pos most (omega arith) many,
    tokens-hashes-most standard (token_key keys.w) c.d (c.t + 1 - c.next) c.next changes pos most (omega arith) many c.r,
  )

  pub totals-keyed : {master : List ℕ} → Keyed master c.id keys
      → (turns_from keys c changes c.next ≡ change_turns standard master c changes) × (hashes_from keys c changes c.next ≡ change_hashes standard master c changes)
  unfolding turns_from hashes_from change_turns change_hashes
  totals-keyed {master} h = (
    sum_same (λ j. token_turns standard (token_key keys.w j) c.d changes) (λ j. token_turns standard (draw_key standard master c.id j) c.d changes)
        (c.t + 1 - c.next) c.next (λ j. ap (λ (k : List ℕ). token_turns standard k c.d changes) (draw-key h j)),
    sum_same (λ j. token_hashes standard (token_key keys.w j) c.d c.r changes) (λ j. token_hashes standard (draw_key standard master c.id j) c.d c.r changes)
        (c.t + 1 - c.next) c.next (λ j. ap (λ (k : List ℕ). token_hashes standard k c.d c.r changes) (draw-key h j)),
  )
