-- #113: what a pooled reply is accepted for. Assumes nothing.
--   its-names .. passed_is   the front of a list as a file's part, and what it must be to pass
--   Carries, as-single       a file's part of a pooled reply passes, with the digest for its token, exactly where a single reply with its id, i and record is accepted
--   AllAccepted, gathered    where every single reply would be accepted, the pooled reply made from them is
use Prim.Native.Nat.{ℕ, suc, ◌+◌, ◌*◌, ◌≤◌}
use native.Mathlib.Omega.{arith}
use native.Mathlib.Nat.{zero-add}
use mathlib.Core.Path.{◌≡◌, refl, sym, ap, ap₂, ◌∙◌}
use mathlib.Core.Logic.{◌↔◌}
use mathlib.Core.List.{List, [], ◌∷◌, ◌++◌, append_assoc}
use mathlib.Core.Option.{Option, some}
use mathlib.Core.Bool.{true, ◌&&◌}
use borrow.Author.Tests.{eq-eqb, eqb-true}
use lib.ListN.{length, get_or, take, drop, replicate, length-append, length-drop}
use lib.Seq.{take_at, drop_at, take_all}
use lib.Dec.{eqb}
use Rattle.octets.specs.Octets.{le, be, of_be, part, same, xors}
use Rattle.octets.proofs.NumberLaws.{be-back}
use Rattle.octets.proofs.PartLaws.{length_part, part-part}
use Rattle.octets.proofs.SameLaws.{same_refl, same_true}
use Rattle.octets.proofs.XorLaws.{length-xors}
use Rattle.scheme.specs.Primitives.{Primitives}
use Rattle.scheme.specs.Records.{Card, head_fits}
use Rattle.scheme.specs.Table.{there, value}
use Rattle.scheme.specs.Judging.{names_fit, counter_fits, opened_body, verdict, Accepted}
use Rattle.scheme.specs.Pools.{passes, all_pass, pool_sum, pool_verdict, entries, digest_sum, gathered_reply}
use Rattle.scheme.proofs.laws.CheckLaws.{both, pair}
use Rattle.scheme.proofs.laws.JudgingLaws.{accepted-exactly}
use Rattle.scheme.proofs.laws.PoolLaws.{pool-exactly}

-- "id 8, i 4, record 63" at the front of a list
module _ (names rec rest : List ℕ) (twelve : length names ≡ 12) (long : length rec ≡ 63) where
  pub its-names : (at k : ℕ) → at + k ≤ 12 → part at k (names ++ rec ++ rest) ≡ part at k names
  its-names at k h =
      ap (λ (n : ℕ). part n k (names ++ rec ++ rest)) (sym (zero-add at))
      ∙ sym (part-part at k 0 12 (names ++ rec ++ rest) h)
      ∙ ap (part at k) (ap (take 12) (append_assoc names rec rest) ∙ take_at names (rec ++ rest) 12 twelve)

  pub its-record : part 12 63 (names ++ rec ++ rest) ≡ rec
  its-record = ap (part 12 63) (append_assoc names rec rest) ∙ ap (take 63) (drop_at names (rec ++ rest) 12 twelve) ∙ take_at rec rest 63 long

  pub its-rest : drop 75 (names ++ rec ++ rest) ≡ rest
  its-rest = drop_at (names ++ rec) rest 75 (omega (arith, length-append names rec))

-- a token that is there
pub is-there : (o : Option (List ℕ)) (x : List ℕ) → o ≡ some x → there o ≡ true
is-there o x e = ap there e

module _ (P : Primitives) (master : List ℕ) (c : Card) where
  -- the tests of a file's part, and what they say
  pub record Passed (rest : List ℕ) : Type 0 where
    pub ids : part 0 8 rest ≡ c.id
    pub i : of_be (part 8 4 rest) ≡ c.open'
    pub record_length : of_be (part 0 2 (part 12 63 rest)) ≡ 61
    pub record_version : get_or (part 12 63 rest) 2 0 ≡ c.version
    pub record_ctr : of_be (part 3 8 (part 12 63 rest)) ≡ c.ctr
    pub record_i : of_be (part 11 4 (part 12 63 rest)) ≡ c.open'
    pub tag : there (opened_body P master c (part 12 63 rest)) ≡ true

  pub passed_is : (rest : List ℕ) → Passed rest → passes P master c rest ≡ true
  unfolding passes head_fits
  passed_is rest p =
      let rec = part 12 63 rest in
      rw (
        eq-eqb (of_be (part 0 2 rec)) 61 p.record_length,
        eq-eqb (get_or rec 2 0) c.version p.record_version,
        p.ids,
        same_refl c.id,
        eq-eqb (of_be (part 8 4 rest)) c.open' p.i,
        eq-eqb (of_be (part 11 4 rec)) c.open' p.record_i,
        eq-eqb (of_be (part 3 8 rec)) c.ctr p.record_ctr,
        p.tag,
      )

  passed-has : (rest : List ℕ) → passes P master c rest ≡ true → Passed rest
  unfolding passes head_fits
  passed-has rest h =
      let rec = part 12 63 rest in
      let head = head_fits 61 c.version rec in
      let names = names_fit c (part 0 8 rest) (of_be (part 8 4 rest)) rec in
      let p₃ = both (head && names && counter_fits c rec) (there (opened_body P master c rec)) h in
      let p₂ = both (head && names) (counter_fits c rec) p₃.0 in
      let p₁ = both head names p₂.0 in
      let hs = both (eqb (of_be (part 0 2 rec)) 61) (eqb (get_or rec 2 0) c.version) p₁.0 in
      let ns = both (same (part 0 8 rest) c.id && eqb (of_be (part 8 4 rest)) c.open') (eqb (of_be (part 11 4 rec)) c.open') p₁.1 in
      let own = both (same (part 0 8 rest) c.id) (eqb (of_be (part 8 4 rest)) c.open') ns.0 in
      record {
        ids = same_true (part 0 8 rest) c.id own.0;
        i = eqb-true (of_be (part 8 4 rest)) c.open' own.1;
        record_length = eqb-true (of_be (part 0 2 rec)) 61 hs.0;
        record_version = eqb-true (get_or rec 2 0) c.version hs.1;
        record_ctr = eqb-true (of_be (part 3 8 rec)) c.ctr p₂.1;
        record_i = eqb-true (of_be (part 11 4 rec)) c.open' ns.1;
        tag = p₃.1;
      }

  -- a single reply of 110 bytes whose own length and version fit, with the id, i and record of a file's part
  pub record Carries (reply rest : List ℕ) : Type 0 where
    pub size : length reply ≡ 110
    pub own_length : of_be (part 0 2 reply) ≡ 108
    pub own_version : get_or reply 2 0 ≡ c.version
    pub ids : part 3 8 reply ≡ part 0 8 rest
    pub tokens : of_be (part 11 4 reply) ≡ of_be (part 8 4 rest)
    pub records : drop 47 reply ≡ part 12 63 rest

  module _ (reply rest : List ℕ) (s : Carries reply rest) where
    abbrev its : List ℕ
    its = part 12 63 rest

    from-single : Accepted P master c reply → (passes P master c rest ≡ true) × (opened_body P master c its ≡ some (part 15 32 reply))
    from-single a =
        let e = s.records in
        let t : opened_body P master c its ≡ some (part 15 32 reply) = ap (opened_body P master c) (sym e) ∙ a.opens in (
          passed_is rest (record {
            ids = sym s.ids ∙ a.own_id;
            i = sym s.tokens ∙ a.own_i;
            record_length = ap (λ (x : List ℕ). of_be (part 0 2 x)) (sym e) ∙ a.record_length;
            record_version = ap (λ (x : List ℕ). get_or x 2 0) (sym e) ∙ a.record_version;
            record_ctr = ap (λ (x : List ℕ). of_be (part 3 8 x)) (sym e) ∙ a.record_ctr;
            record_i = ap (λ (x : List ℕ). of_be (part 11 4 x)) (sym e) ∙ a.record_i;
            tag = is-there (opened_body P master c its) (part 15 32 reply) t;
          }),
          t,
        )

    to-single : passes P master c rest ≡ true → opened_body P master c its ≡ some (part 15 32 reply) → Accepted P master c reply
    to-single h t =
        let p = passed-has rest h in
        let e = s.records in
        record {
          size = s.size;
          own_length = s.own_length;
          own_version = s.own_version;
          own_id = s.ids ∙ p.ids;
          own_i = s.tokens ∙ p.i;
          record_length = ap (λ (x : List ℕ). of_be (part 0 2 x)) e ∙ p.record_length;
          record_version = ap (λ (x : List ℕ). get_or x 2 0) e ∙ p.record_version;
          record_ctr = ap (λ (x : List ℕ). of_be (part 3 8 x)) e ∙ p.record_ctr;
          record_i = ap (λ (x : List ℕ). of_be (part 11 4 x)) e ∙ p.record_i;
          opens = ap (opened_body P master c) e ∙ t;
        }

    -- "every id, i and record passes as for single judging"
    pub as-single : (verdict P master c reply ≡ 0) ↔ ((passes P master c rest ≡ true) × (opened_body P master c (part 12 63 rest) ≡ some (part 15 32 reply)))
    as-single =
        let rule = accepted-exactly P master c reply in
        (λ h. from-single (rule.0 h), λ h. rule.1 (to-single h.0 h.1))

module _ (P : Primitives) (master : List ℕ) where
  -- replies that would each be accepted on its card
  abbrev pub AllAccepted : List Card → List (List ℕ) → Type 0
  AllAccepted [] [] = Unit {0}
  AllAccepted [] (x ∷ xs) = ⊥
  AllAccepted (c ∷ cs) [] = ⊥
  AllAccepted (c ∷ cs) (x ∷ xs) = (verdict P master c x ≡ 0) × AllAccepted cs xs

  as_many : (cs : List Card) (xs : List (List ℕ)) → AllAccepted cs xs → length xs ≡ length cs
  as_many [] [] a = refl
  as_many [] (x ∷ xs) a = absurd a
  as_many (c ∷ cs) [] a = absurd a
  as_many (c ∷ cs) (x ∷ xs) a = ap (λ (n : ℕ). suc n) (as_many cs xs a.1)

  -- what a pooled reply takes over from an accepted one
  module _ (c : Card) (x rest : List ℕ) (ok : verdict P master c x ≡ 0) where
    rule : Accepted P master c x
    rule = (accepted-exactly P master c x).0 ok

    names-long : length (part 3 12 x) ≡ 12
    names-long = length_part 3 12 x (omega (arith, rule.size))

    record-long : length (part 47 63 x) ≡ 63
    record-long = length_part 47 63 x (omega (arith, rule.size))

    abbrev entry : List ℕ
    entry = part 3 12 x ++ part 47 63 x ++ rest

    whole : drop 47 x ≡ part 47 63 x
    whole = sym (take_all 63 (drop 47 x) (omega (arith, length-drop 47 x, rule.size)))

    carried : Carries P master c x entry
    carried = record {
      size = rule.size;
      own_length = rule.own_length;
      own_version = rule.own_version;
      ids = sym (part-part 0 8 3 12 x (omega arith)) ∙ sym (its-names (part 3 12 x) (part 47 63 x) rest names-long record-long 0 8 (omega arith));
      tokens = ap of_be (sym (part-part 8 4 3 12 x (omega arith)) ∙ sym (its-names (part 3 12 x) (part 47 63 x) rest names-long record-long 8 4 (omega arith)));
      records = whole ∙ sym (its-record (part 3 12 x) (part 47 63 x) rest names-long record-long);
    }

    one : (passes P master c entry ≡ true) × (opened_body P master c (part 12 63 entry) ≡ some (part 15 32 x))
    one = (as-single P master c x entry carried).0 ok

    beyond : drop 75 entry ≡ rest
    beyond = its-rest (part 3 12 x) (part 47 63 x) rest names-long record-long

  all-pass : (cs : List Card) (xs : List (List ℕ)) → AllAccepted cs xs → all_pass P master cs (entries xs) ≡ true
  unfolding all_pass entries
  all-pass [] [] a = refl
  all-pass [] (x ∷ xs) a = absurd a
  all-pass (c ∷ cs) [] a = absurd a
  all-pass (c ∷ cs) (x ∷ xs) a =
      pair _ _ (one c x (entries xs) a.0).0 (ap (all_pass P master cs) (beyond c x (entries xs) a.0) ∙ all-pass cs xs a.1)

  all-sum : (y : List ℕ) (cs : List Card) (xs : List (List ℕ)) → AllAccepted cs xs → pool_sum P master y cs (entries xs) ≡ digest_sum y xs
  unfolding pool_sum entries digest_sum
  all-sum y [] [] a = refl
  all-sum y [] (x ∷ xs) a = absurd a
  all-sum y (c ∷ cs) [] a = absurd a
  all-sum y (c ∷ cs) (x ∷ xs) a =
      ap₂ (λ (z rest : List ℕ). pool_sum P master (xors y z) cs rest) (ap value (one c x (entries xs) a.0).1) (beyond c x (entries xs) a.0)
      ∙ all-sum (xors y (part 15 32 x)) cs xs a.1

  sum-long : (y : List ℕ) (cs : List Card) (xs : List (List ℕ)) → length y ≡ 32 → AllAccepted cs xs → length (digest_sum y xs) ≡ 32
  unfolding digest_sum
  sum-long y [] [] l a = l
  sum-long y [] (x ∷ xs) l a = absurd a
  sum-long y (c ∷ cs) [] l a = absurd a
  sum-long y (c ∷ cs) (x ∷ xs) l a =
      sum-long (xors y (part 15 32 x)) cs xs (length-xors y (part 15 32 x) (omega (arith, l, length_part 15 32 x (omega (arith, (rule c x (entries xs) a.0).size)))) ∙ l) a.1

  entries-long : (cs : List Card) (xs : List (List ℕ)) → AllAccepted cs xs → length (entries xs) ≡ 75 * length cs
  unfolding entries
  entries-long [] [] a = refl
  entries-long [] (x ∷ xs) a = absurd a
  entries-long (c ∷ cs) [] a = absurd a
  entries-long (c ∷ cs) (x ∷ xs) a =
      omega (
        arith,
        length-append (part 3 12 x ++ part 47 63 x) (entries xs),
        length-append (part 3 12 x) (part 47 63 x),
        names-long c x (entries xs) a.0,
        record-long c x (entries xs) a.0,
        entries-long cs xs a.1,
      )

  -- a pooled reply: its head of five bytes, the xor of the digests, and the rest
  module _ (k : ℕ) (sum rest : List ℕ) (l : length sum ≡ 32) where
    abbrev head : List ℕ
    head = be 2 (35 + 75 * k) ++ (1 ∷ []) ++ be 2 k

    head-long : length head ≡ 5
    unfolding be le
    head-long = refl

    reply-sum : part 5 32 (head ++ sum ++ rest) ≡ sum
    reply-sum = ap (part 5 32) (append_assoc head sum rest) ∙ ap (take 32) (drop_at head (sum ++ rest) 5 head-long) ∙ take_at sum rest 32 l

    reply-rest : drop 37 (head ++ sum ++ rest) ≡ rest
    reply-rest = drop_at (head ++ sum) rest 37 (omega (arith, length-append head sum, head-long))

    reply-long : length (head ++ sum ++ rest) ≡ 37 + length rest
    reply-long = omega (arith, length-append (head ++ sum) rest, length-append head sum, head-long)

    module _ (few : k ≤ 16) where
      reply-length : of_be (part 0 2 (head ++ sum ++ rest)) ≡ 35 + 75 * k
      unfolding be le
      reply-length = be-back 2 (35 + 75 * k) (omega arith)

      reply-number : of_be (part 3 2 (head ++ sum ++ rest)) ≡ k
      unfolding be le
      reply-number = be-back 2 k (omega arith)

    reply-version : get_or (head ++ sum ++ rest) 2 0 ≡ 1
    unfolding be le
    reply-version = refl

  -- if every single reply would be accepted, the pooled reply made from them is
  pub gathered : (cs : List Card) (xs : List (List ℕ)) → AllAccepted cs xs → length cs ≤ 16 → pool_verdict P master cs (gathered_reply xs) ≡ 0
  unfolding gathered_reply
  gathered cs xs a few =
      let sum = digest_sum (replicate 32 0) xs in
      let l : length sum ≡ 32 = sum-long (replicate 32 0) cs xs refl a in
      rw (as_many cs xs a)
      ((pool-exactly P master cs _).1 (record {
        size = reply-long (length cs) sum (entries xs) l ∙ ap (λ (n : ℕ). 37 + n) (entries-long cs xs a);
        own_length = reply-length (length cs) sum (entries xs) l few;
        own_version = reply-version (length cs) sum (entries xs) l;
        own_number = reply-number (length cs) sum (entries xs) l few;
        all = ap (all_pass P master cs) (reply-rest (length cs) sum (entries xs) l) ∙ all-pass cs xs a;
        sum =
            ap (pool_sum P master (replicate 32 0) cs) (reply-rest (length cs) sum (entries xs) l) ∙ all-sum (replicate 32 0) cs xs a
            ∙ sym (reply-sum (length cs) sum (entries xs) l);
      }))
