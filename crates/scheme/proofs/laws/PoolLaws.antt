-- Laws of pooled judging. Assumes nothing.
--   cut-told                cards as long as their length fields tell are cut as they lie
--   heads-told, heads-fault cards whose heads are right are, and can be cut
--   card-told               a card that was written is as long as its length field tells
--   fine-pool               no code of a pooled judgement is 7
--   Pooled, pool-has        what a pooled judgement that is made has
--   pool-exactly            the verdict is 0 exactly by the paper's rule
--   own-part                a card among those of a pooled judgement, in its place
--   own_read, own-order     its numbers, which are in order where the judgement is made, with a token open
--   own-closed              what stands in its place after
use Prim.Native.Nat.{ℕ, zero, suc, ◌+◌, ◌*◌, ◌≤◌}
use native.Mathlib.Omega.{arith}
use mathlib.Core.Path.{◌≡◌, refl, sym, ap, ◌∙◌}
use mathlib.Core.Logic.{◌↔◌}
use mathlib.Core.List.{List, [], ◌∷◌, ◌++◌, append_assoc}
use mathlib.Core.Bool.{Bool, true, false, cond, ◌&&◌, ◌||◌}
use borrow.Author.Tests.{eqb-true, eq-eqb, ne_eqb, ltb-true, le-leb}
use lib.ListN.{length, get_or, take, drop, replicate, length-append}
use lib.Seq.{take_at, drop_at, take-append-le}
use lib.Dec.{eqb, leb}
use Rattle.octets.specs.Octets.{of_be, part, same}
use Rattle.octets.proofs.SameLaws.{same_refl, same_true}
use Rattle.scheme.specs.Checks.{first, if_zero}
use Rattle.scheme.specs.Lists.{joined}
use Rattle.scheme.specs.Primitives.{Primitives}
use Rattle.scheme.specs.Marks.{version_fits}
use Rattle.scheme.specs.Records.{Card, card_bytes, read_card, head_known, card_length, card_head}
use Rattle.scheme.specs.Calls.{turned_card, closed}
use Rattle.scheme.specs.Pools.{cut_code, cut_cards, cut_fault, cut, read_all, closed_all, every, in_limits, is_open, pool_checks, pool_fault, all_pass, pool_sum}
use Rattle.scheme.specs.Pools.{pool_fits, PoolAccepted, pool_verdict, pooled, OwnLengths}
use Rattle.scheme.proofs.laws.CheckLaws.{plain-codes, checks-held, both, pair, Fine, fine-part, fine_end}
use Rattle.scheme.proofs.laws.TableLaws.{joined-both}
use Rattle.scheme.proofs.laws.RecordLaws.{card_long, head-length}
use Rattle.scheme.proofs.laws.CardLaws.{InOrder, sized-id, head-sized, read-order}

-- the length field of a card at the front
front-field : (x rest : List ℕ) → length x ≡ 2 + of_be (part 0 2 x) → of_be (part 0 2 (x ++ rest)) ≡ of_be (part 0 2 x)
front-field x rest h = ap of_be (take-append-le 2 x rest (omega arith))

some_bytes : (x rest : List ℕ) → length x ≡ 2 + of_be (part 0 2 x) → eqb (length (x ++ rest)) 0 ≡ false
some_bytes x rest h = ne_eqb (length (x ++ rest)) 0 (λ z. omega (arith, length-append x rest))

cards-told : (k : ℕ) (xs : List (List ℕ)) → OwnLengths xs → length xs ≤ k → cut_cards k (joined xs) ≡ xs
unfolding cut_cards joined
cards-told zero [] t h = refl
cards-told zero (x ∷ xs) t h = absurd (omega arith)
cards-told (suc k) [] t h = refl
cards-told (suc k) (x ∷ xs) t h =
    let l : length x ≡ 2 + of_be (part 0 2 x) = t.0 in
    rw (some_bytes x (joined xs) l, front-field x (joined xs) l, take_at x (joined xs) (2 + of_be (part 0 2 x)) l, drop_at x (joined xs) (2 + of_be (part 0 2 x)) l)
    (ap (λ (ys : List (List ℕ)). x ∷ ys) (cards-told k xs t.1 (omega arith)))

-- not more cards than bytes
few : (xs : List (List ℕ)) → OwnLengths xs → length xs ≤ length (joined xs)
unfolding joined
few [] t = omega arith
few (x ∷ xs) t = omega (arith, length-append x (joined xs), t.0, few xs t.1)

pub cut-told : (xs : List (List ℕ)) → OwnLengths xs → cut (joined xs) ≡ xs
unfolding cut
cut-told xs t = cards-told (length (joined xs)) xs t (few xs t)

-- cards whose heads are right are as long as their length fields tell, and can be cut
head-field : (x : List ℕ) → card_head x ≡ true → of_be (part 0 2 x) ≡ card_length (get_or x 2 0)
unfolding card_head head_known
head-field x h =
    let v = get_or x 2 0 in
    let p = both (eqb (of_be (part 0 2 x)) (card_length v) && version_fits v) (eqb (length x) (2 + card_length v)) h in
    eqb-true (of_be (part 0 2 x)) (card_length v) (both (eqb (of_be (part 0 2 x)) (card_length v)) (version_fits v) p.0).0

pub heads-told : (xs : List (List ℕ)) → every card_head xs ≡ true → OwnLengths xs
unfolding every
heads-told [] h = tt
heads-told (x ∷ xs) h =
    let p = both (card_head x) (every card_head xs) h in
    ((head-sized x p.0).1 ∙ ap (λ (l : ℕ). 2 + l) (sym (head-field x p.0)), heads-told xs p.1)

known-length : (v : ℕ) → (eqb (card_length v) 41 || eqb (card_length v) 61) ≡ true
unfolding card_length
known-length v = go (eqb v 3)
  where
    go : (b : Bool) → (eqb (cond b 61 41) 41 || eqb (cond b 61 41) 61) ≡ true
    go true = refl
    go false = refl

heads-cut : (k : ℕ) (xs : List (List ℕ)) → every card_head xs ≡ true → cut_code k (joined xs) ≡ 0
unfolding cut_code joined every first
heads-cut zero xs h = refl
heads-cut (suc k) [] h = refl
heads-cut (suc k) (x ∷ xs) h =
    let p = both (card_head x) (every card_head xs) h in
    let e = head-field x p.0 in
    let l : length x ≡ 2 + of_be (part 0 2 x) = (heads-told (x ∷ xs) h).0 in
    let n = length-append x (joined xs) in
    rw (
      some_bytes x (joined xs) l,
      front-field x (joined xs) l,
      le-leb 2 (length (x ++ joined xs)) (omega (arith, n, l)),
      e,
      known-length (get_or x 2 0),
      le-leb (2 + card_length (get_or x 2 0)) (length (x ++ joined xs)) (omega (arith, n, l, e)),
      drop_at x (joined xs) (2 + card_length (get_or x 2 0)) (l ∙ ap (λ (m : ℕ). 2 + m) e),
    )
    (heads-cut k xs p.1)

pub heads-fault : (xs : List (List ℕ)) → every card_head xs ≡ true → cut_fault (joined xs) ≡ 0
unfolding cut_fault
heads-fault xs h = heads-cut (length (joined xs)) xs h

pub card-told : (c : Card) → length c.id ≡ 8 → length (card_bytes c) ≡ 2 + of_be (part 0 2 (card_bytes c))
card-told c h = card_long c h ∙ ap (λ (l : ℕ). 2 + l) (sym (head-length c))

told-append : (xs ys : List (List ℕ)) → OwnLengths xs → OwnLengths ys → OwnLengths (xs ++ ys)
told-append [] ys t u = u
told-append (x ∷ xs) ys t u = (t.0, told-append xs ys t.1 u)

-- the cut's codes
fine-cut-one : (e a b c : Bool) (n : ℕ) → Fine n → Fine (cond e 0 (cond a (cond b (cond c n 1) 2) 1))
fine-cut-one true a b c n f = omega arith
fine-cut-one false false b c n f = omega arith
fine-cut-one false true false c n f = omega arith
fine-cut-one false true true false n f = omega arith
fine-cut-one false true true true n f = f

fine-cut : (k : ℕ) (xs : List ℕ) → Fine (cut_code k xs)
unfolding cut_code first
fine-cut zero xs = omega arith
fine-cut (suc k) xs =
    let l = of_be (part 0 2 xs) in
    fine-cut-one (eqb (length xs) 0) (leb 2 (length xs)) (eqb l 41 || eqb l 61) (leb (2 + l) (length xs)) (cut_code k (drop (2 + l) xs)) (fine-cut k (drop (2 + l) xs))

pub fine-pool : (master cards : List ℕ) → Fine (pool_fault master cards)
unfolding pool_fault cut_fault
fine-pool master cards = go (cut_code (length cards) cards) (fine-cut (length cards) cards)
  where
    go : (n : ℕ) → Fine n → Fine (if_zero n (first 0 (pool_checks master cards)) n)
    go zero f = fine-part (pool_checks master cards) [] refl fine_end
    go (suc n) f = f

-- a pooled judgement that is made
pub record Pooled (master cards : List ℕ) : Type 0 where
  pub key32 : length master ≡ 32
  pub heads : every card_head (cut cards) ≡ true
  pub limits : every in_limits (cut cards) ≡ true
  pub opened : every is_open (cut cards) ≡ true

pub pool-has : (master cards : List ℕ) → pool_fault master cards ≡ 0 → Pooled master cards
unfolding pool_fault
pool-has master cards = go (cut_fault cards)
  where
    go : (n : ℕ) → if_zero n (first 0 (pool_checks master cards)) n ≡ 0 → Pooled master cards
    go zero h =
        let p = (checks-held (pool_checks master cards) [] (plain-codes (pool_checks master cards) refl) h).0 in
        record { key32 = eqb-true (length master) 32 p.0; heads = p.1.0; limits = p.1.1.0; opened = p.1.1.1.1.0 }
    go (suc n) h = absurd (omega arith)

-- a test that all pass
every-at : (f : List ℕ → Bool) (xs ys : List (List ℕ)) (y : List ℕ) → every f (xs ++ y ∷ ys) ≡ true → (every f xs ≡ true) × (f y ≡ true)
unfolding every
every-at f [] ys y h = (refl, (both (f y) (every f ys) h).0)
every-at f (x ∷ xs) ys y h =
    let p = both (f x) (every f (xs ++ y ∷ ys)) h in
    let q = every-at f xs ys y p.1 in
    (pair (f x) (every f xs) p.0 q.0, q.1)

read-append : (xs ys : List (List ℕ)) → read_all (xs ++ ys) ≡ read_all xs ++ read_all ys
unfolding read_all
read-append [] ys = refl
read-append (x ∷ xs) ys = ap (λ (zs : List Card). read_card x ∷ zs) (read-append xs ys)

closed-append : (xs ys : List (List ℕ)) → closed_all (xs ++ ys) ≡ closed_all xs ++ closed_all ys
unfolding closed_all
closed-append [] ys = refl
closed-append (x ∷ xs) ys = ap (λ (zs : List ℕ). closed x ++ zs) (closed-append xs ys) ∙ sym (append_assoc (closed x) (closed_all xs) (closed_all ys))

-- a card of its version's size keeps it when its draw is closed
closed-long : (x : List ℕ) → card_head x ≡ true → length (closed x) ≡ length x
unfolding turned_card read_card
closed-long x h =
    let s = head-sized x h in
    card_long (turned_card (read_card x) (read_card x).next 0) (sized-id x s.0) ∙ sym s.1

all-long : (xs : List (List ℕ)) → every card_head xs ≡ true → length (closed_all xs) ≡ length (joined xs)
unfolding closed_all joined every
all-long [] h = refl
all-long (x ∷ xs) h =
    let p = both (card_head x) (every card_head xs) h in
    omega (arith, length-append (closed x) (closed_all xs), length-append x (joined xs), closed-long x p.0, all-long xs p.1)

closed-part : (xs ys : List (List ℕ)) (y : List ℕ) → every card_head (xs ++ y ∷ ys) ≡ true
    → part (length (joined xs)) (length y) (closed_all (xs ++ y ∷ ys)) ≡ closed y
unfolding closed_all
closed-part xs ys y h =
    let p = every-at card_head xs ys y h in
    ap (part (length (joined xs)) (length y)) (closed-append xs (y ∷ ys))
    ∙ ap (take (length y)) (drop_at (closed_all xs) (closed y ++ closed_all ys) (length (joined xs)) (all-long xs p.0))
    ∙ take_at (closed y) (closed_all ys) (length y) (closed-long y p.1)

-- a card among those of a pooled judgement
module _ (before behind : List (List ℕ)) (card : List ℕ) where
  pub own-part : part (length (joined before)) (length card) (pooled before card behind) ≡ card
  own-part = ap (take (length card)) (drop_at (joined before) (card ++ joined behind) (length (joined before)) refl) ∙ take_at card (joined behind) (length card) refl

  module _ (told₁ : OwnLengths before) (own : length card ≡ 2 + of_be (part 0 2 card)) (told₂ : OwnLengths behind) where
    own-cut : cut (pooled before card behind) ≡ before ++ card ∷ behind
    unfolding joined
    own-cut = ap cut (sym (joined-both before (card ∷ behind))) ∙ cut-told (before ++ card ∷ behind) (told-append before (card ∷ behind) told₁ (own, told₂))

    pub own_read : read_all (cut (pooled before card behind)) ≡ read_all before ++ read_card card ∷ read_all behind
    unfolding read_all
    own_read = ap read_all own-cut ∙ read-append before (card ∷ behind)

    module _ (master : List ℕ) (e : pool_fault master (pooled before card behind) ≡ 0) where
      own-has : Pooled master (pooled before card behind)
      own-has = pool-has master (pooled before card behind) e

      own-test : (f : List ℕ → Bool) → every f (cut (pooled before card behind)) ≡ true → f card ≡ true
      own-test f h = (every-at f before behind card (ap (every f) (sym own-cut) ∙ h)).1

      pub own-order : InOrder (read_card card) × (1 ≤ (read_card card).open')
      own-order =
          let h = own-test card_head own-has.heads in (
            read-order card (head-sized card h).0 h (own-test in_limits own-has.limits),
            ltb-true 0 (read_card card).open' (own-test is_open own-has.opened),
          )

      pub own-closed : part (length (joined before)) (length card) (closed_all (cut (pooled before card behind))) ≡ closed card
      own-closed =
          ap (λ (xs : List (List ℕ)). part (length (joined before)) (length card) (closed_all xs)) own-cut
          ∙ closed-part before behind card (ap (every card_head) (sym own-cut) ∙ own-has.heads)

module _ (P : Primitives) (master : List ℕ) (cs : List Card) (reply : List ℕ) where
  abbrev t₁ : Bool
  t₁ = eqb (length reply) (37 + 75 * length cs)

  abbrev t₂ : Bool
  t₂ = eqb (of_be (part 0 2 reply)) (35 + 75 * length cs)

  abbrev t₃ : Bool
  t₃ = eqb (get_or reply 2 0) 1

  abbrev t₄ : Bool
  t₄ = eqb (of_be (part 3 2 reply)) (length cs)

  abbrev t₅ : Bool
  t₅ = all_pass P master cs (drop 37 reply)

  abbrev t₆ : Bool
  t₆ = same (pool_sum P master (replicate 32 0) cs (drop 37 reply)) (part 5 32 reply)

  fits-has : pool_fits P master cs reply ≡ true → PoolAccepted P master cs reply
  unfolding pool_fits
  fits-has h =
      let p₅ = both (t₁ && t₂ && t₃ && t₄ && t₅) t₆ h in
      let p₄ = both (t₁ && t₂ && t₃ && t₄) t₅ p₅.0 in
      let p₃ = both (t₁ && t₂ && t₃) t₄ p₄.0 in
      let p₂ = both (t₁ && t₂) t₃ p₃.0 in
      let p₁ = both t₁ t₂ p₂.0 in
      record {
        size = eqb-true (length reply) (37 + 75 * length cs) p₁.0;
        own_length = eqb-true (of_be (part 0 2 reply)) (35 + 75 * length cs) p₁.1;
        own_version = eqb-true (get_or reply 2 0) 1 p₂.1;
        own_number = eqb-true (of_be (part 3 2 reply)) (length cs) p₃.1;
        all = p₄.1;
        sum = same_true (pool_sum P master (replicate 32 0) cs (drop 37 reply)) (part 5 32 reply) p₅.1;
      }

  fits-is : PoolAccepted P master cs reply → pool_fits P master cs reply ≡ true
  unfolding pool_fits
  fits-is a =
      rw (
        eq-eqb (length reply) (37 + 75 * length cs) a.size,
        eq-eqb (of_be (part 0 2 reply)) (35 + 75 * length cs) a.own_length,
        eq-eqb (get_or reply 2 0) 1 a.own_version,
        eq-eqb (of_be (part 3 2 reply)) (length cs) a.own_number,
        a.all,
        a.sum,
        same_refl (part 5 32 reply),
      )

  pub pool-exactly : (pool_verdict P master cs reply ≡ 0) ↔ PoolAccepted P master cs reply
  unfolding pool_verdict
  pool-exactly = (λ h. fits-has (go (pool_fits P master cs reply) h), λ a. rw (fits-is a))
    where
      go : (b : Bool) → ◌≡◌ {A = ℕ} (cond b 0 11) 0 → b ≡ true
      go true h = refl
      go false h = absurd (omega arith)
