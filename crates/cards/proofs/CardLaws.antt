-- A card from its fields, the tests of its fields, and its bytes. Assumes nothing.
--   card-is                                    a card from its fields
--   turn-none, turn_is                         the tests of next and open
--   card-fits-is, asks-fit-is                  the tests of a card joined, and those of what it tells of asks
--   length_three, length-other, length-least   what a card's length field says
--   sized-least, head-is                       the size of a card, and the tests of its head joined
--   cond-three, untold                               what version 3 alone tells
--   card-plain, card-asking                    the bytes of a card: the 43 that every card has, alone, and with 20 behind them
use Prim.Native.Nat.{ℕ, ◌+◌, ◌-◌, ◌≤◌, ◌<◌}
use native.Mathlib.Omega.{arith}
use mathlib.Core.Path.{◌≡◌, refl, sym, ap, ap₂, ◌∙◌}
use mathlib.Core.List.{List, [], ◌∷◌, ◌++◌, append-nil}
use mathlib.Core.Bool.{Bool, true, false, cond, ◌&&◌, ◌||◌, and_assoc}
use borrow.Author.Tests.{eqb-true, le-leb, lt-leb, leb-true, leb-false, eq-eqb, ne_eqb}
use lib.Dec.{eqb, leb, ltb}
use lib.ListN.{length, get_or, replicate, length-append}
use Rattle.octets.specs.Octets.{be, of_be, part, put}
use Rattle.octets.proofs.NumberLaws.{length-be}
use Rattle.octets.proofs.PartLaws.{put-put, put_whole}
use Rattle.scheme.specs.Checks.{within}
use Rattle.scheme.specs.Records.{Card, card_length, card_bytes, read_card, card_sized, head_known, card_head, shape_fits, token_fits, blocks_fit, asks_fit, card_fits}
use Rattle.records.proofs.FieldLaws as F
use Rattle.cards.specs.Fields.{front_bytes, ask_bytes}

pub card-is : (xs : List ℕ) {id : List ℕ} {v B d r t n ctr next o last pending count : ℕ}
    → v ≡ get_or xs 2 0 → id ≡ part 3 8 xs → B ≡ of_be (part 11 2 xs) → d ≡ of_be (part 13 4 xs) → r ≡ of_be (part 17 2 xs) → t ≡ of_be (part 19 4 xs)
    → n ≡ of_be (part 23 4 xs) → ctr ≡ of_be (part 27 8 xs) → next ≡ of_be (part 35 4 xs) → o ≡ of_be (part 39 4 xs)
    → last ≡ cond (eqb v 3) (of_be (part 43 8 xs)) ctr → pending ≡ cond (eqb v 3) (of_be (part 51 8 xs)) 0 → count ≡ cond (eqb v 3) (of_be (part 59 4 xs)) 0
    → ◌≡◌ {A = Card}
    (record { version = v; id = id; B = B; d = d; r = r; t = t; n = n; ctr = ctr; next = next; open' = o; last = last; pending = pending; count = count }) (read_card xs)
unfolding read_card
card-is xs p₀ p₁ p₂ p₃ p₄ p₅ p₆ p₇ p₈ p₉ q₀ q₁ q₂ =
    let r₀ = q₀ ∙ ap₂ (λ (v n : ℕ). cond (eqb v 3) (of_be (part 43 8 xs)) n) p₀ p₇ in
    let r₁ = q₁ ∙ ap (λ (v : ℕ). cond (eqb v 3) (of_be (part 51 8 xs)) 0) p₀ in
    let r₂ = q₂ ∙ ap (λ (v : ℕ). cond (eqb v 3) (of_be (part 59 4 xs)) 0) p₀ in
    λ j. record {
      version = p₀ j;
      id = p₁ j;
      B = p₂ j;
      d = p₃ j;
      r = p₄ j;
      t = p₅ j;
      n = p₆ j;
      ctr = p₇ j;
      next = p₈ j;
      open' = p₉ j;
      last = r₀ j;
      pending = r₁ j;
      count = r₂ j;
    }

-- the tests of next and open
pub turn-none : (t next : ℕ) (x : Bool) → next < 1 → false ≡ (within 1 (t + 1) next && x)
turn-none t next x h = rw (lt-leb 1 next h)

pub turn_is : (t next : ℕ) (x : Bool) → 1 ≤ next → (leb (next - 1) t && x) ≡ (within 1 (t + 1) next && x)
turn_is t next x h = rw (le-leb 1 next h) (ap (λ (b : Bool). b && x) (go (leb (next - 1) t) refl))
  where
    go : (b : Bool) → leb (next - 1) t ≡ b → leb (next - 1) t ≡ leb next (t + 1)
    go true e = e ∙ sym (le-leb next (t + 1) (omega (arith, leb-true (next - 1) t e)))
    go false e = e ∙ sym (lt-leb next (t + 1) (omega (arith, leb-false (next - 1) t e)))

pub card-fits-is : (c : Card) {s t b u a : Bool} → s ≡ shape_fits c.B c.d c.r → t ≡ token_fits c.t → b ≡ blocks_fit c.n
    → u ≡ (within 1 (c.t + 1) c.next && (eqb c.open' 0 || eqb c.open' (c.next - 1))) → a ≡ asks_fit c
    → (s && t && b && leb c.ctr 4294967295 && u && a) ≡ card_fits c
unfolding card_fits
card-fits-is c p q r z w =
    rw (p, q, r, z, w)
    (ap (λ (x : Bool). x && asks_fit c)
    (sym (and_assoc (shape_fits c.B c.d c.r && token_fits c.t && blocks_fit c.n && leb c.ctr 4294967295)
    (within 1 (c.t + 1) c.next) (eqb c.open' 0 || eqb c.open' (c.next - 1)))))

-- the tests of what is cond-three of asks
pub asks-fit-is : (c : Card) {i k : Bool} → i ≡ within c.ctr 4294967295 c.last → k ≡ within c.n 16777216 c.count
    → (i && ((eqb c.pending 0 && eqb c.count 0) || (eqb c.pending c.last && ltb c.ctr c.pending && k && eqb c.open' 0))) ≡ asks_fit c
unfolding asks_fit
asks-fit-is c p q = rw (p, q)

-- the length that a version's length field says
pub length_three : (v : ℕ) → v ≡ 3 → card_length v ≡ 61
unfolding card_length
length_three v e = rw (eq-eqb v 3 e)

pub length-other : (v : ℕ) → (v ≡ 3 → ⊥) → card_length v ≡ 41
unfolding card_length
length-other v n = rw (ne_eqb v 3 n)

pub length-least : (v : ℕ) → 41 ≤ card_length v
unfolding card_length
length-least v = go (eqb v 3)
  where
    go : (b : Bool) → 41 ≤ cond b 61 41
    go true = omega arith
    go false = omega arith

pub sized-least : (xs : List ℕ) → card_sized xs ≡ true → 43 ≤ length xs
unfolding card_sized
sized-least xs h = go (eqb (length xs) 43) refl h
  where
    go : (b : Bool) → eqb (length xs) 43 ≡ b → b || eqb (length xs) 63 ≡ true → 43 ≤ length xs
    go true e k = omega (arith, eqb-true (length xs) 43 e)
    go false e k = omega (arith, eqb-true (length xs) 63 k)

-- the tests of a head joined
pub head-is : (xs : List ℕ) {v long : ℕ} {known : Bool} → v ≡ get_or xs 2 0 → long ≡ card_length v → known ≡ head_known long xs
    → (known && eqb (length xs) (2 + long)) ≡ card_head xs
unfolding card_head
head-is xs {v} {long} {known} p q r =
    let e : long ≡ card_length (get_or xs 2 0) = q ∙ ap card_length p in
    ap₂ (λ (b : Bool) (n : ℕ). b && eqb (length xs) (2 + n)) (r ∙ ap (λ (n : ℕ). head_known n xs) e) e

-- what version 3 alone tells
pub cond-three : (v x y : ℕ) → v ≡ 3 → x ≡ cond (eqb v 3) x y
cond-three v x y e = rw (eq-eqb v 3 e)

pub untold : (v x y : ℕ) → (v ≡ 3 → ⊥) → y ≡ cond (eqb v 3) x y
untold v x y n = rw (ne_eqb v 3 n)

-- the bytes of a card
module _ (c : Card) (id8 : length c.id ≡ 8) where
  front_long : length (front_bytes c) ≡ 43
  unfolding front_bytes
  front_long =
      let s₁ =
      F.opened 43 11 (be 2 (card_length c.version) ++ (c.version ∷ []) ++ c.id) (replicate 43 0) refl (F.front_long (card_length c.version) c.version c.id id8) refl in
      let s₂ = F.shape c.B c.d c.r s₁ refl refl in
      let s₃ = F.number 4 c.n (F.number 4 c.t s₂ refl refl) refl refl in
      (F.number 4 c.open' (F.number 4 c.next (F.number 8 c.ctr s₃ refl refl) refl refl) refl refl).ends

  asks-long : length (ask_bytes c) ≡ 20
  unfolding ask_bytes
  asks-long =
      let s₁ = F.opened 20 8 (be 8 c.last) (replicate 20 0) refl (length-be 8 c.last) refl in
      (F.number 4 c.count (F.number 8 c.pending s₁ refl refl) refl refl).ends

  -- of versions 1 and 2
  pub card-plain : (s : List ℕ) {t : List ℕ} → (c.version ≡ 3 → ⊥) → length s ≡ 2 + card_length c.version → t ≡ put 0 (front_bytes c) s → t ≡ card_bytes c
  unfolding card_bytes front_bytes
  card-plain s other h e =
      let v : eqb c.version 3 ≡ false = ne_eqb c.version 3 other in
      let l : length (front_bytes c) ≡ length s = omega (arith, h, front_long, length-other c.version other) in
      e ∙ put_whole (front_bytes c) s l ∙ sym (append-nil (front_bytes c)) ∙ rw v

  -- of version 3
  pub card-asking : (s : List ℕ) {t u : List ℕ} → c.version ≡ 3 → length s ≡ 2 + card_length c.version → t ≡ put 0 (front_bytes c) s → u ≡ put 43 (ask_bytes c) t
      → u ≡ card_bytes c
  unfolding card_bytes front_bytes ask_bytes
  card-asking s three h e f =
      let v : eqb c.version 3 ≡ true = eq-eqb c.version 3 three in
      let n : length (front_bytes c ++ ask_bytes c) ≡ 63 = omega (arith, length-append (front_bytes c) (ask_bytes c), front_long, asks-long) in
      let l : length s ≡ 63 = omega (arith, h, length_three c.version three) in
      let i : 43 ≡ 0 + length (front_bytes c) = omega (arith, front_long) in
      f
      ∙ ap₂ (λ (k : ℕ) (x : List ℕ). put k (ask_bytes c) x) i e
      ∙ put-put 0 (front_bytes c) (ask_bytes c) s (omega (arith, l, front_long, asks-long))
      ∙ put_whole (front_bytes c ++ ask_bytes c) s (n ∙ sym l)
      ∙ rw v
