-- Cards that lie end to end, cut by their length fields. Assumes nothing.
--   fault-end, fault-short .. fault-next        the code of cards from the tests of the first
--   First, first-card                           what the first card has where the code is 0
--   every-none, every-first                     a test of every card, of those from the first on
--   all, opened, every-read                     a test of their numbers; all-more, all-done: one more answer, and the answers of all
--   read-none, read-first, count-read, count-least       their numbers, and how many there are
--   card, Here, here                            the card at an offset, and what it has where the cards from there on have code 0
--   lent-long, two-more, cut-end, every_here    the bytes that are lent of it, those of its length field, no cards, and a test of those from there on
use Prim.Native.Nat.{ℕ, zero, suc, ◌+◌, ◌-◌, ◌≤◌, ◌<◌}
use native.Mathlib.Omega.{arith}
use mathlib.Core.Path.{◌≡◌, refl, sym, ap, ap₂, ◌∙◌}
use mathlib.Core.List.{List, [], ◌∷◌}
use mathlib.Core.Bool.{Bool, true, false, cond, ◌&&◌, ◌||◌, and_assoc}
use borrow.Author.Tests.{eq-eqb, ne_eqb, eqb-true, eqb-false, le-leb, lt-leb, leb-true}
use lib.Dec.{eqb, leb, ltb}
use lib.ListN.{length, take, drop, length-drop}
use lib.Seq.{drop-drop}
use Rattle.octets.specs.Octets.{of_be, part}
use Rattle.octets.proofs.PartLaws.{length_part}
use Rattle.scheme.specs.Checks.{first}
use Rattle.scheme.specs.Records.{Card, read_card}
use Rattle.scheme.specs.Pools.{cut_code, cut_cards, cut_fault, cut, read_all, every}
use Rattle.scheme.proofs.laws.CheckLaws.{both}

-- the length field of the first card, and the bytes of the card
abbrev field : List ℕ → ℕ
field xs = of_be (part 0 2 xs)

abbrev long : List ℕ → ℕ
long xs = 2 + field xs

abbrev checks : List ℕ → List (Bool × ℕ)
checks xs = (leb 2 (length xs), 1) ∷ (eqb (field xs) 41 || eqb (field xs) 61, 2) ∷ (leb (long xs) (length xs), 1) ∷ []

-- as much fuel as there are bytes is enough
code-fuel : (j k : ℕ) (xs : List ℕ) → length xs ≤ j → length xs ≤ k → cut_code j xs ≡ cut_code k xs
unfolding cut_code
code-fuel zero zero xs h g = refl
code-fuel zero (suc k) xs h g = rw (eq-eqb (length xs) 0 (omega arith))
code-fuel (suc j) zero xs h g = rw (eq-eqb (length xs) 0 (omega arith))
code-fuel (suc j) (suc k) xs h g =
    ap (λ (n : ℕ). cond (eqb (length xs) 0) 0 (first n (checks xs)))
    (code-fuel j k (drop (long xs) xs) (omega (arith, length-drop (long xs) xs)) (omega (arith, length-drop (long xs) xs)))

cards-fuel : (j k : ℕ) (xs : List ℕ) → length xs ≤ j → length xs ≤ k → cut_cards j xs ≡ cut_cards k xs
unfolding cut_cards
cards-fuel zero zero xs h g = refl
cards-fuel zero (suc k) xs h g = rw (eq-eqb (length xs) 0 (omega arith))
cards-fuel (suc j) zero xs h g = rw (eq-eqb (length xs) 0 (omega arith))
cards-fuel (suc j) (suc k) xs h g =
    ap (λ (l : List (List ℕ)). cond (eqb (length xs) 0) [] (take (long xs) xs ∷ l))
    (cards-fuel j k (drop (long xs) xs) (omega (arith, length-drop (long xs) xs)) (omega (arith, length-drop (long xs) xs)))

module _ (xs : List ℕ) where
  code-front : cut_fault xs ≡ cond (eqb (length xs) 0) 0 (first (cut_fault (drop (long xs) xs)) (checks xs))
  unfolding cut_fault cut_code
  code-front =
      code-fuel (length xs) (suc (length xs)) xs (omega arith) (omega arith)
      ∙ ap (λ (n : ℕ). cond (eqb (length xs) 0) 0 (first n (checks xs)))
      (code-fuel (length xs) (length (drop (long xs) xs)) (drop (long xs) xs) (omega (arith, length-drop (long xs) xs)) (omega arith))

  cards-front : cut xs ≡ cond (eqb (length xs) 0) [] (take (long xs) xs ∷ cut (drop (long xs) xs))
  unfolding cut cut_cards
  cards-front =
      cards-fuel (length xs) (suc (length xs)) xs (omega arith) (omega arith)
      ∙ ap (λ (l : List (List ℕ)). cond (eqb (length xs) 0) [] (take (long xs) xs ∷ l))
      (cards-fuel (length xs) (length (drop (long xs) xs)) (drop (long xs) xs) (omega (arith, length-drop (long xs) xs)) (omega arith))

  cut-none : length xs ≡ 0 → cut xs ≡ []
  cut-none h = cards-front ∙ rw (eq-eqb (length xs) 0 h)

  cut-more : 1 ≤ length xs → cut xs ≡ take (long xs) xs ∷ cut (drop (long xs) xs)
  cut-more h = cards-front ∙ rw (ne_eqb (length xs) 0 (λ z. omega arith))

  -- the code from its tests
  code-end : length xs ≡ 0 → 0 ≡ cut_fault xs
  code-end h = sym (code-front ∙ rw (eq-eqb (length xs) 0 h))

  module _ (some : 1 ≤ length xs) where
    code-more : cut_fault xs ≡ first (cut_fault (drop (long xs) xs)) (checks xs)
    code-more = code-front ∙ rw (ne_eqb (length xs) 0 (λ z. omega arith))

    code-short : length xs < 2 → 1 ≡ cut_fault xs
    unfolding first
    code-short h = sym (code-more ∙ rw (lt-leb 2 (length xs) h))

    code-field : 2 ≤ length xs → (eqb (field xs) 41 || eqb (field xs) 61) ≡ false → 2 ≡ cut_fault xs
    unfolding first
    code-field h f = sym (code-more ∙ rw (le-leb 2 (length xs) h, f))

    code-rest : 2 ≤ length xs → (eqb (field xs) 41 || eqb (field xs) 61) ≡ true → length xs < long xs → 1 ≡ cut_fault xs
    unfolding first
    code-rest h f l = sym (code-more ∙ rw (le-leb 2 (length xs) h, f, lt-leb (long xs) (length xs) l))

    code-next : 2 ≤ length xs → (eqb (field xs) 41 || eqb (field xs) 61) ≡ true → long xs ≤ length xs → cut_fault xs ≡ cut_fault (drop (long xs) xs)
    unfolding first
    code-next h f l = code-more ∙ rw (le-leb 2 (length xs) h, f, le-leb (long xs) (length xs) l)

    -- and back to them
    held : (n : ℕ) (a b c : Bool) → first n ((a, 1) ∷ (b, 2) ∷ (c, 1) ∷ []) ≡ 0 → (b ≡ true) × (c ≡ true) × (n ≡ 0)
    unfolding first
    held n true true true h = (refl, refl, h)
    held n true true false h = absurd (omega arith)
    held n true false c h = absurd (omega arith)
    held n false b c h = absurd (omega arith)

    front : cut_fault xs ≡ 0 → ((eqb (field xs) 41 || eqb (field xs) 61) ≡ true) × (leb (long xs) (length xs) ≡ true) × (cut_fault (drop (long xs) xs) ≡ 0)
    front z = held (cut_fault (drop (long xs) xs)) (leb 2 (length xs)) (eqb (field xs) 41 || eqb (field xs) 61) (leb (long xs) (length xs)) (sym code-more ∙ z)

either-of : (n : ℕ) → (eqb n 41 || eqb n 61) ≡ true → (41 ≤ n) × (n ≤ 61)
either-of n h = go (eqb n 41) refl h
  where
    go : (b : Bool) → eqb n 41 ≡ b → (b || eqb n 61) ≡ true → (41 ≤ n) × (n ≤ 61)
    go true e k = let z = eqb-true n 41 e in (omega arith, omega arith)
    go false e k = let z = eqb-true n 61 k in (omega arith, omega arith)

-- the length field against the bytes of the card
shifted : (f k : ℕ) → eqb (2 + f) (2 + k) ≡ eqb f k
shifted f k = go (eqb f k) refl
  where
    go : (b : Bool) → eqb f k ≡ b → eqb (2 + f) (2 + k) ≡ eqb f k
    go true e = eq-eqb (2 + f) (2 + k) (omega (arith, eqb-true f k e)) ∙ sym e
    go false e = ne_eqb (2 + f) (2 + k) (λ z. eqb-false f k e (omega arith)) ∙ sym e

-- the code of cards from the tests of the first, of n bytes
pub fault-end : (xs : List ℕ) → length xs ≡ 0 → 0 ≡ cut_fault xs
fault-end = code-end

module _ (xs : List ℕ) (some : 1 ≤ length xs) where
  pub fault-short : length xs < 2 → 1 ≡ cut_fault xs
  fault-short = code-short xs some

  module _ (n : ℕ) (e : n ≡ 2 + of_be (part 0 2 xs)) (two : 2 ≤ length xs) where
    known : (eqb (field xs) 41 || eqb (field xs) 61) ≡ (eqb n 43 || eqb n 63)
    known = sym (ap (λ (m : ℕ). eqb m 43 || eqb m 63) e ∙ ap₂ (λ (x y : Bool). x || y) (shifted (field xs) 41) (shifted (field xs) 61))

    pub fault-field : (eqb n 43 || eqb n 63) ≡ false → 2 ≡ cut_fault xs
    fault-field f = code-field xs some two (known ∙ f)

    pub fault-rest : (eqb n 43 || eqb n 63) ≡ true → length xs < n → 1 ≡ cut_fault xs
    fault-rest f l = code-rest xs some two (known ∙ f) (omega arith)

    pub fault-next : (eqb n 43 || eqb n 63) ≡ true → n ≤ length xs → cut_fault xs ≡ cut_fault (drop n xs)
    fault-next f l = code-next xs some two (known ∙ f) (omega arith) ∙ ap (λ (m : ℕ). cut_fault (drop m xs)) (sym e)

-- the first card, of n bytes, where the code is 0
pub record First (xs : List ℕ) (n : ℕ) : Type 0 where
  pub least : 43 ≤ n
  pub room : n ≤ length xs
  pub later : cut_fault (drop n xs) ≡ 0
  pub split : cut xs ≡ take n xs ∷ cut (drop n xs)

pub first-card : (xs : List ℕ) (n : ℕ) → n ≡ 2 + of_be (part 0 2 xs) → 1 ≤ length xs → cut_fault xs ≡ 0 → First xs n
first-card xs n e some z =
    let f = front xs some z in
    let k = either-of (field xs) f.0 in
    let r = leb-true (long xs) (length xs) f.1 in
    record {
      least = omega arith;
      room = omega arith;
      later = ap (λ (m : ℕ). cut_fault (drop m xs)) e ∙ f.2;
      split = cut-more xs some ∙ ap (λ (m : ℕ). take m xs ∷ cut (drop m xs)) (sym e);
    }

cards-least : (k : ℕ) (xs : List ℕ) → length (cut_cards k xs) ≤ k
unfolding cut_cards
cards-least zero xs = omega arith
cards-least (suc k) xs = go (eqb (length xs) 0) (cards-least k (drop (long xs) xs))
  where
    go : (b : Bool) → length (cut_cards k (drop (long xs) xs)) ≤ k → length (cond b [] (take (long xs) xs ∷ cut_cards k (drop (long xs) xs))) ≤ suc k
    go true h = omega arith
    go false h = omega arith

-- there are not more cards than bytes
pub count-least : (xs : List ℕ) → length (cut xs) ≤ length xs
unfolding cut
count-least xs = cards-least (length xs) xs

-- a test of every card, and of its numbers
pub every-none : (f : List ℕ → Bool) (xs : List ℕ) → length xs ≡ 0 → every f (cut xs) ≡ true
unfolding every
every-none f xs h = ap (every f) (cut-none xs h)

pub every-first : (f : List ℕ → Bool) (xs x ys : List ℕ) → cut xs ≡ x ∷ cut ys → every f (cut xs) ≡ (f x && every f (cut ys))
unfolding every
every-first f xs x ys e = ap (every f) e

abbrev pub all : (Card → Bool) → List Card → Bool
all f [] = true
all f (c ∷ cs) = f c && all f cs

-- whether a token is open
abbrev pub opened : Card → Bool
opened c = ltb 0 c.open'

pub every-read : (f : Card → Bool) (xs : List (List ℕ)) → every (λ x. f (read_card x)) xs ≡ all f (read_all xs)
unfolding every read_all
every-read f [] = refl
every-read f (x ∷ xs) = ap (λ (b : Bool). f (read_card x) && b) (every-read f xs)

-- the numbers of the cards
pub read-none : (xs : List ℕ) → length xs ≡ 0 → read_all (cut xs) ≡ []
unfolding read_all
read-none xs h = ap read_all (cut-none xs h)

pub read-first : (xs x ys : List ℕ) → cut xs ≡ x ∷ cut ys → read_all (cut xs) ≡ read_card x ∷ read_all (cut ys)
unfolding read_all
read-first xs x ys e = ap read_all e

pub count-read : (xs : List (List ℕ)) → length (read_all xs) ≡ length xs
unfolding read_all
count-read [] = refl
count-read (x ∷ xs) = ap suc (count-read xs)

-- the card of n bytes that is lent from an offset on
abbrev pub card : List ℕ → ℕ → ℕ → List ℕ
card cards at n = part at (at + n - at) cards

pub record Here (cards : List ℕ) (at n : ℕ) : Type 0 where
  pub least : 43 ≤ n
  pub most : n ≤ 63
  pub room : at + n ≤ length cards
  pub later : cut_fault (drop (at + n) cards) ≡ 0
  pub split : cut (drop at cards) ≡ card cards at n ∷ cut (drop (at + n) cards)

pub here : (cards : List ℕ) (at n : ℕ) → n ≡ 2 + of_be (part at 2 cards) → at < length cards → cut_fault (drop at cards) ≡ 0 → Here cards at n
here cards at n e h z =
    let xs = drop at cards in
    let d : length xs ≡ length cards - at = length-drop at cards in
    let some : 1 ≤ length xs = omega arith in
    let f = front xs some z in
    let k = either-of (field xs) f.0 in
    let r = leb-true (long xs) (length xs) f.1 in
    let behind : drop (long xs) xs ≡ drop (at + n) cards = drop-drop (long xs) at cards ∙ ap (λ (m : ℕ). drop (at + m) cards) (sym e) in
    let same : at + n - at ≡ long xs = omega arith in
    record {
      least = omega arith;
      most = omega arith;
      room = omega arith;
      later = ap cut_fault (sym behind) ∙ f.2;
      split = cut-more xs some ∙ ap₂ (λ (m : ℕ) (l : List ℕ). take m xs ∷ cut l) (sym same) behind;
    }

pub lent-long : (cards : List ℕ) (at n : ℕ) → Here cards at n → length (card cards at n) ≡ n
lent-long cards at n h = let k : at + n - at ≡ n = omega arith in length_part at (at + n - at) cards (omega (arith, h.room)) ∙ k

pub two-more : (cards : List ℕ) (at : ℕ) → at < length cards → cut_fault (drop at cards) ≡ 0 → at + 2 ≤ length cards
two-more cards at h z = let k = here cards at (2 + of_be (part at 2 cards)) refl h z in omega (arith, k.room, k.least)

pub cut-end : (cards : List ℕ) (at : ℕ) → length cards ≤ at → cut (drop at cards) ≡ []
cut-end cards at h = cut-none (drop at cards) (omega (arith, length-drop at cards))

pub every_here : (f : List ℕ → Bool) (cards : List ℕ) (at n : ℕ) → Here cards at n → every f (cut (drop at cards)) ≡ true
    → (f (card cards at n) ≡ true) × (every f (cut (drop (at + n) cards)) ≡ true)
unfolding every
every_here f cards at n h e = both (f (card cards at n)) (every f (cut (drop (at + n) cards))) (sym (ap (every f) h.split) ∙ e)

-- one more answer beside those before, and the answers of all
pub all-more : (f : Card → Bool) (b : Bool) (cs before after : List Card) (c : Card) → all f cs ≡ (b && all f before) → before ≡ c ∷ after
    → all f cs ≡ ((b && f c) && all f after)
all-more f b cs before after c w e = w ∙ ap (λ (l : List Card). b && all f l) e ∙ sym (and_assoc b (f c) (all f after))

pub all-done : (f : Card → Bool) (xs : List (List ℕ)) (b : Bool) (rest : List Card) → all f (read_all xs) ≡ (b && all f rest) → rest ≡ []
    → b ≡ every (λ x. f (read_card x)) xs
all-done f xs b rest w e = sym (every-read f xs ∙ w ∙ ap (λ (l : List Card). b && all f l) e ∙ alone b)
  where
    alone : (b : Bool) → (b && true) ≡ b
    alone true = refl
    alone false = refl
