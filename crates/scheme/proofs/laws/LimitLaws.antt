-- The limits of set-up's numbers, a card and a message, as facts about numbers. Assumes nothing.
--   Shape, shape-limits, limits-shape    B, d and r
--   Limits, card-limits, limits-card     all numbers of a card; open-most: what open is at most
--   Asking, card-asks, asks_none, asks-some   what is pending of a card
--   limits-small, read_plain             they fit the widths of their fields; what versions 1 and 2 read as
--   message-limits                       the numbers of a message
use Prim.Native.Nat.{ℕ, ◌+◌, ◌-◌, ◌≤◌, ◌<◌, min}
use native.Mathlib.Omega.{arith}
use mathlib.Core.Path.{◌≡◌, refl}
use mathlib.Core.List.{List}
use lib.ListN.{length}
use mathlib.Core.Bool.{Bool, true, false, ◌&&◌, ◌||◌, or-true}
use borrow.Author.Tests.{eqb-true, leb-true, ltb-true, eq-eqb, le-leb, lt-ltb}
use lib.Dec.{eqb, leb, ltb}
use Rattle.scheme.specs.Checks.{within}
use Rattle.scheme.specs.Records.{Card, read_card, shape_fits, token_fits, blocks_fit, asks_fit, card_fits, Message, message_fits}
use Rattle.scheme.proofs.laws.RecordLaws.{CardSmall}
use Rattle.scheme.proofs.laws.CheckLaws.{both, pair, within-true, in-range, either}

pub record Shape (B d r : ℕ) : Type 0 where
  pub B1 : 1 ≤ B
  pub Bmost : B ≤ 4096
  pub d1 : 1 ≤ d
  pub dmost : d ≤ 1048576
  pub r1 : 1 ≤ r
  pub rd : r ≤ d
  pub rmost : r ≤ 512

pub shape-limits : (B d r : ℕ) → shape_fits B d r ≡ true → Shape B d r
unfolding shape_fits
shape-limits B d r h =
    let p = both (within 1 4096 B && within 1 1048576 d) (within 1 (min d 512) r) h in
    let q = both (within 1 4096 B) (within 1 1048576 d) p.0 in
    let w_b = within-true 1 4096 B q.0 in
    let wd = within-true 1 1048576 d q.1 in
    let wr = within-true 1 (min d 512) r p.1 in
    record { B1 = w_b.0; Bmost = w_b.1; d1 = wd.0; dmost = wd.1; r1 = wr.0; rd = omega (arith, wr.1); rmost = omega (arith, wr.1) }

pub limits-shape : (B d r : ℕ) → Shape B d r → shape_fits B d r ≡ true
unfolding shape_fits
limits-shape B d r s =
    pair _ _ (pair _ _ (in-range 1 4096 B s.B1 s.Bmost) (in-range 1 1048576 d s.d1 s.dmost))
    (in-range 1 (min d 512) r s.r1 (omega arith))

pub record Limits (B d r t n ctr next o : ℕ) : Type 0 where
  pub shape : Shape B d r
  pub t1 : 1 ≤ t
  pub tmost : t ≤ 65536
  pub n1 : 1 ≤ n
  pub nmost : n ≤ 16777216
  pub ctrmost : ctr ≤ 4294967295
  pub next1 : 1 ≤ next
  pub nextmost : next ≤ t + 1
  pub last : (eqb o 0 || eqb o (next - 1)) ≡ true

-- what of a card has no pending change in it
abbrev standing_fits : Card → Bool
standing_fits c =
    shape_fits c.B c.d c.r && token_fits c.t && blocks_fit c.n && leb c.ctr 4294967295
    && within 1 (c.t + 1) c.next && (eqb c.open' 0 || eqb c.open' (c.next - 1))

pub card-limits : (c : Card) → card_fits c ≡ true → Limits c.B c.d c.r c.t c.n c.ctr c.next c.open'
unfolding card_fits token_fits blocks_fit
card-limits c h =
    let shaped = shape_fits c.B c.d c.r in
    let tokens = within 1 65536 c.t in
    let blocks = within 1 16777216 c.n in
    let counter = leb c.ctr 4294967295 in
    let turn = within 1 (c.t + 1) c.next in
    let p₀ = both (standing_fits c) (asks_fit c) h in
    let p₁ = both (shaped && tokens && blocks && counter && turn) (eqb c.open' 0 || eqb c.open' (c.next - 1)) p₀.0 in
    let p₂ = both (shaped && tokens && blocks && counter) turn p₁.0 in
    let p₃ = both (shaped && tokens && blocks) counter p₂.0 in
    let p₄ = both (shaped && tokens) blocks p₃.0 in
    let p₅ = both shaped tokens p₄.0 in
    let wt = within-true 1 65536 c.t p₅.1 in
    let wn = within-true 1 16777216 c.n p₄.1 in
    let wx = within-true 1 (c.t + 1) c.next p₂.1 in
    record {
      shape = shape-limits c.B c.d c.r p₅.0;
      t1 = wt.0;
      tmost = wt.1;
      n1 = wn.0;
      nmost = wn.1;
      ctrmost = leb-true c.ctr 4294967295 p₃.1;
      next1 = wx.0;
      nextmost = wx.1;
      last = p₁.1;
    }

-- what is pending, of a card within the limits
pub record Asking (c : Card) : Type 0 where
  pub low : c.ctr ≤ c.last
  pub most : c.last ≤ 4294967295
  pub pend : c.pending ≤ c.last
  pub countmost : c.count ≤ 16777216
  pub idle : c.pending ≡ 0 → c.count ≡ 0
  pub busy : 1 ≤ c.pending → (c.pending ≡ c.last) × (c.ctr < c.pending) × (c.n ≤ c.count) × (c.open' ≡ 0)

asks-limits : (c : Card) → asks_fit c ≡ true → Asking c
unfolding asks_fit
asks-limits c h = go (eqb c.pending 0 && eqb c.count 0) refl p.1
  where
    nothing : Bool
    nothing = eqb c.pending 0 && eqb c.count 0

    something : Bool
    something = eqb c.pending c.last && ltb c.ctr c.pending && within c.n 16777216 c.count && eqb c.open' 0

    p : (within c.ctr 4294967295 c.last ≡ true) × (nothing || something ≡ true)
    p = both (within c.ctr 4294967295 c.last) (nothing || something) h

    w : (c.ctr ≤ c.last) × (c.last ≤ 4294967295)
    w = within-true c.ctr 4294967295 c.last p.0

    go : (b : Bool) → nothing ≡ b → b || something ≡ true → Asking c
    go true e k =
        let q = both (eqb c.pending 0) (eqb c.count 0) e in
        let z = eqb-true c.pending 0 q.0 in
        let y = eqb-true c.count 0 q.1 in
        record { low = w.0; most = w.1; pend = omega arith; countmost = omega arith; idle = λ i. y; busy = λ i. absurd (omega arith) }
    go false e k =
        let q₁ = both (eqb c.pending c.last && ltb c.ctr c.pending && within c.n 16777216 c.count) (eqb c.open' 0) k in
        let q₂ = both (eqb c.pending c.last && ltb c.ctr c.pending) (within c.n 16777216 c.count) q₁.0 in
        let q₃ = both (eqb c.pending c.last) (ltb c.ctr c.pending) q₂.0 in
        let z = eqb-true c.pending c.last q₃.0 in
        let y = ltb-true c.ctr c.pending q₃.1 in
        let u = within-true c.n 16777216 c.count q₂.1 in
        record {
          low = w.0;
          most = w.1;
          pend = omega arith;
          countmost = u.1;
          idle = λ i. absurd (omega arith);
          busy = λ i. (z, y, u.0, eqb-true c.open' 0 q₁.1);
        }

pub card-asks : (c : Card) → card_fits c ≡ true → Asking c
unfolding card_fits
card-asks c h = asks-limits c (both (standing_fits c) (asks_fit c) h).1

-- nothing pending, and something
pub asks_none : (c : Card) → c.ctr ≤ c.last → c.last ≤ 4294967295 → c.pending ≡ 0 → c.count ≡ 0 → asks_fit c ≡ true
unfolding asks_fit
asks_none c h l p q = rw (in-range c.ctr 4294967295 c.last h l, p, q)

pub asks-some : (c : Card) → c.ctr < c.last → c.last ≤ 4294967295 → c.pending ≡ c.last → c.n ≤ c.count → c.count ≤ 16777216 → c.open' ≡ 0
    → asks_fit c ≡ true
unfolding asks_fit
asks-some c h l p n m o =
    pair _ _ (in-range c.ctr 4294967295 c.last (omega arith) l)
    (rw (eq-eqb c.pending c.last p, lt-ltb c.ctr c.pending (omega arith), in-range c.n 16777216 c.count n m, o)
    (or-true (eqb c.pending 0 && eqb c.count 0)))

pub limits-card : (c : Card) → Limits c.B c.d c.r c.t c.n c.ctr c.next c.open' → asks_fit c ≡ true → card_fits c ≡ true
unfolding card_fits token_fits blocks_fit
limits-card c l asks =
    pair _ _ (pair _ _ (pair _ _ (pair _ _ (pair _ _ (pair _ _ (limits-shape c.B c.d c.r l.shape) (in-range 1 65536 c.t l.t1 l.tmost))
    (in-range 1 16777216 c.n l.n1 l.nmost))
    (le-leb c.ctr 4294967295 l.ctrmost))
    (in-range 1 (c.t + 1) c.next l.next1 l.nextmost))
    l.last)
    asks

-- an open token is the last one drawn, and so open is at most t
module _ (B d r t n ctr next o : ℕ) (l : Limits B d r t n ctr next o) where
  pub open-last : 1 ≤ o → o ≡ next - 1
  open-last h =
      let f : eqb o 0 ≡ false = borrow.Author.Tests.ne_eqb o 0 (λ z. omega arith) in
      eqb-true o (next - 1) (either (eqb o 0) (eqb o (next - 1)) l.last f)

  pub open-most : o ≤ 65536
  open-most = go (eqb o 0) refl
    where
      go : (b : Bool) → eqb o 0 ≡ b → o ≤ 65536
      go true e = omega (arith, eqb-true o 0 e)
      go false e = omega (arith, l.nextmost, l.tmost, eqb-true o (next - 1) (either (eqb o 0) (eqb o (next - 1)) l.last e))

-- the fields of a card within the limits have room for them
pub limits-small : (c : Card) → length c.id ≡ 8 → Limits c.B c.d c.r c.t c.n c.ctr c.next c.open' → Asking c
    → (eqb c.version 3 ≡ false → (c.last ≡ c.ctr) × (c.pending ≡ 0) × (c.count ≡ 0)) → CardSmall c
limits-small c h l a plain = record {
  id8 = h;
  B2 = omega (arith, l.shape.Bmost);
  d4 = omega (arith, l.shape.dmost);
  r2 = omega (arith, l.shape.rmost);
  t4 = omega (arith, l.tmost);
  n4 = omega (arith, l.nmost);
  ctr8 = omega (arith, l.ctrmost);
  next4 = omega (arith, l.tmost, l.nextmost);
  open4 = omega (arith, open-most c.B c.d c.r c.t c.n c.ctr c.next c.open' l);
  last8 = omega (arith, a.most);
  pending8 = omega (arith, a.most, a.pend);
  count4 = omega (arith, a.countmost);
  plain = plain;
}

-- "Versions 1 and 2 read as nothing pending and ctr last issued"
pub read_plain : (xs : List ℕ) → eqb (read_card xs).version 3 ≡ false → ((read_card xs).last ≡ (read_card xs).ctr) × ((read_card xs).pending ≡ 0) × ((read_card xs).count ≡ 0)
unfolding read_card
read_plain xs e = rw e (refl, refl, refl)

pub message-limits : (m : Message) → message_fits m ≡ true
    → Shape m.B m.d m.r × (1 ≤ m.i) × (m.i ≤ 65536) × (1 ≤ m.n) × (m.n ≤ 16777216)
unfolding message_fits token_fits blocks_fit
message-limits m h =
    let p = both (shape_fits m.B m.d m.r && within 1 65536 m.i) (within 1 16777216 m.n) h in
    let q = both (shape_fits m.B m.d m.r) (within 1 65536 m.i) p.0 in
    let wi = within-true 1 65536 m.i q.1 in
    let wn = within-true 1 16777216 m.n p.1 in
    (shape-limits m.B m.d m.r q.0, wi.0, wi.1, wn.0, wn.1)
