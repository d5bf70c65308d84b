-- Laws of pooled judging at the standard primitives: codes from tests, the parts of a reply, and what a verdict leaves. Assumes nothing.
--   drawn-limits .. drawn-none                         the code of cards whose heads fit, from its tests
--   refused, other-master, other-head, drawn           the code of a pool; Pooled, pooled: what one that is not turned away has
--   clear-is, part-failed, part-opened                 the part of a reply that speaks of a card
--   rest, rest-failed, rest-next, rest-done            the parts that are left, and the xor of the tokens so far
--   fits-of                                            whether a reply is accepted, from its tests
--   closed_is, closed-length .. closed-next, closed-done     cards whose draws are closed one after the other
--   judge-kept, judge-done                             what a pooled judging answers and leaves
use Prim.Native.Nat.{ℕ, zero, suc, ◌+◌, ◌*◌, ◌-◌, ◌≤◌}
use native.Mathlib.Omega.{arith}
use mathlib.Core.Path.{◌≡◌, refl, sym, ap, ap₂, ◌∙◌}
use mathlib.Core.List.{List, [], ◌∷◌, ◌++◌, append-nil, append_assoc}
use mathlib.Core.Bool.{Bool, true, false, cond, ◌&&◌}
use borrow.Author.Tests.{eq-eqb, eqb-true}
use lib.Dec.{eqb}
use lib.ListN.{length, get_or, take, drop, replicate}
use lib.Seq.{take_all}
use Rattle.std.specs.Prelude.{Option, Some, None, MatchOption}
use Rattle.std.proofs.Common.{zero-add}
use Rattle.std.proofs.Math.Option as M
use Rattle.octets.specs.Octets.{of_be, part, put, same, xors}
use Rattle.octets.proofs.PartLaws.{length_part, part-part, put-lent, length-put, take_put, drop-put}
use Rattle.scheme.specs.Checks.{first, if_zero, within}
use Rattle.scheme.specs.Records.{Card, read_card, card_bytes, head_fits, card_head}
use Rattle.scheme.specs.Tokens.{key_k}
use Rattle.scheme.specs.Table.{value, body_in}
use Rattle.scheme.specs.Judging.{names_fit, counter_fits, opened_body}
use Rattle.scheme.specs.Calls.{turned_card, closed}
use Rattle.scheme.specs.Pools.{cut_fault, cut, read_all, closed_all, every, distinct, in_limits, pool_checks, pool_fault, passes, all_pass, pool_sum, pool_fits, pool_verdict, pool_code, pool_cards}
use Rattle.scheme.proofs.laws.CheckLaws.{first-passed, both, within-true, refusal-kept, answer-written}
use Rattle.scheme.proofs.laws.RecordLaws.{card_long}
use Rattle.standard.specs.Standard.{standard}
use Rattle.cards.specs.Fields.{card_of}
use Rattle.cards.specs.declared.Card as DC
use Rattle.cards.proofs.FaultLaws.{head-long, readable}
use Rattle.judging.specs.Causes.{body_of}
use Rattle.pools.specs.Drawn.{drawn_checks}
use Rattle.pools.proofs.CutLaws.{card, Here, lent-long, cut-end, count-read}

-- the code of cards whose heads fit
module _ (fit some differ drawn : Bool) where
  abbrev code : ℕ
  code = first 0 ((fit, 3) ∷ (some && differ, 23) ∷ (drawn, 9) ∷ [])

  pub drawn-limits : fit ≡ false → 3 ≡ code
  unfolding first
  drawn-limits f = rw f

  pub drawn-number : fit ≡ true → some ≡ false → 23 ≡ code
  unfolding first
  drawn-number a f = rw (a, f)

  pub drawn-twice : fit ≡ true → some ≡ true → differ ≡ false → 23 ≡ code
  unfolding first
  drawn-twice a b f = rw (a, b, f)

  pub drawn-closed : fit ≡ true → some ≡ true → differ ≡ true → drawn ≡ false → 9 ≡ code
  unfolding first
  drawn-closed a b d f = rw (a, b, d, f)

  pub drawn-none : fit ≡ true → some ≡ true → differ ≡ true → drawn ≡ true → 0 ≡ code
  unfolding first
  drawn-none a b d o = rw (a, b, d, o)

-- the code of a pool
module _ (master cards : List ℕ) where
  pub refused : (n : ℕ) → n ≡ cut_fault cards → (n ≡ 0 → ⊥) → n ≡ pool_fault master cards
  unfolding pool_fault
  refused n e h = e ∙ refusal-kept (cut_fault cards) _ (cut_fault cards) n e h

  module _ (z : cut_fault cards ≡ 0) where
    whole : pool_fault master cards ≡ first 0 (pool_checks master cards)
    unfolding pool_fault
    whole = rw z

    pub other-master : eqb (length master) 32 ≡ false → 1 ≡ pool_fault master cards
    unfolding first
    other-master f = sym (whole ∙ rw f)

    pub other-head : length master ≡ 32 → every card_head (cut cards) ≡ false → 2 ≡ pool_fault master cards
    unfolding first
    other-head l f = sym (whole ∙ rw (eq-eqb (length master) 32 l, f))

    pub drawn : length master ≡ 32 → every card_head (cut cards) ≡ true → first 0 (drawn_checks cards) ≡ pool_fault master cards
    unfolding first
    drawn l h = sym (whole ∙ rw (eq-eqb (length master) 32 l, h))

  -- what one has that is not turned away
  pub record Pooled : Type 0 where
    pub cuts : cut_fault cards ≡ 0
    pub key32 : length master ≡ 32
    pub heads : every card_head (cut cards) ≡ true
    pub most : length (cut cards) ≤ 16

  pub pooled : (n : ℕ) → n ≡ pool_fault master cards → n ≡ 0 → Pooled
  unfolding pool_fault
  pooled n e z = go (cut_fault cards) refl (sym e ∙ z)
    where
      go : (m : ℕ) → cut_fault cards ≡ m → if_zero m (first 0 (pool_checks master cards)) m ≡ 0 → Pooled
      go zero k h =
          let a = first-passed (eqb (length master) 32, 1) _ (omega arith) h in
          let b = first-passed (every card_head (cut cards), 2) _ (omega arith) a.1 in
          let c = first-passed (every in_limits (cut cards), 3) _ (omega arith) b.1 in
          let d = first-passed (within 2 16 (length (cut cards)) && distinct (read_all (cut cards)), 23) _ (omega arith) c.1 in
          let w = within-true 2 16 (length (cut cards)) (both (within 2 16 (length (cut cards))) (distinct (read_all (cut cards))) d.0).0 in
          record { cuts = k; key32 = eqb-true (length master) 32 a.0; heads = b.0; most = w.1 }
      go (suc m) k h = absurd (omega arith)

-- the 75 bytes of a reply that speak of a card
module _ (master : List ℕ) (c : DC.Card) (entry : List ℕ) where
  abbrev rec : List ℕ
  rec = part 12 63 entry

  abbrev clear : Bool
  clear = head_fits 61 c.version rec && names_fit (card_of c) (part 0 8 entry) (of_be (part 8 4 entry)) rec && counter_fits (card_of c) rec

  pub clear-is : (head names : Bool) (i ctr : ℕ) → head ≡ head_fits 61 c.version rec → i ≡ of_be (part 8 4 entry)
      → names ≡ (same (part 0 8 entry) c.id && eqb i c.open_token && eqb (of_be (part 11 4 rec)) c.open_token)
      → ctr ≡ of_be (part 3 8 rec) → (head && names && eqb ctr c.counter) ≡ clear
  unfolding card_of
  clear-is head names i ctr h e g k =
      let named : names ≡ names_fit (card_of c) (part 0 8 entry) (of_be (part 8 4 entry)) rec = g ∙ ap (λ (n : ℕ). same (part 0 8 entry) c.id && eqb n c.open_token && eqb (of_be (part 11 4 rec)) c.open_token) e in
      ap₂ (λ (x : Bool) (n : ℕ). x && eqb n c.counter) (ap₂ (λ (x y : Bool). x && y) h named) k

  pub part-failed : (b : Bool) → b ≡ clear → b ≡ false → passes standard master (card_of c) entry ≡ false
  unfolding passes card_of
  part-failed b e f = let g : clear ≡ false = sym e ∙ f in rw g

  pub part-opened : (b : Bool) → b ≡ clear → b ≡ true → (k : List ℕ) → k ≡ key_k standard master c.id
      → (body : Option (List ℕ)) → body_of body ≡ body_in standard k c.counter c.open_token rec
      → MatchOption body (passes standard master (card_of c) entry ≡ false)
      (λ (x : List ℕ). (passes standard master (card_of c) entry ≡ true) × (x ≡ value (opened_body standard master (card_of c) rec)))
  unfolding passes card_of
  part-opened b e f k key None h =
      let g : clear ≡ true = sym e ∙ f in
      let o : body_in standard (key_k standard master c.id) c.counter c.open_token rec ≡ M.none = rw (← key) (sym h) in
      rw (g, o)
  part-opened b e f k key (Some x) h =
      let g : clear ≡ true = sym e ∙ f in
      let o : body_in standard (key_k standard master c.id) c.counter c.open_token rec ≡ M.some x = rw (← key) (sym h) in
      (rw (g, o), rw o)

-- the parts that are left of a reply, and the xor of the tokens so far against the one sent
abbrev pub rest : List ℕ → List ℕ → List Card → List ℕ → List ℕ → Bool
rest master sum cs parts sent = all_pass standard master cs parts && same (pool_sum standard master sum cs parts) sent

pub rest-done : (master sum parts sent : List ℕ) {cs : List Card} → cs ≡ [] → rest master sum cs parts sent ≡ same sum sent
unfolding all_pass pool_sum
rest-done master sum parts sent e = rw e

-- one part more: 75 bytes are as good as all that are left
module _ (master sum parts sent : List ℕ) (c : Card) (cs : List Card) (entry : List ℕ) (e : entry ≡ take 75 parts) where
  inner : (b j : ℕ) → b + j ≤ 75 → part b j entry ≡ part b j parts
  inner b j l = ap (part b j) e ∙ part-part b j 0 75 parts l ∙ rw zero-add

  as_lent : passes standard master c entry ≡ passes standard master c parts
  unfolding passes
  as_lent = rw (inner 0 8 (omega arith), inner 8 4 (omega arith), inner 12 63 (omega arith))

  rest-step : rest master sum (c ∷ cs) parts sent
      ≡ (passes standard master c entry && all_pass standard master cs (drop 75 parts)
      && same (pool_sum standard master (xors sum (value (opened_body standard master c (part 12 63 entry)))) cs (drop 75 parts)) sent)
  unfolding all_pass pool_sum
  rest-step = rw (as_lent, inner 12 63 (omega arith))

  pub rest-failed : passes standard master c entry ≡ false → rest master sum (c ∷ cs) parts sent ≡ false
  rest-failed f = rest-step ∙ rw f

  pub rest-next : passes standard master c entry ≡ true → (x : List ℕ) → x ≡ value (opened_body standard master c (part 12 63 entry))
      → (more : List ℕ) → more ≡ xors sum x → rest master sum (c ∷ cs) parts sent ≡ rest master more cs (drop 75 parts) sent
  rest-next f x t more m = rest-step ∙ rw (f, ← t, ← m)

-- whether a reply is accepted
regroup : (a b v n p s : Bool) → (a && b && v && n && p && s) ≡ cond a (cond (b && v) (cond n (p && s) false) false) false
regroup false b v n p s = refl
regroup true false v n p s = refl
regroup true true false n p s = refl
regroup true true true false p s = refl
regroup true true true true p s = refl

module _ (master cards reply : List ℕ) (count : ℕ) (e : count ≡ length (cut cards)) where
  abbrev answer : Bool
  answer = rest master (replicate 32 0) (read_all (cut cards)) (drop 37 reply) (part 5 32 reply)

  fits_whole : pool_fits standard master (read_all (cut cards)) reply
      ≡ cond (eqb (length reply) (2 + (35 + 75 * count))) (cond (head_fits (35 + 75 * count) 1 reply) (cond (eqb (of_be (part 3 2 reply)) count) answer false) false) false
  unfolding pool_fits head_fits
  fits_whole =
      let m : length (read_all (cut cards)) ≡ count = count-read (cut cards) ∙ sym e in
      let size : 37 + 75 * count ≡ 2 + (35 + 75 * count) = omega arith in
      ap (λ (k : ℕ). eqb (length reply) (37 + 75 * k) && eqb (of_be (part 0 2 reply)) (35 + 75 * k) && eqb (get_or reply 2 0) 1 && eqb (of_be (part 3 2 reply)) k
      && all_pass standard master (read_all (cut cards)) (drop 37 reply)
      && same (pool_sum standard master (replicate 32 0) (read_all (cut cards)) (drop 37 reply)) (part 5 32 reply)) m
      ∙ regroup (eqb (length reply) (37 + 75 * count)) (eqb (of_be (part 0 2 reply)) (35 + 75 * count)) (eqb (get_or reply 2 0) 1) (eqb (of_be (part 3 2 reply)) count)
      (all_pass standard master (read_all (cut cards)) (drop 37 reply))
      (same (pool_sum standard master (replicate 32 0) (read_all (cut cards)) (drop 37 reply)) (part 5 32 reply))
      ∙ ap (λ (k : ℕ). cond (eqb (length reply) k) (cond (head_fits (35 + 75 * count) 1 reply) (cond (eqb (of_be (part 3 2 reply)) count) answer false) false) false) size

  pub fits-of : {b₁ b₂ b₃ : Bool} → eqb (length reply) (2 + (35 + 75 * count)) ≡ b₁ → head_fits (35 + 75 * count) 1 reply ≡ b₂ → eqb (of_be (part 3 2 reply)) count ≡ b₃
      → cond b₁ (cond b₂ (cond b₃ answer false) false) false ≡ pool_fits standard master (read_all (cut cards)) reply
  fits-of p₁ p₂ p₃ = sym (fits_whole ∙ rw (p₁, p₂, p₃))

-- a card whose draw is closed is as long as before
closed-long : (xs : List ℕ) → card_head xs ≡ true → length (closed xs) ≡ length xs
unfolding read_card turned_card
closed-long xs h =
    card_long (turned_card (read_card xs) (read_card xs).next 0) (length_part 3 8 xs (omega (arith, (readable xs h).0))) ∙ sym (head-long xs h)

pub closed_is : (xs ys : List ℕ) (c after : DC.Card) → card_of c ≡ read_card xs → card_of after ≡ turned_card (card_of c) c.next 0 → ys ≡ card_bytes (card_of after) → ys ≡ closed xs
unfolding card_of
closed_is xs ys c after r t e = e ∙ ap card_bytes t ∙ ap (λ (k : Card). card_bytes (turned_card k k.next 0)) r

-- draws that are closed one after the other
module _ (cards : List ℕ) (at : ℕ) where
  pub closed-done : length cards ≤ at → cards ≡ take at cards ++ closed_all (cut (drop at cards))
  unfolding closed_all
  closed-done h =
      let none : closed_all (cut (drop at cards)) ≡ [] = ap closed_all (cut-end cards at h) in
      sym (ap (λ (l : List ℕ). take at cards ++ l) none ∙ append-nil (take at cards) ∙ take_all at cards h)

  -- the card of n bytes at an offset comes back as ys
  module _ (n : ℕ) (h : Here cards at n) (head : card_head (card cards at n) ≡ true) (ys : List ℕ) (e : ys ≡ closed (card cards at n)) where
    abbrev new : List ℕ
    new = take at cards ++ (ys ++ drop (at + n - at) (drop at cards))

    as_long : length ys ≡ n
    as_long = ap length e ∙ closed-long (card cards at n) head ∙ lent-long cards at n h

    is-put : new ≡ put at ys cards
    is-put = let k : length ys ≡ at + n - at = omega (arith, as_long) in put-lent at (at + n - at) ys cards k

    fits : at + length ys ≤ length cards
    fits = omega (arith, h.room, as_long)

    pub closed-length : length new ≡ length cards
    closed-length = ap length is-put ∙ length-put at ys cards fits

    pub closed-behind : drop (at + n) new ≡ drop (at + n) cards
    closed-behind = ap₂ (λ (m : ℕ) (x : List ℕ). drop (at + m) x) (sym as_long) is-put ∙ drop-put at ys cards fits ∙ ap (λ (m : ℕ). drop (at + m) cards) as_long

    pub closed-next : take at cards ++ closed_all (cut (drop at cards)) ≡ take (at + n) new ++ closed_all (cut (drop (at + n) new))
    unfolding closed_all
    closed-next =
        let before : take (at + n) new ≡ take at cards ++ ys = ap₂ (λ (m : ℕ) (x : List ℕ). take (at + m) x) (sym as_long) is-put ∙ take_put at ys cards fits in
        let all : closed_all (cut (drop at cards)) ≡ ys ++ closed_all (cut (drop (at + n) cards)) = ap closed_all h.split ∙ ap (λ (x : List ℕ). x ++ closed_all (cut (drop (at + n) cards))) (sym e) in
        ap (λ (x : List ℕ). take at cards ++ x) all
        ∙ sym (append_assoc (take at cards) ys (closed_all (cut (drop (at + n) cards))))
        ∙ sym (ap₂ (λ (x y : List ℕ). x ++ closed_all (cut y)) before closed-behind)

-- what a pooled judging answers and leaves
module _ (master cards reply : List ℕ) (n : ℕ) (e : n ≡ pool_fault master cards) where
  pub judge-kept : (n ≡ 0 → ⊥) → (n ≡ pool_code standard master cards reply) × (cards ≡ pool_cards standard master cards reply)
  unfolding pool_code pool_cards
  judge-kept h = (e ∙ refusal-kept _ _ (pool_fault master cards) n e h, refusal-kept _ _ cards n e h)

  pub judge-done : (b : Bool) (r : ℕ) (cards' : List ℕ) → n ≡ 0 → b ≡ pool_fits standard master (read_all (cut cards)) reply → r ≡ cond b 0 11
      → cards' ≡ closed_all (cut cards) → (r ≡ pool_code standard master cards reply) × (cards' ≡ pool_cards standard master cards reply)
  unfolding pool_code pool_cards pool_verdict
  judge-done b r cards' z f p q = (
    p ∙ ap (λ (x : Bool). cond x 0 11) f ∙ answer-written _ _ (pool_fault master cards) n e z,
    q ∙ answer-written _ _ cards n e z,
  )
