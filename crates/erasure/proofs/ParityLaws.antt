-- Parity blocks where they lie: one, two, and those behind others. Assumes nothing.
--   parity_at, parity-new          the parity bytes as they lie, from the number u on
--   encoded-one, encoded-two       one parity block, and two, one behind the other
--   parity-from                   parity blocks behind the first x
use native.Mathlib.Nat.{add-mul, add_assoc, add-zero, zero-add, zero-mul, one-mul, div-add-mod', mod-lt}
use mathlib.Core.Path.{◌≡◌, refl, sym, ap, ap₂, ◌∙◌, subst}
use mathlib.Core.Bool.{Bool, true, false}
use mathlib.Core.List.{List, ◌++◌}
use Prim.Native.Nat.{ℕ, ◌+◌, ◌-◌, ◌*◌, ◌/◌, ◌%◌, ◌<◌, ◌≤◌}
use native.Mathlib.Omega.{arith}
use borrow.Author.Tests.{ltb-true, ltb-false}
use lib.Dec.{ltb}
use lib.ListN.{length, get_or, get_or-append}
use lib.Seq.{get_or-append-add}
use lib.Arith.{digits_div, digits_mod}
use Rattle.erasure.specs.Group.{parity_byte}
use Rattle.erasure.specs.Blocks.{Encoded, EncodedFrom}
use Rattle.erasure.proofs.BlockLaws.{placed}

abbrev pub parity_at : ℕ → ℕ → ℕ → List ℕ → ℕ → ℕ
parity_at B k u blocks i = parity_byte B k blocks (u + i / B) (i % B)

module _ (B k u : ℕ) (blocks : List ℕ) where
  parity-new : (x at : ℕ) (ys : List ℕ) → at ≡ x * B → Encoded B k (u + x) blocks ys → (t : ℕ) → t < B → get_or ys t 0 ≡ parity_at B k u blocks (at + t)
  parity-new x at ys e m t h = m.each t h ∙ placed B x at t (λ (n s : ℕ). parity_byte B k blocks (u + n) s) e h

  parity-first : (ys : List ℕ) → Encoded B k u blocks ys → (t : ℕ) → t < B → get_or ys t 0 ≡ parity_at B k u blocks (0 + t)
  parity-first ys m = parity-new 0 0 ys (sym (zero-mul B)) (subst (λ (n : ℕ). Encoded B k n blocks ys) (sym (add-zero u)) m)

  pub encoded-one : (ys : List ℕ) → Encoded B k u blocks ys → EncodedFrom B k u 1 blocks ys
  encoded-one ys m = record { each = λ i h. parity-first ys m i (omega arith) ∙ ap (parity_at B k u blocks) (zero-add i) }

  pub encoded-two : (ys zs after : List ℕ) → length ys ≡ B → length zs ≡ B → Encoded B k u blocks ys → Encoded B k (u + 1) blocks zs → after ≡ ys ++ zs
      → EncodedFrom B k u 2 blocks after
  encoded-two ys zs after ly lz my mz d =
      record { each = λ i h. ap (λ (xs : List ℕ). get_or xs i 0) d ∙ both i (ltb i B) (omega arith) refl }
    where
      both : (i : ℕ) (b : Bool) → i < B + B → ltb i B ≡ b → get_or (ys ++ zs) i 0 ≡ parity_at B k u blocks i
      both i true h e =
          let q : i < B = ltb-true i B e in
          get_or-append ys zs 0 i (omega (arith, ly)) ∙ parity-first ys my i q ∙ ap (parity_at B k u blocks) (zero-add i)
      both i false h e =
          let q : B ≤ i = ltb-false i B e in
          let j = i - B in
          let w : B + j ≡ i = omega arith in
          ap (λ (n : ℕ). get_or (ys ++ zs) n 0) (sym (ap (λ (n : ℕ). n + j) ly ∙ w))
          ∙ get_or-append-add ys zs j 0
          ∙ parity-new 1 B zs (sym (one-mul B)) mz j (omega arith) ∙ ap (parity_at B k u blocks) w

pub parity-from : (B k x n at : ℕ) (blocks ys : List ℕ) → 1 ≤ B → at ≡ x * B → EncodedFrom B k (k + x) n blocks ys
    → (t : ℕ) → t < n * B → get_or ys t 0 ≡ parity_at B k k blocks (at + t)
parity-from B k x n at blocks ys pos e m t h =
    let q = t / B in
    let r = t % B in
    let split : at + t ≡ (x + q) * B + r =
    ap₂ (λ (a b : ℕ). a + b) e (sym (div-add-mod' t B)) ∙ sym (add_assoc (x * B) (q * B) r) ∙ ap (λ (a : ℕ). a + r) (sym (add-mul x q B)) in
    m.each t h
    ∙ ap₂ (parity_byte B k blocks)
    (add_assoc k x q ∙ ap (λ (a : ℕ). k + a) (sym (ap (λ (a : ℕ). a / B) split ∙ digits_div (x + q) (mod-lt t pos))))
    (sym (ap (λ (a : ℕ). a % B) split ∙ digits_mod (x + q) (mod-lt t pos)))
