-- The field's sum, with `plus` shut, and doubling, which is linear over it. Assumes nothing.
--   plus_comm, plus_assoc, plus-left-comm, plus-zero-l, plus-zero-r, plus-self, plus-cancel   exclusive or
--   plus-mod, plus-lt                       the low eight bits
--   plus-zero-eq                            a sum is 0 only of equal numbers
--   plus-bit                                a bit below an even number
--   double-plus, double-lt, double-small    doubling
use mathlib.Core.Path.{◌≡◌, refl, sym, ap, ap₂, ◌∙◌}
use Prim.Native.Nat.{ℕ, zero, suc, ◌+◌, ◌*◌, ◌/◌, ◌%◌, ◌<◌}
use native.Mathlib.Nat.{add-zero, add_comm, zero-mul}
use native.Mathlib.Omega.{arith}
use lib.Bits.{bit_xor, xor_zero_r, xor_self, xor_comm, xor_block, xor_mod, xor_shr, xor_lt, xor_shifted}
use Rattle.octets.proofs.XorLaws.{xor_assoc}
use Rattle.gf256.specs.Field.{plus, modulus, double}

pub plus_comm : (a b : ℕ) → plus a b ≡ plus b a
unfolding plus
plus_comm a b = xor_comm a b

pub plus_assoc : (a b c : ℕ) → plus (plus a b) c ≡ plus a (plus b c)
unfolding plus
plus_assoc a b c = xor_assoc a b c

pub plus-left-comm : (a b c : ℕ) → plus a (plus b c) ≡ plus b (plus a c)
plus-left-comm a b c = sym (plus_assoc a b c) ∙ ap (λ (x : ℕ). plus x c) (plus_comm a b) ∙ plus_assoc b a c

pub plus-zero-l : (a : ℕ) → plus 0 a ≡ a
unfolding plus
plus-zero-l a = refl

pub plus-zero-r : (a : ℕ) → plus a 0 ≡ a
unfolding plus
plus-zero-r a = xor_zero_r a

pub plus-self : (a : ℕ) → plus a a ≡ 0
unfolding plus
plus-self a = xor_self a

pub plus-cancel : (a b : ℕ) → plus a (plus a b) ≡ b
plus-cancel a b = sym (plus_assoc a a b) ∙ ap (λ (x : ℕ). plus x b) (plus-self a) ∙ plus-zero-l b

pub plus-mod : (a b : ℕ) → plus a b % 256 ≡ plus (a % 256) (b % 256)
unfolding plus
plus-mod a b = xor_mod a b 8

pub plus-lt : (a b : ℕ) → a < 256 → b < 256 → plus a b < 256
unfolding plus
plus-lt a b ha hb = xor_lt 8 a b ha hb

pub plus-zero-eq : (a b : ℕ) → plus a b ≡ 0 → a ≡ b
plus-zero-eq a b h = sym (plus-zero-r a) ∙ ap (plus a) (sym h) ∙ plus-cancel a b

pub plus-bit : (b n : ℕ) → b < 2 → plus b (n * 2) ≡ b + n * 2
unfolding plus
plus-bit b n h = xor_comm b (n * 2) ∙ xor_shifted n 1 b h ∙ add_comm (n * 2) b

-- doubling
twice-xor : (a b : ℕ) → plus a b * 2 ≡ plus (a * 2) (b * 2)
unfolding plus
twice-xor a b =
    sym (add-zero (bit_xor a b * 2)) ∙ sym (xor_block 1 a b 0 0 (omega arith) (omega arith))
    ∙ ap₂ bit_xor (add-zero (a * 2)) (add-zero (b * 2))

bit-xor : (c s t : ℕ) → s < 2 → t < 2 → plus s t * c ≡ plus (s * c) (t * c)
unfolding plus
bit-xor c zero t hs ht = ap (λ (n : ℕ). bit_xor n (t * c)) (sym (zero-mul c))
bit-xor c (suc zero) zero hs ht = sym (ap (bit_xor (1 * c)) (zero-mul c) ∙ xor_zero_r (1 * c))
bit-xor c (suc zero) (suc zero) hs ht = zero-mul c ∙ sym (xor_self (1 * c))
bit-xor c (suc zero) (suc (suc t)) hs ht = absurd (omega arith)
bit-xor c (suc (suc s)) t hs ht = absurd (omega arith)

top_xor : (a b : ℕ) → plus a b / 128 % 2 ≡ plus (a / 128 % 2) (b / 128 % 2)
unfolding plus
top_xor a b = ap (λ (x : ℕ). x % 2) (xor_shr a b 7) ∙ xor_mod (a / 128) (b / 128) 1

pub double-plus : (a b : ℕ) → double (plus a b) ≡ plus (double a) (double b)
unfolding double
double-plus a b =
    ap₂ (λ (x y : ℕ). plus (x * modulus) (y % 256)) (top_xor a b) (twice-xor a b)
    ∙ ap₂ plus (bit-xor modulus (a / 128 % 2) (b / 128 % 2) (omega arith) (omega arith)) (plus-mod (a * 2) (b * 2))
    ∙ simp (plus_assoc, plus_comm, plus-left-comm)

pub double-lt : (a : ℕ) → double a < 256
unfolding double modulus
double-lt a = plus-lt (a / 128 % 2 * modulus) (a * 2 % 256) (omega arith) (omega arith)

pub double-small : (a : ℕ) → a < 128 → double a ≡ a * 2
unfolding double modulus
double-small a h =
    let e : a / 128 % 2 * modulus ≡ 0 = omega arith in
    let f : a * 2 % 256 ≡ a * 2 = omega arith in
    ap₂ plus e f ∙ plus-zero-l (a * 2)
