-- What is hashed: a head, a block of a buffer, and the padding behind them. Assumes nothing.
--   short-laid                written one behind the other, with some bytes of the block left out
--   joined_is                 .. and these put in again
--   said-long                 as many bytes as head and block
--   cut_short, cut-long       how the code cuts a message
use Prim.Native.Nat.{ℕ, ◌+◌, ◌-◌, ◌*◌, ◌/◌, ◌%◌, ◌≤◌, ◌<◌}
use native.Mathlib.Omega.{arith}
use mathlib.Core.Path.{◌≡◌, refl, sym, ap, ap₂, ◌∙◌}
use native.Mathlib.Decide.{ℕ_discrete}
use mathlib.Core.List.{List, [], ◌++◌, append_assoc, append-nil}
use lib.ListN.{length, take, drop, length-append, replicate, length-replicate, take-append-drop}
use lib.Seq.{take_at, drop_at}
use Rattle.octets.specs.Octets.{be, part, put}
use Rattle.octets.proofs.NumberLaws.{length-be}
use Rattle.octets.proofs.PartLaws.{length_part, part-add, put-put, put_whole}
use Rattle.sha256.specs.Sha256.{padding}
use Rattle.hash_queue.specs.Waiting.{Cut, said, short}
use Rattle.hash_queue.specs.declared.Form.{Form}

-- a list written behind another at the front of a buffer
behind : (a b m : List ℕ) (n : ℕ) → n ≡ length a → length a + length b ≤ length m → put n b (put 0 a m) ≡ put 0 (a ++ b) m
behind a b m n e l =
    let at : n ≡ 0 + length a = omega arith in
    ap (λ (i : ℕ). put i b (put 0 a m)) at ∙ put-put 0 a b m (omega arith)

module _ (head m xs pad : List ℕ) (a B : ℕ) (f : Form) (cut : Cut f (length head) B) (inside : a + B ≤ length xs) (padded : pad ≡ padding (length head + B))
    (lm : length m ≡ f.long) where
  abbrev x : List ℕ
  x = part a f.cut xs

  abbrev y : List ℕ
  y = part (a + f.cut + f.gap) (B - f.cut - f.gap) xs

  -- what is written has these lengths
  lx : length x ≡ f.cut
  lx = length_part a f.cut xs (omega (arith, cut.inner))

  ly : length y ≡ B - f.cut - f.gap
  ly = length_part (a + f.cut + f.gap) (B - f.cut - f.gap) xs (omega (arith, cut.inner))

  l₂ : length (head ++ x) ≡ length head + f.cut
  l₂ = omega (arith, length-append head x, lx)

  l₃ : length (head ++ x ++ y) ≡ length head + B - f.gap
  l₃ = omega (arith, length-append (head ++ x) y, l₂, ly, cut.inner)

  l₄ : length (head ++ x ++ y ++ pad) ≡ length m
  l₄ = omega (arith, length-append (head ++ x ++ y) pad, l₃, ap length padded, cut.whole, cut.inner)

  pub short-laid : (m₁ m₂ m₃ m₄ : List ℕ) → m₁ ≡ put 0 head m → m₂ ≡ put (length head) (take (a + f.cut - a) (drop a xs)) m₁
      → m₃ ≡ put (length head + f.cut) (take (a + B - (a + f.cut + f.gap)) (drop (a + f.cut + f.gap) xs)) m₂
      → m₄ ≡ put (length head + B - f.gap) pad m₃
      → m₄ ≡ short head a B f xs ++ pad
  unfolding short
  short-laid m₁ m₂ m₃ m₄ e₁ e₂ e₃ e₄ =
      let u : a + f.cut - a ≡ f.cut = omega arith in
      let v : a + B - (a + f.cut + f.gap) ≡ B - f.cut - f.gap = omega (arith, cut.inner) in
      let whole = length-append (head ++ x ++ y) pad in
      let front = length-append (head ++ x) y in
      let f₂ : m₂ ≡ put 0 (head ++ x) m =
      e₂ ∙ ap₂ (λ (n : ℕ) (l : List ℕ). put (length head) (take n (drop a xs)) l) u e₁ ∙ behind head x m (length head) refl (omega (arith, length-append head x, l₄)) in
      let f₃ : m₃ ≡ put 0 (head ++ x ++ y) m =
      e₃
      ∙ ap₂ (λ (n : ℕ) (l : List ℕ). put (length head + f.cut) (take n (drop (a + f.cut + f.gap) xs)) l) v f₂
      ∙ behind (head ++ x) y m (length head + f.cut) (sym l₂) (omega (arith, l₄)) in
      e₄ ∙ ap (put (length head + B - f.gap) pad) f₃ ∙ behind (head ++ x ++ y) pad m (length head + B - f.gap) (sym l₃) (omega (arith, l₄)) ∙ put_whole (head ++ x ++ y ++ pad) m l₄

-- what was left out, put in again
module _ (head xs pad e : List ℕ) (a B : ℕ) (f : Form) (cut : Cut f (length head) B) (inside : a + B ≤ length xs) (here : e ≡ short head a B f xs ++ pad) where
  abbrev g : List ℕ
  g = part (a + f.cut) f.gap xs

  abbrev rest : List ℕ
  rest = part (a + f.cut + f.gap) (B - f.cut - f.gap) xs

  middle : part a f.cut xs ++ g ++ rest ≡ part a B xs
  middle =
      let all : f.cut + f.gap + (B - f.cut - f.gap) ≡ B = omega (arith, cut.inner) in
      let at : a + (f.cut + f.gap) ≡ a + f.cut + f.gap = omega arith in
      sym
      (ap (λ (n : ℕ). part a n xs) (sym all)
      ∙ part-add a (f.cut + f.gap) (B - f.cut - f.gap) xs
      ∙ ap₂ (λ (l : List ℕ) (n : ℕ). l ++ part n (B - f.cut - f.gap) xs) (part-add a f.cut f.gap xs) at)

  joined-parts : Dec (f.gap ≡ 0) → take 64 e ++ g ++ drop 64 e ≡ said head a B xs ++ pad
  unfolding short said
  joined-parts (yes none) =
      let x : List ℕ = part a f.cut xs in
      let empty : g ≡ [] = ap (λ (n : ℕ). part (a + f.cut) n xs) none in
      ap (λ (l : List ℕ). take 64 e ++ l ++ drop 64 e) empty
      ∙ ap (λ (l : List ℕ). l ++ drop 64 e) (append-nil (take 64 e))
      ∙ take-append-drop 64 e
      ∙ here
      ∙ ap (λ (l : List ℕ). l ++ pad)
      (append_assoc head x rest ∙ ap (λ (l : List ℕ). head ++ (l ++ rest)) (sym (ap (λ (l : List ℕ). x ++ l) empty ∙ append-nil x)) ∙ ap (λ (l : List ℕ). head ++ l) middle)
  joined-parts (no some) =
      let after : length head + f.cut ≡ 64 = cut.behind (omega arith) in
      let x : List ℕ = part a f.cut xs in
      let front : List ℕ = head ++ x in
      let lx : length x ≡ f.cut = length_part a f.cut xs (omega (arith, cut.inner)) in
      let lf : length front ≡ 64 = omega (arith, length-append head x) in
      let split : e ≡ front ++ (rest ++ pad) = here ∙ append_assoc front rest pad in
      ap₂ (λ (u v : List ℕ). u ++ g ++ v) (ap (take 64) split ∙ take_at front (rest ++ pad) 64 lf) (ap (drop 64) split ∙ drop_at front (rest ++ pad) 64 lf)
      ∙ sym (append_assoc (front ++ g) rest pad)
      ∙ ap (λ (l : List ℕ). l ++ pad) (ap (λ (l : List ℕ). l ++ rest) (append_assoc head x g) ∙ append_assoc head (x ++ g) rest ∙ ap (λ (l : List ℕ). head ++ l) middle)

  pub joined_is : take 64 e ++ g ++ drop 64 e ≡ said head a B xs ++ pad
  joined_is = joined-parts (ℕ_discrete f.gap 0)

pub said-long : (head xs : List ℕ) (a B : ℕ) → a + B ≤ length xs → length (said head a B xs) ≡ length head + B
unfolding said
said-long head xs a B inside = omega (arith, length-append head (part a B xs), length_part a B xs inside)

length-padding : (n : ℕ) → length (padding n) ≡ 9 + (119 - n % 64) % 64
unfolding padding
length-padding n =
    let z : ℕ = (119 - n % 64) % 64 in
    omega (arith, length-append (replicate z 0) (be 8 (n * 8)), length-replicate {A = ℕ} z 0, length-be 8 (n * 8))

-- the whole message where it is short; else its first 64 bytes and what is behind the last whole block
module _ (h B len : ℕ) (short_head : h ≤ 64) (small : B ≤ 4096) (long : len ≡ length (padding (h + B))) where
  pub padding-is : len ≡ 9 + (119 - (h + B) % 64) % 64
  padding-is = long ∙ length-padding (h + B)

  pub cut_short : h + B + len ≤ 192 → Cut (record { cut = 0; gap = 0; long = h + B + len }) h B
  cut_short few =
      record {
        shaped = record { some = omega (arith, padding-is); few = few; blocks = omega (arith, padding-is); gaps = refl };
        whole = omega arith;
        inner = omega arith;
        behind = λ h. absurd (omega arith);
        short_head = short_head;
        small = small;
      }

  pub cut-long : 192 < h + B + len → Cut (record { cut = 64 - h; gap = (h + B) / 64 * 64 - 64; long = h + B + len - ((h + B) / 64 * 64 - 64) }) h B
  cut-long many =
      record {
        shaped = record { some = omega (arith, padding-is); few = omega (arith, padding-is); blocks = omega (arith, padding-is); gaps = omega (arith, padding-is) };
        whole = omega (arith, padding-is);
        inner = omega (arith, padding-is);
        behind = λ _. omega arith;
        short_head = short_head;
        small = small;
      }
