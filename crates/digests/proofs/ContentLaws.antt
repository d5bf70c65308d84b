-- Laws of contents: what is hashed of blocks, from the buffers of blocks and marks. Assumes nothing.
--   contents-long, content-at      how many there are, and one of them
--   contents-live                  all blocks are live: the mark that is lent is the byte 0
--   contents-marked                marks are lent, one for each block
--   told-live, told-marked         every mark lies in the buffer
use Prim.Native.Nat.{ℕ, zero, suc, ◌+◌, ◌*◌, ◌≤◌, ◌<◌}
use native.Mathlib.Omega.{arith}
use native.Mathlib.Nat.{suc-mul, zero-mul, mul-zero, mul-le-mul_right}
use mathlib.Core.Path.{◌≡◌, refl, sym, ap, ap₂, ◌∙◌}
use mathlib.Core.List.{List, [], ◌∷◌, ◌++◌}
use lib.ListN.{length, get_or, take, drop}
use lib.Seq.{drop-drop}
use Rattle.octets.specs.Octets.{part}
use Rattle.scheme.specs.Lists.{pieces}
use Rattle.scheme.specs.Marks.{marks_in, live, marked, alike}
use Rattle.scheme.proofs.laws.TableLaws.{pieces-at, pieces-length}
use Rattle.tokens.proofs.HeadLaws.{live-mark}
use Rattle.digests.specs.Layout.{spaced, contents, content_at}
use Rattle.digests.specs.declared.Span.{Span}

module _ (s k : ℕ) where
  spaced-length : (n : ℕ) (xs : List ℕ) → length (spaced s k n xs) ≡ n
  unfolding spaced
  spaced-length zero xs = refl
  spaced-length (suc n) xs = ap suc (spaced-length n (drop s xs))

  spaced-at : (n : ℕ) (xs : List ℕ) (e : ℕ) → e < n → get_or (spaced s k n xs) e [] ≡ part (e * s) k xs
  unfolding spaced
  spaced-at zero xs e h = absurd (omega arith)
  spaced-at (suc n) xs zero h = ap (λ (a : ℕ). part a k xs) (sym (zero-mul s))
  spaced-at (suc n) xs (suc e) h =
      let z : s + e * s ≡ suc e * s = omega (arith, suc-mul e s) in
      spaced-at n (drop s xs) e (omega arith) ∙ ap (take k) (drop-drop (e * s) s xs) ∙ ap (λ (a : ℕ). part a k xs) z

spaced-pieces : (k n : ℕ) (xs : List ℕ) → spaced k k n xs ≡ pieces k n xs
unfolding spaced pieces
spaced-pieces k zero xs = refl
spaced-pieces k (suc n) xs = ap (λ (l : List (List ℕ)). take k xs ∷ l) (spaced-pieces k n (drop k xs))

marked-length : (ms xs : List (List ℕ)) → length ms ≡ length xs → length (marked ms xs) ≡ length xs
unfolding marked
marked-length [] [] e = refl
marked-length [] (x ∷ xs) e = absurd (omega arith)
marked-length (m ∷ ms) [] e = refl
marked-length (m ∷ ms) (x ∷ xs) e = ap suc (marked-length ms xs (omega arith))

marked-at : (ms xs : List (List ℕ)) (e : ℕ) → length ms ≡ length xs → e < length xs → get_or (marked ms xs) e [] ≡ get_or ms e [] ++ get_or xs e []
unfolding marked
marked-at [] [] e l h = absurd (omega arith)
marked-at [] (x ∷ xs) e l h = absurd (omega arith)
marked-at (m ∷ ms) [] e l h = absurd (omega arith)
marked-at (m ∷ ms) (x ∷ xs) zero l h = refl
marked-at (m ∷ ms) (x ∷ xs) (suc e) l h = marked-at ms xs e (omega arith) (omega arith)

-- one mark before every block
marked-alike : (k : ℕ) (marks : List ℕ) (xs : List (List ℕ)) → marked (spaced 0 k (length xs) marks) xs ≡ alike (take k marks) xs
unfolding marked alike spaced
marked-alike k marks [] = refl
marked-alike k marks (x ∷ xs) = ap (λ (l : List (List ℕ)). (take k marks ++ x) ∷ l) (marked-alike k marks xs)

module _ (b : Span) (xs marks : List ℕ) where
  abbrev blocks : List (List ℕ)
  blocks = pieces b.size b.count xs

  long : length blocks ≡ b.count
  long = pieces-length b.size b.count xs

  both : length (spaced b.step b.mark b.count marks) ≡ length blocks
  both = spaced-length b.step b.mark b.count marks ∙ sym long

  pub contents-long : length (contents b xs marks) ≡ b.count
  unfolding contents
  contents-long = marked-length (spaced b.step b.mark b.count marks) blocks both ∙ long

  pub content-at : (e : ℕ) → e < b.count → get_or (contents b xs marks) e [] ≡ content_at b e xs marks
  unfolding contents content_at
  content-at e h =
      marked-at (spaced b.step b.mark b.count marks) blocks e both (omega (arith, long))
      ∙ ap₂ (λ (m x : List ℕ). m ++ x) (spaced-at b.step b.mark b.count marks e h) (pieces-at b.size b.count xs e h)

  contents-alike : b.step ≡ 0 → contents b xs marks ≡ alike (take b.mark marks) blocks
  unfolding contents
  contents-alike near =
      ap₂ (λ (s n : ℕ). marked (spaced s b.mark n marks) blocks) near (sym long) ∙ marked-alike b.mark marks blocks

  pub contents-marked : b.step ≡ b.mark → contents b xs marks ≡ marked (pieces b.mark b.count marks) blocks
  unfolding contents
  contents-marked each =
      ap (λ (s : ℕ). marked (spaced s b.mark b.count marks) blocks) each ∙ ap (λ (l : List (List ℕ)). marked l blocks) (spaced-pieces b.mark b.count marks)

pub contents-live : (v : ℕ) (b : Span) (xs : List ℕ) → b.step ≡ 0 → b.mark ≡ marks_in v
    → contents b xs (0 ∷ []) ≡ alike (live v) (pieces b.size b.count xs)
contents-live v b xs near one =
    contents-alike b xs (0 ∷ []) near
    ∙ ap (λ (m : List ℕ). alike m (pieces b.size b.count xs)) (ap (λ (k : ℕ). take {A = ℕ} k (0 ∷ [])) one ∙ live-mark v)

pub told-live : (b : Span) → b.step ≡ 0 → b.mark ≤ 1 → (e : ℕ) → e < b.count → e * b.step + b.mark ≤ length {A = ℕ} (0 ∷ [])
told-live b near lone e h =
    let z : e * b.step ≡ 0 = ap (λ (s : ℕ). e * s) near ∙ mul-zero e in
    omega arith

pub told-marked : (b : Span) (marks : List ℕ) → b.step ≡ b.mark → length marks ≡ b.count * b.mark
    → (e : ℕ) → e < b.count → e * b.step + b.mark ≤ length marks
told-marked b marks each whole e h =
    let next : suc e * b.mark ≤ b.count * b.mark = mul-le-mul_right b.mark (omega arith) in
    let z : e * b.step ≡ e * b.mark = ap (λ (s : ℕ). e * s) each in
    omega (arith, suc-mul e b.mark)
