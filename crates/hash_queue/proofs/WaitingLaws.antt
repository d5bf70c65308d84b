-- What a sum stands for after one more message, and when all are hashed. Assumes nothing.
--   hashes-none, hashes-turn, hashes-done   the loop over the hashes of messages
--   joined_same, inside-own                 a lane without a message takes the first one's place
--   held_all                                a sum that no message waits for
--   length-held                             32 bytes
--   sound_none, sound-waits, sound-all      what is left out lies in the buffer: at the start, with one more message, with all hashed
--   held_with, sound-with                   a hash that was made elsewhere
--   one-waits, all-hashed                   one more message waits; the last place is taken, and all are hashed
use Prim.Native.Nat.{ℕ, ◌+◌, ◌*◌, ◌-◌, ◌≤◌, ◌<◌}
use native.Mathlib.Omega.{arith}
use native.Mathlib.Nat.{zero-add}
use native.Mathlib.Decide.{ℕ_discrete}
use mathlib.Core.Path.{◌≡◌, refl, sym, ap, ap₂, ◌∙◌}
use mathlib.Core.List.{List, ◌++◌}
use mathlib.Core.Bool.{Bool, true, false}
use borrow.Author.Tests.{ltb-true, ltb-false}
use lib.Dec.{ltb}
use lib.ListN.{length, get_or, set, take, drop, replicate, get_or-replicate, length-drop, length-set}
use lib.Seq.{take-append-le, drop-append-le, length-take-le, get_or-set_same, get_or-set_other}
use Rattle.octets.specs.Octets.{xors, part, put}
use Rattle.octets.proofs.PartLaws.{length_part, length-put, part-part, part-put, put-lent}
use Rattle.octets.proofs.XorLaws.{xors-assoc, xors-swap, xors-zeros, length-xors}
use Rattle.sha256.specs.Sha256.{padding, digest, hashed, sha256}
use Rattle.sha256.proofs.StreamLaws.{length-hashed}
use Rattle.sha256_lanes.specs.Rounds.{Inside}
use Rattle.sha256_many.specs.Split.{joined}
use Rattle.scheme.specs.Lists.{xor_below}
use Rattle.scheme.proofs.laws.SumLaws.{length-xor-below, xor-below-more, xor-below-same}
use Rattle.hash_queue.specs.Waiting.{Sound, places, hashes, flushed}
use Rattle.hash_queue.specs.declared.Form.{Form}
use Rattle.hash_queue.specs.declared.Sum.{Sum}
use Rattle.hash_queue.proofs.PlaceLaws.{place_end, place_inside}

-- the hash of message i
abbrev one : List ℕ → ℕ → List ℕ → List ℕ → ℕ → ℕ → List ℕ
one p n far at gap i = digest (hashed (joined p n far at gap i))

-- the loop over the hashes
module _ (p : List ℕ) (n : ℕ) (far : List ℕ) (gap : ℕ) where
  pub hashes-none : (at x : List ℕ) → length x ≡ 32 → x ≡ xors x (hashes p n far at gap 0)
  unfolding hashes xor_below
  hashes-none at x l = sym (xors-zeros 32 x (omega arith))

  pub hashes-turn : (at x y d u h : List ℕ) (k : ℕ) → y ≡ xors x (hashes p n far at gap k) → h ≡ hashed (joined p n far at gap k) → d ≡ digest h → u ≡ xors y d
      → u ≡ xors x (hashes p n far at gap (k + 1))
  unfolding hashes
  hashes-turn at x y d u h k ey eh ed eu =
      eu
      ∙ ap₂ xors ey (ed ∙ ap digest eh)
      ∙ xors-assoc x (xor_below k (one p n far at gap)) (one p n far at gap k)
      ∙ ap (xors x) (sym (xor-below-more (one p n far at gap) k))

  pub hashes-done : (at x y : List ℕ) (k m : ℕ) → k ≤ m → m ≤ k → y ≡ xors x (hashes p n far at gap k) → y ≡ xors x (hashes p n far at gap m)
  hashes-done at x y k m a b e =
      let q : k ≡ m = omega arith in
      e ∙ ap (λ (i : ℕ). xors x (hashes p n far at gap i)) q

-- places that are the messages' own
pub joined_same : (p : List ℕ) (n : ℕ) (far own at : List ℕ) (gap k : ℕ) → get_or own k 0 ≡ get_or at k 0 → joined p n far own gap k ≡ joined p n far at gap k
unfolding joined
joined_same p n far own at gap k e = ap (λ (a : ℕ). take 64 (part (k * n) n p) ++ part a gap far ++ drop 64 (part (k * n) n p)) e

pub inside-own : (far own at : List ℕ) (gap fill lanes : ℕ) → lanes ≤ places → ((i : ℕ) → i < fill → get_or own i 0 ≡ get_or at i 0)
    → ((i : ℕ) → fill ≤ i → i < places → get_or own i 0 ≡ get_or at 0 0) → Inside far at gap places → Inside far own gap lanes
inside-own far own at gap fill lanes few below rest all = record { fits = λ i h. go i h (ltb i fill) refl }
  where
    go : (i : ℕ) → i < lanes → (b : Bool) → ltb i fill ≡ b → get_or own i 0 + gap ≤ length far
    go i h true e = omega (arith, below i (ltb-true i fill e), all.fits i (omega arith))
    go i h false e = omega (arith, rest i (ltb-false i fill e) (omega arith), all.fits 0 (omega arith))

-- a sum that no message waits for
module _ (p : List ℕ) (f : Form) (far : List ℕ) where
  pub held_all : (s : Sum) (at : List ℕ) → length s.x ≡ 32 → s.fill ≡ 0 → s.x ≡ flushed s f far at p
  unfolding flushed
  held_all s at l e = hashes-none p f.long far f.gap at s.x l ∙ ap (λ (i : ℕ). xors s.x (hashes p f.long far at f.gap i)) (sym e)

  pub length-held : (s : Sum) (at : List ℕ) → length s.x ≡ 32 → length (flushed s f far at p) ≡ 32
  unfolding flushed hashes
  length-held s at l =
      let each : ℕ → List ℕ = one p f.long far at f.gap in
      let long : length (xor_below s.fill each) ≡ 32 = length-xor-below each (λ i. length-hashed (joined p f.long far at f.gap i)) s.fill in
      length-xors s.x (xor_below s.fill each) (omega arith) ∙ l

  pub held_with : (s : Sum) (at y h : List ℕ) → y ≡ xors s.x h → flushed (record { x = y; fill = s.fill }) f far at p ≡ xors (flushed s f far at p) h
  unfolding flushed
  held_with s at y h e =
      let z : List ℕ = hashes p f.long far at f.gap s.fill in
      ap (λ (x : List ℕ). xors x z) e ∙ xors-swap s.x h z

pub sound-with : (s : Sum) (f : Form) (y far at : List ℕ) → length y ≡ 32 → Sound s f far at → Sound (record { x = y; fill = s.fill }) f far at
sound-with s f y far at l sound = record { long = l; known = sound.known; free = sound.free; some = sound.some; inside = sound.inside }

-- what is left out
pub sound_none : (s : Sum) (f : Form) (far : List ℕ) → length s.x ≡ 32 → s.fill ≡ 0 → Sound s f far (replicate places 0)
sound_none s f far l e =
    record {
      long = l;
      known = refl;
      free = omega arith;
      some = λ h. absurd (omega arith);
      inside = λ h. record { fits = λ i b. omega (arith, get_or-replicate {A = ℕ} places i 0 0 b) };
    }

set-inside : (far at : List ℕ) (gap k v : ℕ) → k < length at → v + gap ≤ length far → Inside far at gap places → Inside far (set at k v) gap places
set-inside far at gap k v l h all = record { fits = λ i b. go i b (ℕ_discrete i k) }
  where
    go : (i : ℕ) → i < places → Dec (i ≡ k) → get_or (set at k v) i 0 + gap ≤ length far
    go i b (yes e) = omega (arith, ap (λ (j : ℕ). get_or (set at k v) j 0) e ∙ get_or-set_same at k v 0 l)
    go i b (no e) = omega (arith, get_or-set_other at k i v 0 e, all.fits i b)

module _ (s : Sum) (f : Form) (v : ℕ) (far at : List ℕ) (sound : Sound s f far at) (h : v + f.gap ≤ length far) where
  pub inside-set : Inside far (set at s.fill v) f.gap places
  inside-set = set-inside far at f.gap s.fill v (omega (arith, sound.free, sound.known)) h (sound.inside (omega arith))

  still-long : length (set at s.fill v) ≡ places
  still-long = length-set at s.fill v ∙ sound.known

  pub sound-waits : s.fill + 1 < places → Sound (record { x = s.x; fill = s.fill + 1 }) f far (set at s.fill v)
  sound-waits b = record { long = sound.long; known = still-long; free = omega arith; some = λ _. omega arith; inside = λ _. inside-set }

  pub sound-all : (y : List ℕ) → length y ≡ 32 → Sound (record { x = y; fill = 0 }) f far (set at s.fill v)
  sound-all y l = record { long = l; known = still-long; free = omega arith; some = λ _. omega arith; inside = λ _. inside-set }

-- a part before the one that is put in place
part-before : (b m a : ℕ) (ys xs : List ℕ) → b + m ≤ a → a ≤ length xs → part b m (put a ys xs) ≡ part b m xs
unfolding put
part-before b m a ys xs h l =
    let front : length (take a xs) ≡ a = length-take-le a xs l in
    let rest : List ℕ = ys ++ drop (length ys) (drop a xs) in
    let inner : length (drop b (take a xs)) ≡ length (take a xs) - b = length-drop b (take a xs) in
    ap (take m) (drop-append-le b (take a xs) rest (omega arith))
    ∙ take-append-le m (drop b (take a xs)) rest (omega arith)
    ∙ part-part b m 0 a xs h
    ∙ ap (λ (i : ℕ). part i m xs) (zero-add b)

-- a message is laid in its place: the place was lent and came back as ys, which with what was left out is `said` and its padding
module _ (s : Sum) (f : Form) (v : ℕ) (far at p p' said pad ys : List ℕ) (la : length at ≡ places) (few : s.fill < places) (room : places * f.long ≤ length p) (padded : pad ≡ padding (length said))
    (whole : take 64 ys ++ part v f.gap far ++ drop 64 ys ≡ said ++ pad)
    (kept : length ys ≡ length (part (s.fill * f.long) (s.fill * f.long + f.long - s.fill * f.long) p))
    (lent : p' ≡ take (s.fill * f.long) p ++ (ys ++ drop (s.fill * f.long + f.long - s.fill * f.long) (drop (s.fill * f.long) p))) where
  wide : s.fill * f.long + f.long - s.fill * f.long ≡ f.long
  wide = omega arith

  fits : s.fill * f.long + f.long ≤ length p
  fits = place_inside s.fill f.long (length p) few room

  long : length ys ≡ f.long
  long = kept ∙ length_part (s.fill * f.long) (s.fill * f.long + f.long - s.fill * f.long) p (omega (arith, fits)) ∙ wide

  laid : p' ≡ put (s.fill * f.long) ys p
  laid = lent ∙ put-lent (s.fill * f.long) (s.fill * f.long + f.long - s.fill * f.long) ys p (long ∙ sym wide)

  pub length-laid : length p' ≡ length p
  length-laid = ap length laid ∙ length-put (s.fill * f.long) ys p (omega (arith, long, fits))

  here : part (s.fill * f.long) f.long p' ≡ ys
  here = ap₂ (λ (i : ℕ) (x : List ℕ). part (s.fill * f.long) i x) (sym long) laid ∙ part-put (s.fill * f.long) ys p (omega (arith, long, fits))

  at_here : get_or (set at s.fill v) s.fill 0 ≡ v
  at_here = get_or-set_same at s.fill v 0 (omega arith)

  hash-here : one p' f.long far (set at s.fill v) f.gap s.fill ≡ sha256 said
  unfolding sha256 joined
  hash-here =
      ap (λ (m : List ℕ). digest (hashed m))
      (ap₂ (λ (e : List ℕ) (a : ℕ). take 64 e ++ part a f.gap far ++ drop 64 e) here at_here ∙ whole ∙ ap (λ (x : List ℕ). said ++ x) padded)

  before : (i : ℕ) → i < s.fill → one p' f.long far (set at s.fill v) f.gap i ≡ one p f.long far at f.gap i
  unfolding joined
  before i h =
      ap₂ (λ (e : List ℕ) (a : ℕ). digest (hashed (take 64 e ++ part a f.gap far ++ drop 64 e)))
      (ap (part (i * f.long) f.long) laid ∙ part-before (i * f.long) f.long (s.fill * f.long) ys p (place_end i s.fill f.long h) (omega (arith, fits)))
      (get_or-set_other at s.fill i v 0 (λ e. omega arith))

  more : hashes p' f.long far (set at s.fill v) f.gap (s.fill + 1) ≡ xors (hashes p f.long far at f.gap s.fill) (sha256 said)
  unfolding hashes
  more =
      xor-below-more (one p' f.long far (set at s.fill v) f.gap) s.fill
      ∙ ap₂ xors (xor-below-same (one p f.long far at f.gap) (one p' f.long far (set at s.fill v) f.gap) s.fill before) hash-here

  next : xors s.x (hashes p' f.long far (set at s.fill v) f.gap (s.fill + 1)) ≡ xors (flushed s f far at p) (sha256 said)
  unfolding flushed
  next = ap (xors s.x) more ∙ sym (xors-assoc s.x (hashes p f.long far at f.gap s.fill) (sha256 said))

  pub one-waits : flushed (record { x = s.x; fill = s.fill + 1 }) f far (set at s.fill v) p' ≡ xors (flushed s f far at p) (sha256 said)
  unfolding flushed
  one-waits = next

  pub all-hashed : (y : List ℕ) → places ≤ s.fill + 1 → length y ≡ 32 → y ≡ xors s.x (hashes p' f.long far (set at s.fill v) f.gap places)
      → flushed (record { x = y; fill = 0 }) f far (set at s.fill v) p' ≡ xors (flushed s f far at p) (sha256 said)
  all-hashed y last l e =
      let q : places ≡ s.fill + 1 = omega arith in
      sym (held_all p' f far (record { x = y; fill = 0 }) (set at s.fill v) l refl)
      ∙ e
      ∙ ap (λ (i : ℕ). xors s.x (hashes p' f.long far (set at s.fill v) f.gap i)) q
      ∙ next
