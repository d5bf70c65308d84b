-- A message in its place. Assumes nothing.
--   block-waits       one more message waits
--   all-inside        what is left out of the messages lies in the buffer
--   block-hashed      the last place is taken, and all are hashed
use Prim.Native.Nat.{ℕ, ◌+◌, ◌*◌, ◌-◌, ◌≤◌, ◌<◌}
use native.Mathlib.Omega.{arith}
use mathlib.Core.Path.{◌≡◌, sym, ap, ◌∙◌}
use mathlib.Core.List.{List, ◌++◌}
use lib.ListN.{length, set, take, drop}
use Rattle.octets.specs.Octets.{xors, part}
use Rattle.sha256.specs.Sha256.{padding, sha256}
use Rattle.sha256_lanes.specs.Rounds.{Inside}
use Rattle.hash_queue.specs.Waiting.{Cut, Sound, places, said, short, hashes, flushed}
use Rattle.hash_queue.specs.declared.Form.{Form}
use Rattle.hash_queue.specs.declared.Sum.{Sum}
use Rattle.hash_queue.proofs.MessageLaws.{joined_is, said-long}
use Rattle.hash_queue.proofs.WaitingLaws.{inside-set, sound-waits, sound-all, length-laid, one-waits, all-hashed}

module _ (s : Sum) (f : Form) (head far at p p' pad ys : List ℕ) (a B : ℕ) (sound : Sound s f far at) (cut : Cut f (length head) B) (inside : a + B ≤ length far)
    (padded : pad ≡ padding (length head + B)) (lp : length p ≡ 3072) (ey : ys ≡ short head a B f far ++ pad)
    (kept : length ys ≡ length (part (s.fill * f.long) (s.fill * f.long + f.long - s.fill * f.long) p))
    (lent : p' ≡ take (s.fill * f.long) p ++ (ys ++ drop (s.fill * f.long + f.long - s.fill * f.long) (drop (s.fill * f.long) p))) where
  room : places * f.long ≤ length p
  room = omega (arith, cut.shaped.few)

  left : a + f.cut + f.gap ≤ length far
  left = omega (arith, cut.inner)

  whole : take 64 ys ++ part (a + f.cut) f.gap far ++ drop 64 ys ≡ said head a B far ++ pad
  whole = joined_is head far pad ys a B f cut inside ey

  padded-said : pad ≡ padding (length (said head a B far))
  padded-said = padded ∙ ap padding (sym (said-long head far a B inside))

  pub all-inside : Inside far (set at s.fill (a + f.cut)) f.gap places
  all-inside = inside-set s f (a + f.cut) far at sound left

  pub block-waits : s.fill + 1 < places
      → Sound (record { x = s.x; fill = s.fill + 1 }) f far (set at s.fill (a + f.cut))
      × (flushed (record { x = s.x; fill = s.fill + 1 }) f far (set at s.fill (a + f.cut)) p' ≡ xors (flushed s f far at p) (sha256 (said head a B far)))
  block-waits b = (
    sound-waits s f (a + f.cut) far at sound left b,
    one-waits s f (a + f.cut) far at p p' (said head a B far) pad ys sound.known sound.free room padded-said whole kept lent,
  )

  pub block-hashed : (y : List ℕ) → places ≤ s.fill + 1 → length y ≡ 32 → y ≡ xors s.x (hashes p' f.long far (set at s.fill (a + f.cut)) f.gap places)
      → Sound (record { x = y; fill = 0 }) f far (set at s.fill (a + f.cut))
      × (flushed (record { x = y; fill = 0 }) f far (set at s.fill (a + f.cut)) p' ≡ xors (flushed s f far at p) (sha256 (said head a B far)))
  block-hashed y last l e = (
    sound-all s f (a + f.cut) far at sound left y l,
    all-hashed s f (a + f.cut) far at p p' (said head a B far) pad ys sound.known sound.free room padded-said whole kept lent y last l e,
  )
