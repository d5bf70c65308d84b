-- A digest into which some messages are still to be hashed. A message is a head, then a block of a lent buffer. Assumes nothing.
--   said head a B far        what is hashed: the head, and the B bytes of far from a on
--   short head a B f far     the same without the bytes of the block that are hashed where they lie
--   Shaped f                 places are whole blocks of 64 bytes, and so is what is left out
--   Cut f h B                f cuts messages with a head of h bytes and a block of B: what is left out is behind the first 64 bytes
--   hashes p n far at gap k  the xor of the hashes of the first k padded messages, each in a place of n bytes of p with gap bytes of far from its place of at
--   flushed s f far at p        what a sum stands for: its digest, with those of the messages that wait
--   Sound s f far at         the digest has 32 bytes, a place is free, and what is left out of the messages lies in far
--   held q f far             what a queue stands for: its sum, with the messages in its places
--   Ready q f far            its sum is sound
use Rattle.std.specs.Prelude.{ℕ, ◌+◌, ◌-◌, ◌%◌, ◌≤◌, ◌<◌, ◌≡◌, List, ◌++◌, length}
use Rattle.octets.specs.Octets.{part, xors}
use Rattle.sha256.specs.Sha256.{padding, hashed, digest}
use Rattle.sha256_lanes.specs.Rounds.{Inside}
use Rattle.sha256_many.specs.Split.{joined}
use Rattle.scheme.specs.Lists.{xor_below}
use Rattle.hash_queue.specs.declared.Form.{Form}
use Rattle.hash_queue.specs.declared.Queue.{Queue}
use Rattle.hash_queue.specs.declared.Sum.{Sum}

abbrev pub places : ℕ
places = 16

unfoldable pub said : List ℕ → ℕ → ℕ → List ℕ → List ℕ
said head a B far = head ++ part a B far

unfoldable pub short : List ℕ → ℕ → ℕ → Form → List ℕ → List ℕ
short head a B f far = head ++ part a f.cut far ++ part (a + f.cut + f.gap) (B - f.cut - f.gap) far

pub record Shaped (f : Form) : Type 0 where
  pub some : 64 ≤ f.long
  pub few : f.long ≤ 192
  pub blocks : f.long % 64 ≡ 0
  pub gaps : f.gap % 64 ≡ 0

pub record Cut (f : Form) (h B : ℕ) : Type 0 where
  pub shaped : Shaped f
  pub whole : f.long + f.gap ≡ h + B + length (padding (h + B))
  pub inner : f.cut + f.gap ≤ B
  pub behind : 0 < f.gap → h + f.cut ≡ 64
  pub short_head : h ≤ 64
  pub small : B ≤ 4096

unfoldable pub hashes : List ℕ → ℕ → List ℕ → List ℕ → ℕ → ℕ → List ℕ
hashes p n far at gap k = xor_below k (λ i. digest (hashed (joined p n far at gap i)))

unfoldable pub flushed : Sum → Form → List ℕ → List ℕ → List ℕ → List ℕ
flushed s f far at p = xors s.x (hashes p f.long far at f.gap s.fill)

pub record Sound (s : Sum) (f : Form) (far at : List ℕ) : Type 0 where
  pub long : length s.x ≡ 32
  pub known : length at ≡ places
  pub free : s.fill < places
  pub some : 0 < s.fill → f.gap ≤ length far
  pub inside : f.gap ≤ length far → Inside far at f.gap places

abbrev pub held : Queue → Form → List ℕ → List ℕ
held q f far = flushed q.sum f far q.at q.places

abbrev pub Ready : Queue → Form → List ℕ → Type 0
Ready q f far = Sound q.sum f far q.at
