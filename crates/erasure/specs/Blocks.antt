-- What contracts inside the library say of whole blocks; what the calls promise does not rest on it. Assumes nothing.
--   Within B ns len    every block that ns names ends within len bytes
--   Mixed ..           a block with weighed blocks added
--   Combined ..        the data blocks qs, weighed as the parity blocks us, themselves weighed by cs, have them
--   Encoded ..         the parity block numbered u
--   EncodedFrom ..     the n parity blocks from the number u on
--   Solved ..          the block that stands at i among those solved for
--   put_byte, Put ..    data block n, rebuilt or as it stands
use Rattle.std.specs.Prelude.{◌≡◌, cond, List, map, ℕ, ◌+◌, ◌*◌, ◌/◌, ◌%◌, ◌<◌, ◌≤◌, length, get_or}
use Rattle.gf256.specs.Field.{plus}
use Rattle.cauchy.specs.Solve.{row}
use Rattle.cauchy.specs.System.{dot}
use Rattle.erasure.specs.Group.{byte_at, parity_byte, named, lost_data, recovered}

pub record Within (B : ℕ) (ns : List ℕ) (len : ℕ) : Type 0 where
  pub ends : (i : ℕ) → i < length ns → get_or ns i 0 * B + B ≤ len

pub record Mixed (B : ℕ) (ns ws blocks before after : List ℕ) : Type 0 where
  pub each : (t : ℕ) → t < B → get_or after t 0 ≡ plus (get_or before t 0) (dot (map (byte_at B t blocks) ns) ws)

pub record Combined (B : ℕ) (us cs qs blocks after : List ℕ) : Type 0 where
  pub each : (t : ℕ) → t < B → get_or after t 0 ≡ dot (map (byte_at B t blocks) qs) (map (λ (q : ℕ). row q us cs) qs)

pub record Encoded (B k u : ℕ) (blocks after : List ℕ) : Type 0 where
  pub each : (t : ℕ) → t < B → get_or after t 0 ≡ parity_byte B k blocks u t

pub record EncodedFrom (B k u n : ℕ) (blocks after : List ℕ) : Type 0 where
  pub each : (i : ℕ) → i < n * B → get_or after i 0 ≡ parity_byte B k blocks (u + i / B) (i % B)

pub record Solved (B i : ℕ) (us vs qs blocks after : List ℕ) : Type 0 where
  pub each : (t : ℕ) → t < B → get_or after t 0 ≡ get_or (recovered (byte_at B t blocks) us vs qs) i 0

unfoldable pub put_byte : List ℕ → List ℕ → List ℕ → List ℕ → (ℕ → ℕ) → ℕ → ℕ
put_byte lost us vs qs at n = cond (named lost n) (get_or (recovered at us vs qs) (length (lost_data lost n)) 0) (at n)

pub record Put (B n : ℕ) (lost us vs qs blocks after : List ℕ) : Type 0 where
  pub each : (t : ℕ) → t < B → get_or after t 0 ≡ put_byte lost us vs qs (byte_at B t blocks) n
