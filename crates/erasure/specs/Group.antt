-- A group: data blocks, then parity blocks, each of B bytes, laid end to end. What a parity byte is, and what lost data bytes are, solved from parity
-- bytes. Assumes nothing.
-- #114: "Blocks are numbered data first, from 0".
--   tabulate n f              the n numbers f 0, f 1 and so on
--   byte_at B t xs n       the byte at t of block n
--   count n c             the c numbers from n on
--   parity_byte B k xs u t the byte at t of the parity block numbered u, over the k data blocks of xs
--   named ls n            whether n is among ls
--   chosen f n c          those of the c numbers from n on that pass f
--   lost_data, kept_data    the data blocks that are lost, and those that are not
--   sum_of at qs u         what the lost data make of the parity byte u
--   recovered at us vs qs the lost bytes vs, from the parity bytes us and the kept bytes qs; at n is the byte of block n
--   encoded B k p xs      the parity blocks of the data blocks xs
use Rattle.std.specs.Prelude.{Bool, true, false, cond, not, List, [], ◌∷◌, map, ℕ, zero, suc, ◌+◌, ◌*◌, ◌/◌, ◌%◌, eqb, get_or}
use Rattle.gf256.specs.Field.{plus}
use Rattle.cauchy.specs.Solve.{row, solve}

unfoldable pub tabulate_from : ℕ → ℕ → (ℕ → ℕ) → List ℕ
tabulate_from i zero f = []
tabulate_from i (suc n) f = f i ∷ tabulate_from (suc i) n f

unfoldable pub tabulate : ℕ → (ℕ → ℕ) → List ℕ
tabulate n f = tabulate_from 0 n f

abbrev pub byte_at : ℕ → ℕ → List ℕ → ℕ → ℕ
byte_at B t xs n = get_or xs (n * B + t) 0

unfoldable pub count : ℕ → ℕ → List ℕ
count n zero = []
count n (suc c) = n ∷ count (suc n) c

-- #114: "Parity p (from 0) of k data blocks weighs data q by the inverse of (k + p) xor q."
unfoldable pub parity_byte : ℕ → ℕ → List ℕ → ℕ → ℕ → ℕ
parity_byte B k xs u t = row u (count 0 k) (map (byte_at B t xs) (count 0 k))

unfoldable pub named : List ℕ → ℕ → Bool
named [] n = false
named (l ∷ ls) n = cond (eqb l n) true (named ls n)

unfoldable pub chosen : (ℕ → Bool) → ℕ → ℕ → List ℕ
chosen f n zero = []
chosen f n (suc c) = cond (f n) (n ∷ chosen f (suc n) c) (chosen f (suc n) c)

abbrev pub lost_data : List ℕ → ℕ → List ℕ
lost_data lost k = chosen (named lost) 0 k

abbrev pub kept_data : List ℕ → ℕ → List ℕ
kept_data lost k = chosen (λ n. not (named lost n)) 0 k

-- the parity byte u without the kept data qs: what the lost data make of it
unfoldable pub sum_of : (ℕ → ℕ) → List ℕ → ℕ → ℕ
sum_of at qs u = plus (at u) (row u qs (map at qs))

unfoldable pub recovered : (ℕ → ℕ) → List ℕ → List ℕ → List ℕ → List ℕ
recovered at us vs qs = solve us vs (map (sum_of at qs) us)

-- #114: "Groups of 1 to 48 data blocks get 1 to 16 parity blocks"
unfoldable pub encoded : ℕ → ℕ → ℕ → List ℕ → List ℕ
encoded B k p group = tabulate (p * B) (λ i. parity_byte B k group (k + i / B) (i % B))
