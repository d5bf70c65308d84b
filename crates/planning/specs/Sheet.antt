-- Paper 02, #110, a planning sheet: "Before a survey we quote room, reading and risk. From B, d, r, t, n and m alone the sheet gives" five numbers. Assumes
-- nothing. A difference of numbers is 0 where the second is greater.
--   table_bytes t                 the table's bytes
--   ceiling d r                  the most turns of one token
--   least d r n, most d r n      the least and the most hashes for a proof of any r different rows
--   up x b                       x / b, rounded up
--   figure d m k                 the figure of the chance after the first k factors
--   escape d r m                 the chance, in units of 2^-32, that r different rows miss m damaged ones
--   sheet_fits, sheet_code         the limits, and the number that the call returns
--   sheet_bytes, sheet_out         the five numbers, and what the call leaves in its buffer
--   fields xs                      numbers one behind the other, 8 bytes each
use Rattle.std.specs.Prelude.{ℕ, zero, suc, ◌+◌, ◌*◌, ◌-◌, ◌/◌, ◌%◌, ◌^◌, min, List, [], ◌∷◌, ◌++◌, Bool, cond, ◌&&◌, eqb, leb, length}
use Rattle.octets.specs.Octets.{be}
use Rattle.counts.specs.Codes.{wrong_length, out_of_limits, too_many_damaged}
use Rattle.counts.specs.Sizes.{record_size, sheet_size}
use Rattle.permutation.specs.Rounds.{half}
use Rattle.scheme.specs.Checks.{first, if_zero}
use Rattle.scheme.specs.Records.{shape_fits, token_fits, blocks_fit}

-- "the table's bytes": "Token record, 63", "The table is t records in token order"
unfoldable pub table_bytes : ℕ → ℕ
table_bytes t = t * record_size

-- "a ceiling of r + 4^h - d on the turns of one token"
unfoldable pub ceiling : ℕ → ℕ → ℕ
ceiling d r = r + 4 ^ half d - d

-- "the least and most hashes for a proof of any r different rows: r × q + the greater of 0 and r - (d - s), and r × q + the lesser of r and s, where
-- q = n div d and s = n mod d"
unfoldable pub least : ℕ → ℕ → ℕ → ℕ
least d r n = r * (n / d) + (r - (d - n % d))

unfoldable pub most : ℕ → ℕ → ℕ → ℕ
most d r n = r * (n / d) + min r (n % d)

unfoldable pub up : ℕ → ℕ → ℕ
up x b = (x + (b - 1)) / b

-- "the product of (d-m-j)/(d-j) for j from 0 to r-1": "Starting at 2^32, each factor is multiplied in and the result rounded up"
unfoldable pub figure : ℕ → ℕ → ℕ → ℕ
figure d m zero = 2 ^ 32
figure d m (suc j) = up (figure d m j * (d - m - j)) (d - j)

-- "the chance of escape in units of 2^-32", "or 0 when r exceeds d-m"
unfoldable pub escape : ℕ → ℕ → ℕ → ℕ
escape d r m = cond (leb r (d - m)) (figure d m r) 0

-- "3 | .. a number lent, is outside its limits"
unfoldable pub sheet_fits : ℕ → ℕ → ℕ → ℕ → ℕ → Bool
sheet_fits B d r t n = shape_fits B d r && token_fits t && blocks_fit n

-- "1 | a buffer's length is not the one above"; "It refuses, after 3, m above d (21)."
unfoldable pub sheet_code : ℕ → ℕ → ℕ → ℕ → ℕ → ℕ → List ℕ → ℕ
sheet_code B d r t n m out = first 0 ((eqb (length out) sheet_size, wrong_length) ∷ (sheet_fits B d r t n, out_of_limits) ∷ (leb m d, too_many_damaged) ∷ [])

-- "Several are written, 8 bytes each in the order told, to one buffer."
unfoldable pub sheet_bytes : ℕ → ℕ → ℕ → ℕ → ℕ → List ℕ
sheet_bytes d r t n m = be 8 (table_bytes t) ++ be 8 (ceiling d r) ++ be 8 (least d r n) ++ be 8 (most d r n) ++ be 8 (escape d r m)

unfoldable pub sheet_out : ℕ → ℕ → ℕ → ℕ → ℕ → ℕ → List ℕ → List ℕ
sheet_out B d r t n m out = if_zero (sheet_code B d r t n m out) (sheet_bytes d r t n m) out

-- numbers one behind the other, 8 bytes each
abbrev pub fields : List ℕ → List ℕ
fields [] = []
fields (x ∷ xs) = be 8 x ++ fields xs
