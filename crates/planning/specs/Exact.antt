-- What the numbers of a sheet are held to: the turns, the hashes and the chance as they are. Assumes nothing.
--   Rows d r rows            r different rows
--   hashes d n rows          the hashes for a proof of rows, of n blocks
--   falling d k              d × (d - 1) × .., k factors
--   Quotes                   what the five numbers of a sheet say of a file
--   number_at i out           number i, from 0, in a buffer of numbers
use Rattle.std.specs.Prelude.{ℕ, zero, suc, ◌+◌, ◌*◌, ◌-◌, ◌^◌, ◌≤◌, ◌<◌, ◌≡◌, List, length}
use Rattle.octets.specs.Octets.{of_be, part}
use Rattle.counts.specs.Sizes.{record_size}
use Rattle.permutation.specs.Distinct.{Distinct, Between, total}
use Rattle.scheme.specs.Tokens.{columns_of}
use Rattle.scheme.specs.Totals.{digest_turns, digest_hashes}
use Rattle.standard.specs.Standard.{standard}

-- "any r different rows", of 1..d
abbrev pub Rows : ℕ → ℕ → List ℕ → Type 0
Rows d r rows = (length rows ≡ r) × Between 1 (suc d) rows × Distinct rows

-- one hash for every block of every row
unfoldable pub hashes : ℕ → ℕ → List ℕ → ℕ
hashes d n rows = total (columns_of d n) rows

-- "The exact chance is the product of (d-m-j)/(d-j) for j from 0 to r-1, or 0 when r exceeds d-m": it is falling (d - m) r / falling d r
unfoldable pub falling : ℕ → ℕ → ℕ
falling d zero = 1
falling d (suc j) = falling d j * (d - j)

pub record Quotes (d r t n m : ℕ) (table turns low high chance : ℕ) : Type 0 where
  -- "the table's bytes"
  pub room : table ≡ t * record_size
  -- "a ceiling .. on the turns of one token": those that set-up and proof tell (#109), under any key k
  pub walks : (k : List ℕ) → digest_turns standard k d r ≤ turns
  -- "the least and most hashes for a proof": those that a proof tells; and "of any r different rows"
  pub reads : (k : List ℕ) → (low ≤ digest_hashes standard k d r n) × (digest_hashes standard k d r n ≤ high)
  pub between : (rows : List ℕ) → Rows d r rows → (low ≤ hashes d n rows) × (hashes d n rows ≤ high)
  pub lowest : (rows : List ℕ) × Rows d r rows × (hashes d n rows ≡ low)
  pub highest : (rows : List ℕ) × Rows d r rows × (hashes d n rows ≡ high)
  -- "the figure is never under the exact value and less than r units above it", each times the denominator of the exact chance, in units of 2^-32
  pub never_under : falling (d - m) r * 2 ^ 32 ≤ chance * falling d r
  pub less_than_r_above : chance * falling d r < falling (d - m) r * 2 ^ 32 + r * falling d r
  -- "or 0 when r exceeds d-m"
  pub none : d - m < r → (falling (d - m) r ≡ 0) × (chance ≡ 0)

abbrev pub number_at : ℕ → List ℕ → ℕ
number_at i out = of_be (part (8 * i) 8 out)
