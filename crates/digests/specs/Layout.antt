-- How blocks and their marks lie in two buffers, behind n others that are not lent, and what is hashed of one. Assumes nothing.
--   spaced s k n xs           n parts of k elements of xs, each s elements further on than the one before
--   contents b xs marks       the contents of the blocks of b: the mark of each, then its bytes
--   Lies b xs marks           xs holds the blocks of b and marks their marks, within the limits
--   Row d ρ                   ρ is one of d rows
--   behind n blocks           blocks that come behind n others, whose contents are not looked at
--   place b n ρ q             how many blocks of the buffer come before the one in row ρ and column q
--   Located b n ρ q xs marks     the block in row ρ and column q lies in xs, and its mark in marks
--   content_at b e xs marks    the content of the block that e others of the buffer come before
--   hash_at c b n ρ j q xs marks    the hash of the one in row ρ and column q at position j, under the key c
use Rattle.std.specs.Prelude.{ℕ, zero, suc, ◌+◌, ◌*◌, ◌-◌, ◌≤◌, ◌<◌, List, [], ◌∷◌, ◌++◌, ◌≡◌, length, take, drop, replicate}
use Rattle.octets.specs.Octets.{part}
use Rattle.counts.specs.Limits.{most_block_bytes, most_rows, most_blocks}
use Rattle.scheme.specs.Lists.{pieces}
use Rattle.scheme.specs.Marks.{marked}
use Rattle.scheme.specs.Tokens.{block_in, index_of, block_hash}
use Rattle.standard.specs.Standard.{standard}
use Rattle.digests.specs.declared.Span.{Span}

unfoldable pub spaced : ℕ → ℕ → ℕ → List ℕ → List (List ℕ)
spaced s k zero xs = []
spaced s k (suc n) xs = take k xs ∷ spaced s k n (drop s xs)

-- "one mark byte (0 live, 1 deleted) stands between index and block in the hash": none in version 1, one for all blocks where they are all live, and one
-- for each where they are lent
unfoldable pub contents : Span → List ℕ → List ℕ → List (List ℕ)
contents b xs marks = marked (spaced b.step b.mark b.count marks) (pieces b.size b.count xs)

-- "B, bytes in a block | 1 | 4,096", "d, rows | 1 | 1,048,576", "n, blocks | 1 | 16,777,216", as far as the code asks for them
pub record Lies (b : Span) (xs marks : List ℕ) : Type 0 where
  pub rowed : 1 ≤ b.rows
  pub few_rows : b.rows ≤ most_rows
  pub small : b.size ≤ most_block_bytes
  pub few : b.count ≤ most_blocks
  pub whole : length xs ≡ b.count * b.size
  pub lone : b.mark ≤ 1
  pub told : (e : ℕ) → e < b.count → e * b.step + b.mark ≤ length marks

pub record Row (d ρ : ℕ) : Type 0 where
  pub from_one : 1 ≤ ρ
  pub most : ρ ≤ d

unfoldable pub behind : ℕ → List (List ℕ) → List (List ℕ)
behind n blocks = replicate n [] ++ blocks

unfoldable pub place : Span → ℕ → ℕ → ℕ → ℕ
place b n ρ q = block_in b.rows ρ q - n - 1

pub record Located (b : Span) (n ρ q : ℕ) (xs marks : List ℕ) : Type 0 where
  pub later : n < q * b.rows + ρ
  pub few : q * b.rows + ρ ≤ most_blocks
  pub small : b.size ≤ most_block_bytes
  pub lone : b.mark ≤ 1
  pub inside : place b n ρ q * b.size + b.size ≤ length xs
  pub told : place b n ρ q * b.step + b.mark ≤ length marks

unfoldable pub content_at : Span → ℕ → List ℕ → List ℕ → List ℕ
content_at b e xs marks = part (e * b.step) b.mark marks ++ part (e * b.size) b.size xs

-- "SHA-256(c, column × d + j as four bytes, block)", the mark between index and block
unfoldable pub hash_at : List ℕ → Span → ℕ → ℕ → ℕ → ℕ → List ℕ → List ℕ → List ℕ
hash_at c b n ρ j q xs marks = block_hash standard c (index_of b.rows q j) (content_at b (place b n ρ q) xs marks)
