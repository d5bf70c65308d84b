-- The table of limits: the maximum of each number, and what a day and a week have. Assumes nothing.
use Rattle.std.specs.Prelude.{ℕ}

-- B, bytes of a block
abbrev pub most_block_bytes : ℕ
most_block_bytes = 4096

-- d, rows
abbrev pub most_rows : ℕ
most_rows = 1048576

-- r, positions, which are no more than d either
abbrev pub most_positions : ℕ
most_positions = 512

-- t, tokens
abbrev pub most_tokens : ℕ
most_tokens = 65536

-- n, blocks
abbrev pub most_blocks : ℕ
most_blocks = 16777216

-- a counter
abbrev pub most_counter : ℕ
most_counter = 4294967295

-- the items of a batch
abbrev pub most_items : ℕ
most_items = 64

-- the files of a pool, at least
abbrev pub least_pooled : ℕ
least_pooled = 2

-- and at most
abbrev pub most_pooled : ℕ
most_pooled = 16

-- k, data blocks of a group
abbrev pub most_data_blocks : ℕ
most_data_blocks = 48

-- p, its parity blocks
abbrev pub most_parity_blocks : ℕ
most_parity_blocks = 16

-- a minute of a day
abbrev pub last_minute : ℕ
last_minute = 1439

-- the minutes of a day
abbrev pub day_minutes : ℕ
day_minutes = 1440

-- the minutes of a week
abbrev pub week_minutes : ℕ
week_minutes = 10080
