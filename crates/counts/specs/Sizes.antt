-- How many bytes each buffer of fixed size has. Assumes nothing.
use Rattle.std.specs.Prelude.{ℕ}

-- a master key
abbrev pub master_size : ℕ
master_size = 32

-- a file id
abbrev pub id_size : ℕ
id_size = 8

-- a card of version 1 or 2
abbrev pub card_size : ℕ
card_size = 43

-- a card of version 3
abbrev pub two_step_card_size : ℕ
two_step_card_size = 63

-- a token record
abbrev pub record_size : ℕ
record_size = 63

-- a message
abbrev pub message_size : ℕ
message_size = 91

-- a reply
abbrev pub reply_size : ℕ
reply_size = 110

-- a weekly plan
abbrev pub plan_size : ℕ
plan_size = 28

-- a buffer of totals
abbrev pub totals_size : ℕ
totals_size = 16

-- a planning sheet
abbrev pub sheet_size : ℕ
sheet_size = 40

-- what a pooled reply begins with
abbrev pub pooled_head : ℕ
pooled_head = 37

-- what it has of each file: id, token number and record
abbrev pub pooled_entry : ℕ
pooled_entry = 75
