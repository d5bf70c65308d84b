-- What the length field of a record says: the bytes that come after the field. Assumes nothing.
use Rattle.std.specs.Prelude.{ℕ}

-- a card of version 1 or 2
abbrev pub card_length_field : ℕ
card_length_field = 41

-- a card of version 3
abbrev pub two_step_card_length_field : ℕ
two_step_card_length_field = 61

-- a token record
abbrev pub record_length_field : ℕ
record_length_field = 61

-- a message
abbrev pub message_length_field : ℕ
message_length_field = 89

-- a reply
abbrev pub reply_length_field : ℕ
reply_length_field = 108

-- a pooled reply, before its entries
abbrev pub pooled_head_length : ℕ
pooled_head_length = 35
