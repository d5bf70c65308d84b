-- The codes of refusals and the verdict of a rejected reply, in the order of their numbers. Assumes nothing.
use Rattle.std.specs.Prelude.{ℕ}

-- a buffer has another length than the call asks
abbrev pub wrong_length : ℕ
wrong_length = 1

-- a card, message or reply of no version that there is, or not of its size; an ask in version 1 or 2
abbrev pub bad_header : ℕ
bad_header = 2

-- a field, or a number that the caller gives, is outside its limits
abbrev pub out_of_limits : ℕ
out_of_limits = 3

-- a block number is 0 or above n
abbrev pub no_such_block : ℕ
no_such_block = 4

-- an append or a load that would take n past its maximum
abbrev pub file_full : ℕ
file_full = 5

-- a draw after the last token
abbrev pub no_token_left : ℕ
no_token_left = 6

-- an unused record does not open; the lowest such token comes with the code
abbrev pub bad_record : ℕ
bad_record = 7

-- a change, ask or draw while a drawn token is not judged
abbrev pub token_open : ℕ
token_open = 8

-- a judgement, or asking the cause, while no token is drawn
abbrev pub none_open : ℕ
none_open = 9

-- a change or ask with the last counter issued at its maximum
abbrev pub counter_at_most : ℕ
counter_at_most = 10

-- the verdict on a reply that does not prove possession
abbrev pub rejected : ℕ
rejected = 11

-- a load of no bytes, or of a length that B does not divide
abbrev pub not_whole_blocks : ℕ
not_whole_blocks = 12

-- more positions than the maximum
abbrev pub too_many_positions : ℕ
too_many_positions = 13

-- a batch of another size or kind, or with numbers that do not rise
abbrev pub bad_batch : ℕ
bad_batch = 14

-- a mark above 1
abbrev pub bad_mark : ℕ
bad_mark = 15

-- a date or a minute outside the limits
abbrev pub bad_time : ℕ
bad_time = 16

-- a draw at a time that the plan does not allow
abbrev pub outside_windows : ℕ
outside_windows = 17

-- a change, ask or draw while a change is pending
abbrev pub change_pending : ℕ
change_pending = 18

-- a commit or drop while none is
abbrev pub none_pending : ℕ
none_pending = 19

-- a sheet for more damaged rows than there are rows
abbrev pub too_many_damaged : ℕ
too_many_damaged = 21

-- a role that may not make the call
abbrev pub not_permitted : ℕ
not_permitted = 22

-- a pool of too few or too many files, or with an id that occurs twice
abbrev pub bad_pool : ℕ
bad_pool = 23

-- a group of too few or too many blocks; a lost block named twice, or one that is not in the group
abbrev pub bad_group : ℕ
bad_group = 24

-- more blocks lost than there are parity blocks
abbrev pub too_many_lost : ℕ
too_many_lost = 25
