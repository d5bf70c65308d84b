-- The number that a refused call returns. Assumes nothing.
--   number e      the code of a refusal, and 256 times the token where there is one
--   code_in r     0 for no refusal, else its number
--   number_in r   the number that a call gives, or that of its refusal
--   code_of r     0 for a value, else the number of the refusal
--   given_in r    256 times what a call gives beside code 0, or the number of its refusal
use Rattle.std.specs.Prelude.{ℕ, ◌+◌, ◌*◌, Result, Ok, Err}
use Rattle.counts.specs.Codes.{wrong_length, bad_header, out_of_limits, no_such_block, file_full, no_token_left, bad_record, token_open, none_open, counter_at_most, not_whole_blocks, too_many_positions, bad_batch, bad_mark, bad_time, outside_windows, change_pending, none_pending, too_many_damaged, not_permitted, bad_pool, bad_group, too_many_lost}
use Rattle.counts.specs.declared.refusal.Refusal.{Refusal}
use Rattle.counts.specs.declared.refusal.Refusal.TheVariants.{WrongLength, WrongHeader, OutOfLimits, NoSuchBlock, FileFull, NoTokenLeft, BadRecord, TokenOpen, NoneOpen, CounterAtMost, NotWholeBlocks, TooManyPositions, BadBatch, BadMark, BadTime, OutsideWindows, ChangePending, NonePending, TooManyDamaged, NotPermitted, BadPool, BadGroup, TooManyLost}

abbrev pub number : Refusal → ℕ
number WrongLength = wrong_length
number WrongHeader = bad_header
number OutOfLimits = out_of_limits
number NoSuchBlock = no_such_block
number FileFull = file_full
number NoTokenLeft = no_token_left
number (BadRecord token) = bad_record + 256 * token
number TokenOpen = token_open
number NoneOpen = none_open
number CounterAtMost = counter_at_most
number NotWholeBlocks = not_whole_blocks
number TooManyPositions = too_many_positions
number BadBatch = bad_batch
number BadMark = bad_mark
number BadTime = bad_time
number OutsideWindows = outside_windows
number ChangePending = change_pending
number NonePending = none_pending
number TooManyDamaged = too_many_damaged
number NotPermitted = not_permitted
number BadPool = bad_pool
number BadGroup = bad_group
number TooManyLost = too_many_lost

abbrev pub code_in : Result Unit Refusal → ℕ
code_in (Ok x) = 0
code_in (Err e) = number e

abbrev pub number_in : Result ℕ Refusal → ℕ
number_in (Ok x) = x
number_in (Err e) = number e

abbrev pub given_in : Result ℕ Refusal → ℕ
given_in (Ok x) = 256 * x
given_in (Err e) = number e

abbrev pub code_of : {T : Type 0} → Result T Refusal → ℕ
code_of (Ok x) = 0
code_of (Err e) = number e
