-- The refusals by number: paper 01's, and from 8 on paper 02's. Result 0 means accepted.
-- Assumes nothing.
use Rattle.std.specs.Prelude.{ℕ, Result, Ok, Err}
use Rattle.days.specs.declared.refusal.Refusal.{Refusal}
use Rattle.days.specs.declared.refusal.Refusal.TheVariants.{NoSuchDate, OutOfRange, BadInput, NoSuchWeekday, LastBeforeFirst, BadCondition, ListTooShort, NoExtraMonth, BadLength, BadChecksum, BadIndex, NotZero, BadDay, BadEdition, BadLine, NoSuchBody}

abbrev pub accepted : ℕ
accepted = 0

abbrev pub no_such_date : ℕ
no_such_date = 1

abbrev pub out_of_range : ℕ
out_of_range = 2

abbrev pub bad_input : ℕ
bad_input = 3

abbrev pub no_such_weekday : ℕ
no_such_weekday = 4

abbrev pub last_before_first : ℕ
last_before_first = 5

abbrev pub bad_condition : ℕ
bad_condition = 6

abbrev pub list_too_short : ℕ
list_too_short = 7

-- of a Saka date: an extra month is still to come, and the reckoning has none
abbrev pub no_extra_month : ℕ
no_extra_month = 8

-- of an almanac file: less than a block, or another length than its first block's count demands
abbrev pub bad_length : ℕ
bad_length = 9

-- of the first bad block of such a file, in this order: its checksum, its index or the count of days
abbrev pub bad_checksum : ℕ
bad_checksum = 10

abbrev pub bad_index : ℕ
bad_index = 11

-- a byte that should be zero
abbrev pub not_zero : ℕ
not_zero = 12

-- a day that is not the one after, or whose fields are not its own
abbrev pub bad_day : ℕ
bad_day = 13

-- an edition other than 1 or 2
abbrev pub bad_edition : ℕ
bad_edition = 14

-- of a list of lines: one that is of another form
abbrev pub bad_line : ℕ
bad_line = 15

-- a body's number above 8
abbrev pub no_such_body : ℕ
no_such_body = 16

abbrev pub refusal_number : Refusal → ℕ
refusal_number NoSuchDate = no_such_date
refusal_number OutOfRange = out_of_range
refusal_number BadInput = bad_input
refusal_number NoSuchWeekday = no_such_weekday
refusal_number LastBeforeFirst = last_before_first
refusal_number BadCondition = bad_condition
refusal_number ListTooShort = list_too_short
refusal_number NoExtraMonth = no_extra_month
refusal_number BadLength = bad_length
refusal_number BadChecksum = bad_checksum
refusal_number BadIndex = bad_index
refusal_number NotZero = not_zero
refusal_number BadDay = bad_day
refusal_number BadEdition = bad_edition
refusal_number BadLine = bad_line
refusal_number NoSuchBody = no_such_body

-- of an answer: 0, or the number of its refusal
unfoldable pub result_number : {A : Type 0} → Result A Refusal → ℕ
result_number (Ok _) = accepted
result_number (Err r) = refusal_number r

-- its number, and 0 of a refusal
unfoldable pub number_or_zero : Result ℕ Refusal → ℕ
number_or_zero (Ok n) = n
number_or_zero (Err _) = 0

-- a number of what is told, and 0 of a refusal
abbrev pub part_or_zero : {A : Type 0} → (A → ℕ) → Result A Refusal → ℕ
part_or_zero part (Ok a) = part a
part_or_zero part (Err _) = 0

-- what follows an answer; a refusal stands
abbrev pub and_then : {A B : Type 0} → Result A Refusal → (A → Result B Refusal) → Result B Refusal
and_then (Ok a) follow = follow a
and_then (Err r) follow = Err r
