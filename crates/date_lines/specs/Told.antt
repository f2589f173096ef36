-- What is told of lines and lists: how many entries or bytes, or why nothing is written.
-- Assumes nothing.
use Rattle.std.specs.Prelude.{ℕ, Result, Ok, Err}
use Rattle.days.specs.declared.refusal.Refusal.{Refusal}
use Rattle.days.specs.declared.refusal.Refusal.TheVariants.{OutOfRange, ListTooShort}
use Rattle.days.specs.Refusals.{accepted, refusal_number}
use Rattle.date_lines.specs.declared.NotConverted.{NotConverted}
use Rattle.date_lines.specs.declared.NotConverted.TheVariants.{AtLine, NoDay, TooShort}

abbrev pub why_not : NotConverted → Refusal
why_not (AtLine r _) = r
why_not NoDay = OutOfRange
why_not (TooShort _) = ListTooShort

-- the line at fault, counted from 1, or 0
abbrev pub line_at_fault : NotConverted → ℕ
line_at_fault (AtLine _ n) = n
line_at_fault NoDay = 0
line_at_fault (TooShort _) = 0

-- 0, or the number of its refusal
unfoldable pub conversion_number : Result ℕ NotConverted → ℕ
conversion_number (Ok _) = accepted
conversion_number (Err e) = refusal_number (why_not e)

-- what is written or would do, and 0 of any other refusal
unfoldable pub length_told : Result ℕ NotConverted → ℕ
length_told (Ok n) = n
length_told (Err (AtLine _ _)) = 0
length_told (Err NoDay) = 0
length_told (Err (TooShort n)) = n
