-- A day's number as a program reads it: 1 to 6 decimal digits and one newline, and a day that there is. And how long a
-- text may be that a program reads.
-- Assumes nothing.
use Rattle.std.specs.Prelude.{Bool, cond, ◌&&◌, List, ℕ, ◌-◌, leb, eqb, length, get_or, take, Result, Ok, Err}
use Rattle.days.specs.declared.refusal.Refusal.{Refusal}
use Rattle.days.specs.declared.refusal.Refusal.TheVariants.{OutOfRange, BadInput}
use Rattle.days.specs.Days.{last_day}
use Rattle.text.specs.Decimal.{number_read}
use Rattle.text.specs.Lines.{newline}

-- a text that a program reads whole has fewer bytes
abbrev pub too_long : ℕ
too_long = 524288

-- at most seven bytes, the last of them a newline
unfoldable pub is_line : List ℕ → Bool
is_line bs = leb (length bs) 7 && eqb (get_or bs (length bs - 1) 0) newline

-- the number of an input that is 1 to 6 decimal digits and one newline
unfoldable pub input_read : List ℕ → Result ℕ Refusal
input_read bs = cond (is_line bs) (number_read (take (length bs - 1) bs)) (Err BadInput)

-- of a number that was read: where it is a day's
abbrev pub day_read : Result ℕ Refusal → Result ℕ Refusal
day_read (Ok n) = cond (leb n last_day) (Ok n) (Err OutOfRange)
day_read (Err r) = Err r

-- and it is a day's
unfoldable pub day_input : List ℕ → Result ℕ Refusal
day_input bs = day_read (input_read bs)
