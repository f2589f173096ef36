-- What is told of what is put into lent memory: its length, or why nothing is put.
-- Assumes nothing.
use Rattle.std.specs.Prelude.{ℕ, leb, cond, Result, Ok, Err}
use Rattle.days.specs.declared.refusal.Refusal.{Refusal}
use Rattle.days.specs.declared.refusal.Refusal.TheVariants.{ListTooShort}
use Rattle.days.specs.Refusals.{accepted, refusal_number}
use Rattle.entries.specs.declared.NotPut.{NotPut}
use Rattle.entries.specs.declared.NotPut.TheVariants.{Refused, TooShort}

abbrev pub why_not : NotPut → Refusal
why_not (Refused r) = r
why_not (TooShort _) = ListTooShort

-- what needs this length is put where there is so much room
unfoldable pub put_if : Result ℕ Refusal → ℕ → Result ℕ NotPut
put_if (Ok n) room = cond (leb n room) (Ok n) (Err (TooShort n))
put_if (Err r) room = Err (Refused r)

-- 0, or the number of its refusal
unfoldable pub put_number : Result ℕ NotPut → ℕ
put_number (Ok _) = accepted
put_number (Err e) = refusal_number (why_not e)

-- the length that is put or would do, and 0 of any other refusal
unfoldable pub length_told : Result ℕ NotPut → ℕ
length_told (Ok n) = n
length_told (Err (Refused _)) = 0
length_told (Err (TooShort n)) = n

-- the number behind the length, which is 0 of every answer that is not a search's
abbrev pub third_told : Result ℕ NotPut → ℕ
third_told _ = 0
