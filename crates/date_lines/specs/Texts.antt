-- Lines to a list of days, and a list of days to lines: the answers, and what is left in the lent bytes.
-- Assumes nothing.
use Rattle.std.specs.Prelude.{Bool, true, cond, ◌&&◌, List, [], ◌∷◌, ◌++◌, ℕ, suc, ◌+◌, min, leb, ltb, eqb, length, take, drop, Result, Ok, Err, is_ok}
use Rattle.days.specs.declared.refusal.Refusal.{Refusal}
use Rattle.days.specs.declared.refusal.Refusal.TheVariants.{ListTooShort}
use Rattle.days.specs.Refusals.{number_or_zero, and_then}
use Rattle.days.specs.Days.{last_day}
use Rattle.entries.specs.Entries.{capacity, with_entries}
use Rattle.entries.specs.Listed.{listed_from}
use Rattle.text.specs.Lines.{newline}
use Rattle.words.specs.Words.{in_front}
use Rattle.date_lines.specs.declared.Kind.{Kind}
use Rattle.date_lines.specs.declared.NotConverted.{NotConverted}
use Rattle.date_lines.specs.declared.NotConverted.TheVariants.{AtLine, NoDay, TooShort}
use Rattle.date_lines.specs.Lines.{line_read, line_of}

-- a text's lines, each with the newline that ends it; what stands behind the last newline is a line without one
unfoldable pub lines_of : List ℕ → List (List ℕ)
lines_of [] = []
lines_of (b ∷ bs) = cond (eqb b newline) ((b ∷ []) ∷ lines_of bs) (in_front b (lines_of bs))

-- the refusal of the first line that is refused, if one is
unfoldable pub first_refusal : Kind → List (List ℕ) → Result (Unit {0}) Refusal
first_refusal kind [] = Ok tt
first_refusal kind (l ∷ ls) = and_then (line_read kind l) (λ _. first_refusal kind ls)

-- how many lines are before it
unfoldable pub good_lines : Kind → List (List ℕ) → ℕ
good_lines kind [] = 0
good_lines kind (l ∷ ls) = cond (is_ok (line_read kind l)) (suc (good_lines kind ls)) 0

-- the days of lines, none of which is refused
unfoldable pub days_of : Kind → List (List ℕ) → List ℕ
days_of kind [] = []
days_of kind (l ∷ ls) = number_or_zero (line_read kind l) ∷ days_of kind ls

abbrev pub converted : ℕ → Result ℕ NotConverted
converted n = Ok n

-- refused: by a line, counted from 1, or by 7 with the length that would do
abbrev pub refused_line : Refusal → ℕ → Result ℕ NotConverted
refused_line refusal line = Err (AtLine refusal line)

abbrev pub too_short : ℕ → Result ℕ NotConverted
too_short n = Err (TooShort n)

-- so many lines, or where one is refused which one
abbrev pub unless_refused : Result (Unit {0}) Refusal → ℕ → ℕ → Result ℕ NotConverted
unless_refused (Ok _) lines line = converted lines
unless_refused (Err r) lines line = refused_line r line

-- what lines say: how many they are, or the first that is refused
unfoldable pub lines_read : Kind → List (List ℕ) → Result ℕ NotConverted
lines_read kind ls = unless_refused (first_refusal kind ls) (length ls) (good_lines kind ls + 1)

-- of so many lines at most: where more follows them and none of them is refused, 7, and the rest does not count
unfoldable pub limited_read : Kind → ℕ → List (List ℕ) → Result ℕ NotConverted
limited_read kind most ls =
    let front : Result ℕ NotConverted = lines_read kind (take most ls) in
    cond (is_ok front && ltb most (length ls)) (refused_line ListTooShort (most + 1)) front

-- and 7 for want of room in the list, with the number of lines
unfoldable pub with_room : ℕ → Result ℕ NotConverted → Result ℕ NotConverted
with_room room (Ok n) = cond (ltb room n) (too_short n) (converted n)
with_room room (Err e) = Err e

-- THE ANSWER for a text, of so many lines at most, to a list, and the list after
abbrev pub list_answer : Kind → ℕ → List ℕ → List ℕ → Result ℕ NotConverted
list_answer kind most text list = with_room (capacity list) (limited_read kind most (lines_of text))

unfoldable pub list_after : Kind → ℕ → List ℕ → List ℕ → List ℕ
list_after kind most text list =
    cond (is_ok (list_answer kind most text list)) (with_entries (days_of kind (lines_of text)) list) list

-- each number is a day
unfoldable pub all_days : List ℕ → Bool
all_days [] = true
all_days (d ∷ ds) = leb d last_day && all_days ds

-- the lines of days, one behind another
unfoldable pub text_of : Kind → List ℕ → List ℕ
text_of kind [] = []
text_of kind (d ∷ ds) = line_of kind d ++ text_of kind ds

-- the largest number that a length can be: what is longer is told as so long
abbrev pub longest : ℕ
longest = 18446744073709551615

-- the answer for so many bytes that are to be put into a text of so many: 7 with those that would do
abbrev pub fit_answer : ℕ → ℕ → Result ℕ NotConverted
fit_answer bytes room = cond (leb bytes room) (converted bytes) (too_short (min bytes longest))

-- the answer for days whose lines are to be put into so many bytes: 2 by the first that is no day, then 7
unfoldable pub days_answer : Kind → List ℕ → ℕ → Result ℕ NotConverted
days_answer kind days room = cond (all_days days) (fit_answer (length (text_of kind days)) room) (Err NoDay)

-- THE ANSWER for a list to a text, and the text after
abbrev pub text_answer : Kind → List ℕ → List ℕ → Result ℕ NotConverted
text_answer kind list text = days_answer kind (listed_from list 0) (length text)

-- bytes at a text's front, and behind them what was there
abbrev pub with_front : List ℕ → List ℕ → List ℕ
with_front bytes text = bytes ++ drop (length bytes) text

unfoldable pub text_after : Kind → List ℕ → List ℕ → List ℕ
text_after kind list text = cond (is_ok (text_answer kind list text)) (with_front (text_of kind (listed_from list 0)) text) text
