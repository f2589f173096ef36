-- What a day and a page are asked with: the day on the first line, and behind it the page.
-- Assumes nothing.
use Rattle.std.specs.Prelude.{false, cond, List, ℕ, ◌+◌, eqb, leb, length, Option, Some, None, Result, Ok, Err}
use Rattle.days.specs.declared.refusal.Refusal.{Refusal}
use Rattle.days.specs.declared.refusal.Refusal.TheVariants.{OutOfRange, BadInput}
use Rattle.days.specs.Days.{last_day}
use Rattle.days.specs.Refusals.{bad_input, refusal_number, and_then}
use Rattle.page.specs.declared.Fault.{Fault}
use Rattle.page.specs.declared.PageRead.{PageRead}
use Rattle.page.specs.declared.Reason.{Reason}
use Rattle.page.specs.declared.Reason.TheVariants.{BadValue, NotEnded}
use Rattle.page.specs.Page.{first_fault, page_read}
use Rattle.text.specs.Lines.{newline}
use Rattle.values.specs.Values.{day_read}
use Rattle.words.specs.Words.{hash, run_length, up_to, after_first, first_word, after_word, unmarked}
use Rattle.question.specs.declared.Question.{Question}

-- a number, where it is a day's
abbrev pub day_in_range : ℕ → Result ℕ Refusal
day_in_range n = cond (leb n last_day) (Ok n) (Err OutOfRange)

-- the day of a line: one word, its number or its civil date; a `#` starts a comment
unfoldable pub day_line_read : List ℕ → Result ℕ Refusal
day_line_read l =
    cond (eqb (length (first_word (after_word (up_to hash l)))) 0)
    (and_then (day_read (first_word (up_to hash l))) (λ n. day_in_range n))
    (Err BadInput)

-- a fault of the first line
abbrev pub first_at : Refusal → Option Reason → Fault
first_at r why = record { refusal = r; reason = why; line = 1 }

-- the day, or why the line is refused
unfoldable pub day_or_fault : Result ℕ Refusal → Result ℕ Fault
day_or_fault (Ok d) = Ok d
day_or_fault (Err r) = Err (first_at r (cond (eqb (refusal_number r) bad_input) (Some BadValue) None))

-- of a text, which has to have a newline
unfoldable pub first_line_read : List ℕ → Result ℕ Fault
first_line_read text =
    cond (eqb (run_length false newline text) (length text)) (Err (first_at BadInput (Some NotEnded))) (day_or_fault (day_line_read (up_to newline text)))

-- a page whose first line is the second of the text
abbrev pub a_line_down : Result PageRead Fault → Result PageRead Fault
a_line_down (Ok page) = Ok page
a_line_down (Err f) = Err (record { refusal = f.refusal; reason = f.reason; line = f.line + 1 })

-- the page behind the day
abbrev pub behind_day : List ℕ → Result PageRead Fault
behind_day text = a_line_down (page_read (after_first newline text))

-- the first line and the page together: of two faults the one whose refusal comes first in a page's order, of two alike
-- the first line's
unfoldable pub asked_by : Result ℕ Fault → Result PageRead Fault → Result Question Fault
asked_by (Ok d) (Ok page) = Ok (record { day = d; query = page.query; print = page.print })
asked_by (Ok d) (Err f) = Err f
asked_by (Err f) (Ok page) = Err f
asked_by (Err f) (Err g) = Err (first_fault f g)

-- WHAT A TEXT ASKS; it may have a byte order mark in front, and so may the page
unfoldable pub question_read : List ℕ → Result Question Fault
question_read text = asked_by (first_line_read (unmarked text)) (behind_day text)
