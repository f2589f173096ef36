-- What the two programs print and say: lines of one kind to lines of the other, up to 4,096 of them, or the refusal.
-- Assumes nothing.
use Rattle.std.specs.Prelude.{cond, List, ◌++◌, ℕ, eqb, length, Result, Ok, Err}
use Rattle.days.specs.Refusals.{list_too_short, bad_line, refusal_number}
use Rattle.text.specs.Ascii.{ascii}
use Rattle.text.specs.Decimal.{digits_of}
use Rattle.text.specs.Lines.{refusal_line}
use Rattle.messages.specs.Messages.{refusal_text}
use Rattle.date_lines.specs.declared.Kind.{Kind}
use Rattle.date_lines.specs.declared.Kind.TheVariants.{Dates, Days}
use Rattle.date_lines.specs.declared.NotConverted.{NotConverted}
use Rattle.date_lines.specs.Told.{why_not}
use Rattle.conversion.specs.declared.Printed.{Printed}
use Rattle.date_lines.specs.Texts.{lines_of, days_of, limited_read, text_of}

abbrev pub most_lines : ℕ
most_lines = 4096

abbrev pub other_kind : Kind → Kind
other_kind Dates = Days
other_kind Days = Dates

-- what the lines that were read say: more than 4,096 good ones are refused with 7
abbrev pub read_of : Kind → List ℕ → Result ℕ NotConverted
read_of kind input = limited_read kind most_lines (lines_of input)

abbrev pub unless_refused : Result ℕ NotConverted → List ℕ → List ℕ
unless_refused (Ok _) lines = lines
unless_refused (Err f) lines = refusal_line (refusal_number (why_not f))

-- ALL THAT IS PRINTED: every line, or the refusal
unfoldable pub printed : Kind → List ℕ → List ℕ
printed kind input = unless_refused (read_of kind input) (text_of (other_kind kind) (days_of kind (lines_of input)))

-- what is told of it: how many bytes are printed, and what the lines say
unfoldable pub told : Kind → List ℕ → Printed
told kind input = record { length = length (printed kind input); read = read_of kind input }

-- why a line is of another form
abbrev pub form_text : Kind → List ℕ
form_text Dates = ascii "no date as YYYY-MM-DD with its newline\n"
form_text Days = ascii "no day of 1 to 6 digits with its newline\n"

-- which line, and why
unfoldable pub fault_text : Kind → ℕ → List ℕ
fault_text kind refusal = cond (eqb refusal bad_line) (form_text kind) (cond (eqb refusal list_too_short) (ascii "more than 4096 lines\n") (refusal_text refusal))

unfoldable pub fault_line : Kind → ℕ → ℕ → List ℕ
fault_line kind refusal line = ascii "line " ++ (digits_of line ++ (ascii ": " ++ fault_text kind refusal))
