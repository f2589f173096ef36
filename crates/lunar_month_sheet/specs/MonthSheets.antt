-- The sheet of a lunar month: from the bytes of the input, a day and an edition, to the bytes that are printed.
-- Assumes nothing.
use Rattle.std.specs.Prelude.{cond, ◌&&◌, List, ◌++◌, ℕ, ltb, eqb, length, Option, Some, None, Result, Ok, Err}
use Rattle.dated.specs.Dated.{day_bytes}
use Rattle.days.specs.declared.refusal.Refusal.{Refusal}
use Rattle.days.specs.declared.refusal.Refusal.TheVariants.{BadInput, BadEdition}
use Rattle.days.specs.Refusals.{bad_input, refusal_number, result_number}
use Rattle.lunar_months.specs.declared.MonthStart.{MonthStart}
use Rattle.lunar_months.specs.MonthStarts.{month_on}
use Rattle.panchanga.specs.TrueLongitudes.{first_edition, is_edition}
use Rattle.span_line.specs.SpanLine.{is_one_line}
use Rattle.text.specs.Ascii.{ascii}
use Rattle.text.specs.Decimal.{digits_of, number_read}
use Rattle.text.specs.Inputs.{too_long}
use Rattle.text.specs.Lines.{newline, refusal_line}
use Rattle.values.specs.Values.{day_read}
use Rattle.words.specs.Words.{hash, up_to, first_word, after_word}
use Rattle.lunar_month_sheet.specs.declared.Asked.{Asked}

-- an edition's number, or the first edition where no word is given
unfoldable pub edition_read : List ℕ → Result ℕ Refusal
edition_read word = cond (eqb (length word) 0) (Ok first_edition) (number_read word)

-- a day that has been read, with an edition; else the day's own refusal
abbrev pub asked_in : ℕ → Result ℕ Refusal → Result Asked Refusal
asked_in edition (Ok day) = Ok (record { day = day; edition = edition })
asked_in edition (Err r) = Err r

-- a day and an edition that have been read: 3 where either has another form, then 14 for a number that is no edition,
-- then the day's own refusal
unfoldable pub asked : Result ℕ Refusal → Result ℕ Refusal → Result Asked Refusal
asked day (Err _) = Err BadInput
asked day (Ok edition) = cond (eqb (result_number day) bad_input) (Err BadInput) (cond (is_edition edition) (asked_in edition day) (Err BadEdition))

-- a line of one word or two, without its comment: a day, as a page's span has it, and the edition
unfoldable pub asked_line : List ℕ → Result Asked Refusal
asked_line line =
    let body = up_to hash line in
    let others = after_word body in
    cond (eqb (length (first_word (after_word others))) 0) (asked (day_read (first_word body)) (edition_read (first_word others))) (Err BadInput)

-- what a program's input asks: one line, ended by a newline
unfoldable pub asked_input : List ℕ → Result Asked Refusal
asked_input input = cond (ltb (length input) too_long && is_one_line input) (asked_line (up_to newline input)) (Err BadInput)

unfoldable pub month_heading : List ℕ
month_heading = ascii "day date turns turn date\n"

-- the number of month starts up to a day, and the latest with its date, or `- -` where there is none
unfoldable pub start_bytes : Option MonthStart → List ℕ
start_bytes None = ascii "0 - -\n"
start_bytes (Some start) = digits_of start.number ++ (ascii " " ++ (day_bytes start.day ++ ascii "\n"))

-- a day's heading and line: its number and date, and the month starts up to it
unfoldable pub month_sheet : ℕ → Option MonthStart → List ℕ
month_sheet day month = month_heading ++ (day_bytes day ++ (ascii " " ++ start_bytes month))

-- what is printed of the month of a day
abbrev pub found_sheet : ℕ → Result (Option MonthStart) Refusal → List ℕ
found_sheet day (Ok month) = month_sheet day month
found_sheet day (Err r) = refusal_line (refusal_number r)

-- what is printed where a day and an edition are asked
abbrev pub month_told : Result Asked Refusal → List ℕ
month_told (Ok a) = found_sheet a.day (month_on a.edition a.day)
month_told (Err r) = refusal_line (refusal_number r)

-- ALL THAT IS PRINTED for an input
abbrev pub month_printed : List ℕ → List ℕ
month_printed input = month_told (asked_input input)
