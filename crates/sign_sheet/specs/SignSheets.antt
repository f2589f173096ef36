-- The sheet of signs: from the bytes of the input to the bytes that are printed, a heading and a line for each entry of
-- the span, by the mean Sun or, with the word `true`, by the true one; or a refusal.
-- Assumes nothing.
use Rattle.std.specs.Prelude.{Bool, cond, List, [], ◌∷◌, ◌++◌, map, ℕ, zero, suc, leb, Result, Ok, Err}
use Rattle.dated.specs.Dated.{named_day_bytes}
use Rattle.days.specs.declared.refusal.Refusal.{Refusal}
use Rattle.days.specs.Days.{last_day}
use Rattle.days.specs.Refusals.{refusal_number}
use Rattle.entries.specs.Entries.{entry_at}
use Rattle.span_line.specs.declared.Span.{Span}
use Rattle.span_line.specs.declared.Marked.{Marked}
use Rattle.span_line.specs.Marked.{marked_input}
use Rattle.text.specs.Ascii.{ascii}
use Rattle.text.specs.Lines.{spaced, refusal_line}
use Rattle.text.specs.Sheets.{joined}
use Rattle.entries.specs.declared.NotPut.{NotPut}
use Rattle.entries.specs.declared.NotPut.TheVariants.{Refused}
use Rattle.entries.specs.Told.{why_not}
use Rattle.zodiac.specs.declared.Sun.{Sun}
use Rattle.zodiac.specs.declared.Sun.TheVariants.{Mean, True}
use Rattle.zodiac.specs.Zodiac.{sign_on, sign_entries, listing_of, entries_after}
use Rattle.sign_sheet.specs.declared.Listed.{Listed}

unfoldable pub sign_heading : List ℕ
sign_heading = ascii "day date weekday sign\n"

-- the line of an entry on day n: its number, its date, its weekday's name, and the sign that is entered
unfoldable pub sign_line : Sun → ℕ → List ℕ
sign_line sun n = named_day_bytes n ++ (spaced (sign_on sun n ∷ []) ++ ascii "\n")

-- the lines of the sheet of a span that has been read: the heading and a line for each entry, or the refusal
unfoldable pub sign_lines : Sun → Result Span Refusal → List (List ℕ)
sign_lines sun (Ok s) = sign_heading ∷ map (sign_line sun) (sign_entries sun s.first s.last)
sign_lines sun (Err r) = refusal_line (refusal_number r) ∷ []

-- what an input asks for: a span, with the word `true` behind it or not
abbrev pub asked : List ℕ → Marked
asked input = marked_input (ascii "true") input

-- and so the true Sun or the mean one
unfoldable pub sun_meant : Bool → Sun
sun_meant marked = cond marked True Mean

abbrev pub sun_asked : List ℕ → Sun
sun_asked input = sun_meant (asked input).marked

-- the lines that are printed for an input
abbrev pub sign_lines_for : List ℕ → List (List ℕ)
sign_lines_for input = sign_lines (sun_asked input) (asked input).span

-- ALL THAT IS PRINTED for an input
abbrev pub signs_printed : List ℕ → List ℕ
signs_printed input = joined (sign_lines_for input)

-- nothing is listed of a span that was refused
abbrev pub no_listing : Refusal → Result ℕ NotPut
no_listing refusal = Err (Refused refusal)

-- the entries of a span that has been read, for a list of so many entries, and the list after; the span's refusal
-- leaves it as it was
unfoldable pub listing_on : Sun → Result Span Refusal → ℕ → Result ℕ NotPut
listing_on sun (Ok s) room = listing_of sun s.first s.last room
listing_on sun (Err r) room = no_listing r

unfoldable pub list_on : Sun → Result Span Refusal → List ℕ → List ℕ
list_on sun (Ok s) list = entries_after sun s.first s.last list
list_on sun (Err _) list = list

abbrev pub listed_for : List ℕ → ℕ → Listed
listed_for input room = record { sun = sun_asked input; listing = listing_on (sun_asked input) (asked input).span room }

abbrev pub list_for : List ℕ → List ℕ → List ℕ
list_for input list = list_on (sun_asked input) (asked input).span list

-- the line of an entry that is read from a list; none for one that is no day
unfoldable pub listed_line : Sun → Result ℕ Refusal → List ℕ
listed_line sun (Ok due) = cond (leb due last_day) (sign_line sun due) []
listed_line sun (Err _) = []

-- the most entries that a span has: those of all days
abbrev pub most_entries : ℕ
most_entries = 13194

-- the lines of n entries of a list, from entry k on
unfoldable pub entry_lines : Sun → List ℕ → ℕ → ℕ → List (List ℕ)
entry_lines sun list k zero = []
entry_lines sun list k (suc n) = listed_line sun (entry_at list k) ∷ entry_lines sun list (suc k) n

-- the heading and a line for each of so many entries
unfoldable pub lines_listed : Sun → ℕ → List ℕ → List (List ℕ)
lines_listed sun n list = sign_heading ∷ entry_lines sun list 0 n

-- the lines of a listing and its list: those, or the refusal
unfoldable pub listing_lines : Sun → Result ℕ NotPut → List ℕ → List (List ℕ)
listing_lines sun (Ok n) list = lines_listed sun n list
listing_lines sun (Err e) list = refusal_line (refusal_number (why_not e)) ∷ []
