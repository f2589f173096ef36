-- The sheet of the three drifts: from the bytes of the input to the bytes that are printed, a heading and a line for
-- each of the three, or a refusal.
-- Assumes nothing.
use Rattle.std.specs.Prelude.{List, [], ◌∷◌, ◌++◌, ℕ, Result, Ok, Err}
use Rattle.dated.specs.Dated.{day_bytes}
use Rattle.days.specs.declared.refusal.Refusal.{Refusal}
use Rattle.days.specs.Refusals.{refusal_number}
use Rattle.older_motions.specs.declared.Farthest.{Farthest}
use Rattle.older_motions.specs.declared.Drifts.{Drifts}
use Rattle.older_motions.specs.Drifts.{drifts_over}
use Rattle.span_line.specs.declared.Span.{Span}
use Rattle.span_line.specs.SpanLine.{span_input}
use Rattle.text.specs.Ascii.{ascii}
use Rattle.text.specs.Decimal.{digits_of}
use Rattle.text.specs.Lines.{refusal_line}
use Rattle.text.specs.Sheets.{joined}
use Rattle.words.specs.Names.{body_names}
use Rattle.words.specs.Words.{name_at}

unfoldable pub drift_heading : List ℕ
drift_heading = ascii "body numerator divisor day date\n"

-- the line of the body with the number b: the fraction, the day and its date
unfoldable pub drift_line : ℕ → ℕ → ℕ → ℕ → List ℕ
drift_line b numerator divisor day =
    name_at body_names b ++ (ascii " " ++ (digits_of numerator ++ (ascii " " ++ (digits_of divisor ++ (ascii " " ++ (day_bytes day ++ ascii "\n"))))))

abbrev pub drift_line_of : ℕ → Farthest → List ℕ
drift_line_of b x = drift_line b x.numerator x.divisor x.day

-- the drifts over the span that an input means; a refusal of the input is theirs
abbrev pub drifts_of : Result Span Refusal → Result Drifts Refusal
drifts_of (Ok span) = drifts_over span.first span.last
drifts_of (Err r) = Err r

abbrev pub drifts_read : List ℕ → Result Drifts Refusal
drifts_read bs = drifts_of (span_input bs)

-- the lines of a sheet: the heading and the three, or the refusal
abbrev pub drift_lines : Result Drifts Refusal → List (List ℕ)
drift_lines (Ok d) = drift_heading ∷ drift_line_of 0 d.sun ∷ drift_line_of 1 d.moon ∷ drift_line_of 2 d.apogee ∷ []
drift_lines (Err r) = refusal_line (refusal_number r) ∷ []

-- the lines that are printed for an input
abbrev pub drift_lines_for : List ℕ → List (List ℕ)
drift_lines_for input = drift_lines (drifts_read input)

-- ALL THAT IS PRINTED for an input
abbrev pub drifts_printed : List ℕ → List ℕ
drifts_printed input = joined (drift_lines_for input)
