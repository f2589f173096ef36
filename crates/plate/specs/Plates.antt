-- The engravers' plate: from the bytes of the input to the bytes that are printed, a heading and a line for each body,
-- or a refusal.
-- Assumes nothing.
use Rattle.std.specs.Prelude.{List, [], ◌∷◌, ◌++◌, ℕ, zero, suc, ◌/◌, ◌%◌, Result, Ok, Err}
use Rattle.days.specs.declared.refusal.Refusal.{Refusal}
use Rattle.days.specs.Refusals.{refusal_number}
use Rattle.days.specs.Days.{pair_at}
use Rattle.longitudes.specs.Longitudes.{longitude_at, thirds_at}
use Rattle.text.specs.Ascii.{ascii}
use Rattle.text.specs.Lines.{spaced, refusal_line}
use Rattle.text.specs.Inputs.{day_input}
use Rattle.text.specs.Sheets.{joined}
use Rattle.words.specs.Names.{body_names}
use Rattle.words.specs.Words.{name_at}

unfoldable pub plate_heading : List ℕ
plate_heading = ascii "body degrees minutes seconds thirds\n"

-- whole seconds of arc as degrees, minutes and seconds, and the thirds
abbrev pub sexagesimal : ℕ → ℕ → List ℕ
sexagesimal seconds thirds = seconds / 3600 ∷ seconds / 60 % 60 ∷ seconds % 60 ∷ thirds ∷ []

-- the line of the body with the number b
unfoldable pub body_line : ℕ → ℕ → ℕ → List ℕ
body_line b seconds thirds = name_at body_names b ++ (spaced (sexagesimal seconds thirds) ++ ascii "\n")

abbrev pub body_line_on : ℕ → ℕ → List ℕ
body_line_on n b = body_line b (longitude_at b (pair_at n)) (thirds_at b (pair_at n))

-- the lines of m bodies on day n, from body b on
unfoldable pub body_lines : ℕ → ℕ → ℕ → List (List ℕ)
body_lines n b zero = []
body_lines n b (suc m) = body_line_on n b ∷ body_lines n (suc b) m

-- a day's lines: the heading and the nine bodies in paper 01's order
abbrev pub lines_of : ℕ → List (List ℕ)
lines_of n = plate_heading ∷ body_lines n 0 9

-- the lines for a day that was read, or was refused
abbrev pub lines_for : Result ℕ Refusal → List (List ℕ)
lines_for (Ok n) = lines_of n
lines_for (Err r) = refusal_line (refusal_number r) ∷ []

-- the lines that are printed for an input: the day's, or the refusal
unfoldable pub plate_lines : List ℕ → List (List ℕ)
plate_lines bs = lines_for (day_input bs)

-- ALL THAT IS PRINTED for an input
abbrev pub plate_printed : List ℕ → List ℕ
plate_printed input = joined (plate_lines input)
