-- Worked cases: the plate of day 0, whose longitudes are the epoch's and whole, and an input for each refusal. Both
-- sides compute, so that `refl` proves them.
-- Assumes nothing.
use mathlib.Core.Path.{◌≡◌, refl}
use mathlib.Core.List.{[], ◌∷◌}
use Rattle.integers.specs.Integers.{floor_over, reduced}
use Rattle.longitudes.specs.Longitudes.{table, mean_longitude, remainder_of, thirds, longitude_at, thirds_at}
use Rattle.text.specs.Ascii.{ascii}
use Rattle.text.specs.Decimal.{is_digit, all_digits, with_digit, value_of, is_number, number_read, digits_within, digits_of}
use Rattle.text.specs.Lines.{spaced, refusal_line}
use Rattle.text.specs.Inputs.{is_line, input_read, day_input}
use Rattle.text.specs.Sheets.{joined}
use Rattle.words.specs.Words.{name_at}
use Rattle.plate.specs.Plates.{plate_heading, body_line, body_lines, plate_lines, plate_printed}

pub epoch :
    plate_printed (ascii "0\n")
    ≡ ascii "body degrees minutes seconds thirds\nsun 349 41 0 0\nmoon 349 6 0 0\napogee 167 33 0 0\nnode 27 38 0 0\nmars 307 8 0 0\nmercury 269 33 0 0\njupiter 212 16 0 0\nvenus 230 9 0 0\nsaturn 285 21 0 0\n"
unfolding joined plate_lines plate_heading body_lines body_line spaced name_at day_input input_read is_line number_read is_number all_digits is_digit value_of with_digit digits_of digits_within longitude_at thirds_at thirds remainder_of mean_longitude table floor_over reduced
epoch = refl

pub refused : plate_printed (ascii "") ∷ plate_printed (ascii "7") ∷ plate_printed (ascii "401600\n") ∷ [] ≡ ascii "refused 3\n" ∷ ascii "refused 3\n" ∷ ascii "refused 2\n" ∷ []
unfolding joined plate_lines refusal_line day_input input_read is_line number_read is_number all_digits is_digit value_of with_digit digits_of digits_within
refused = refl
