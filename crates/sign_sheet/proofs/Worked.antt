-- Worked sheets, byte by byte: what is printed for their inputs, and what is right. Both sides compute, so that `refl`
-- proves them.
-- Assumes nothing.
use mathlib.Core.Path.{◌≡◌, refl}
use mathlib.Core.List.{[], ◌∷◌}
use Rattle.civil.specs.Calendar.{leap, month_days, same_date, next, date_on}
use Rattle.civil.specs.Answers.{date_of_day}
use Rattle.dated.specs.Dated.{date_bytes, day_bytes, named_day_bytes}
use Rattle.days.specs.Days.{days_from, day_of, answer_over, answer_on, in_range}
use Rattle.entries.specs.Runs.{filtered}
use Rattle.integers.specs.Integers.{floor_over, reduced}
use Rattle.longitudes.specs.Longitudes.{table, mean_longitude, longitude_at, difference_of}
use Rattle.page.specs.Page.{is_element, has_arcs, with_condition, rank_of, ranks_before, first_refusal, first_value, second_value, both_read, numbers_read, alone_read, most_values, values_read, refused_as, condition_read, words_read, line_read}
use Rattle.panchanga.specs.TrueLongitudes.{bhuja, equation, signed, corrected, true_longitude, is_edition}
use Rattle.panchanga.specs.OnDays.{true_sun_at}
use Rattle.query.specs.Conditions.{numbers_in_range, weekdays_in_range, arc_in_range, body_arcs_in_range, arcs_in_range, true_arcs_in_range, elements_in_range, conditions_in_range}
use Rattle.query.specs.Query.{check_of}
use Rattle.span_line.specs.SpanLine.{both_days, span_line, is_one_line}
use Rattle.span_line.specs.Marked.{is_marked, marked_line, marked_input}
use Rattle.text.specs.Ascii.{ascii}
use Rattle.text.specs.Decimal.{is_digit, all_digits, with_digit, value_of, is_number, number_read, digits_within, digits_of}
use Rattle.text.specs.Lines.{spaced, refusal_line}
use Rattle.text.specs.Sheets.{joined}
use Rattle.values.specs.Values.{three_read, number_or, date_read, day_read}
use Rattle.words.specs.Words.{is_separator, run_length, up_to, after_first, trimmed, after_words, in_front, pieces, same_bytes, behind_mark, small_byte, small_from, place_in, name_at}
use Rattle.zodiac.specs.Zodiac.{sun_at, enters_on, sign_entries}
use Rattle.sign_sheet.specs.SignSheets.{sign_heading, sign_line, sign_lines, sun_meant, signs_printed}

-- the first cycle turns on day 4016, between two entries; the true Sun enters a sign on day 112448, on which one turns
pub worked :
    signs_printed (ascii "0 80\n")
    ∷ signs_printed (ascii "3990 4030 # a cycle turns\n")
    ∷ signs_printed (ascii "11 40\n")
    ∷ signs_printed (ascii "0 80 true\n")
    ∷ signs_printed (ascii "112420, 112480\tTRUE # a cycle turns\n")
    ∷ signs_printed (ascii "9 5\n")
    ∷ signs_printed (ascii "0 401600\n")
    ∷ signs_printed (ascii "0 80")
    ∷ signs_printed (ascii "9 5 true\n")
    ∷ signs_printed (ascii "0 80 tru\n")
    ∷ signs_printed (ascii "0 80 true true\n")
    ∷ signs_printed (ascii "0 true\n")
    ∷ []
    ≡ ascii "day date weekday sign\n11 1520-3-30 friday 0\n41 1520-4-29 sunday 1\n72 1520-5-30 wednesday 2\n"
    ∷ ascii "day date weekday sign\n3998 1531-2-28 tuesday 11\n4029 1531-3-31 friday 0\n"
    ∷ ascii "day date weekday sign\n"
    ∷ ascii "day date weekday sign\n9 1520-3-28 wednesday 0\n40 1520-4-28 saturday 1\n71 1520-5-29 tuesday 2\n"
    ∷ ascii "day date weekday sign\n112448 1828-2-11 monday 10\n112478 1828-3-12 wednesday 11\n"
    ∷ ascii "refused 5\n"
    ∷ ascii "refused 2\n"
    ∷ ascii "refused 3\n"
    ∷ ascii "refused 5\n"
    ∷ ascii "refused 3\n"
    ∷ ascii "refused 3\n"
    ∷ ascii "refused 3\n"
    ∷ []
unfolding is_separator run_length up_to after_first trimmed after_words in_front pieces same_bytes behind_mark small_byte small_from place_in name_at is_digit all_digits with_digit value_of is_number number_read digits_within digits_of spaced refusal_line three_read number_or date_read day_read is_edition numbers_in_range weekdays_in_range arc_in_range body_arcs_in_range arcs_in_range true_arcs_in_range elements_in_range conditions_in_range answer_over answer_on in_range day_of check_of both_read alone_read is_element has_arcs with_condition rank_of ranks_before first_refusal first_value second_value numbers_read most_values values_read refused_as condition_read words_read line_read both_days span_line is_one_line is_marked marked_line marked_input leap month_days same_date next date_on date_of_day date_bytes day_bytes named_day_bytes days_from filtered floor_over reduced table mean_longitude longitude_at difference_of bhuja equation signed corrected true_longitude true_sun_at sun_at enters_on sign_entries sign_heading sign_line sign_lines sun_meant joined
worked = refl
