-- Worked pages: what is said of them, and what is right. Both sides compute, so that `refl` proves them.
-- Assumes nothing.
use mathlib.Core.Path.{◌≡◌, refl}
use mathlib.Core.List.{[], ◌∷◌}
use Rattle.civil.specs.Calendar.{leap, month_days, same_date, next, date_on}
use Rattle.civil.specs.Answers.{date_of_day}
use Rattle.dated.specs.Dated.{date_bytes, angle_bytes}
use Rattle.days.specs.Weekdays.{in_set}
use Rattle.page.specs.Page.{is_element, has_arcs, with_condition, print_read, with_print, rank_of, ranks_before, first_refusal, first_value, second_value, numbers_read, arc_read, width_to, to_arc, named_arc, arc_in, arc_words, second_arc_in, arcs_read, arcs_in, most_values, element_of, values_read, refused_as, condition_read, words_read, line_read, first_fault, with_line, with_lines, page_answer, page_read, both_read, alone_read, with_keyword}
use Rattle.names.specs.Names.{name_read}
use Rattle.panchanga.specs.TrueLongitudes.{is_edition}
use Rattle.query.specs.Conditions.{has_number, with_number, numbers_in_range, weekdays_in_range, arc_in_range, body_arcs_in_range, arcs_in_range, true_arcs_in_range, elements_in_range, conditions_in_range}
use Rattle.query.specs.Query.{check_of}
use Rattle.days.specs.Days.{answer_over}
use Rattle.text.specs.Ascii.{ascii}
use Rattle.text.specs.Decimal.{is_digit, all_digits, with_digit, value_of, is_number, number_read, digits_within, digits_of}
use Rattle.values.specs.Values.{three_read, two_read, degrees_read, sexagesimal_read, number_or, angle_read, day_read, elapsed_in, half_read, half_named, name_value, value_read, with_weekday, in_numbers, with_number_read, with_value, set_read, set_of, none_read}
use Rattle.words.specs.Words.{is_separator, run_length, up_to, after_first, trimmed, after_words, in_front, pieces, same_bytes, behind_mark, small_byte, small_from, unmarked, place_in}
use Rattle.remarks.specs.Remarks.{line_text, arc_text, seconds_text, width_text, numbers_text, days_text, likely_degrees, likely_end, likely_year, likely_years, plain_remark, end_remark, arc_remark, span_remark, first_remark, second_remark, line_remarks, lines_remarks, asks, some_asks, nothing_asked, last_remark, remarks_of}

pub worked :
    remarks_of 1 (ascii "span 1607 1612\nsun 34 1\n")
    ∷ remarks_of 1 (ascii "weekday 0\nsun 34:0:0 35:0:0\n")
    ∷ remarks_of 2 (ascii "# a comment\n\ntrue_moon 34 1 350:0:0 355:0:0 # two\n")
    ∷ remarks_of 1 (ascii "edition 2\nspan 5 9\n")
    ∷ remarks_of 1 (ascii "karana 7\nsun 34 60\nmoon 9:59:59 10:0:0 20:0:0 30:0:1\n")
    ∷ remarks_of 1 (ascii "sun 34 1\nsun 34 1\n")
    ∷ remarks_of 1 (ascii "sun 20:0 to 30:0 35:0 to 70:0\nmoon mesha 34:0 35:0\n")
    ∷ remarks_of 1 (ascii "SUN 34 to 35\nmoon 0 to 0:0:30 300 TO 360\n")
    ∷ remarks_of 1 (ascii "print names\nspan 5 9\n")
    ∷ []
    ≡ ascii "line 1: days 1607 to 1612, 1524-8-12 to 1524-8-17; years are written 1607-1-1\nline 2: sun from 0:0:34, 0:0:1 wide; degrees are written 34:0:0\n"
    ∷ ascii "line 2: sun from 34:0:0, 35:0:0 wide, up to 69:0:0; the second value is the width\n"
    ∷ ascii "line 4: true_moon from 0:0:34, 0:0:1 wide; degrees are written 34:0:0\nline 4: true_moon from 350:0:0, 355:0:0 wide, up to 345:0:0; the second value is the width\n"
    ∷ ascii "nothing is asked: every day of the span is listed\n"
    ∷ []
    ∷ []
    ∷ ascii "line 2: moon from 34:0:0, 35:0:0 wide, up to 69:0:0; the second value is the width\n"
    ∷ ascii "line 1: SUN from 0:0:34, 0:0:1 wide; degrees are written 34:0:0\n"
    ∷ ascii "nothing is asked: every day of the span is listed\n"
    ∷ []
unfolding leap month_days same_date next date_on date_of_day date_bytes angle_bytes digits_within digits_of is_separator run_length up_to after_first trimmed after_words in_front pieces same_bytes behind_mark small_byte small_from unmarked place_in is_digit all_digits with_digit value_of is_number number_read three_read two_read degrees_read sexagesimal_read number_or angle_read day_read name_read elapsed_in half_read half_named name_value value_read in_set with_weekday has_number with_number in_numbers with_number_read with_value set_read set_of none_read is_edition numbers_in_range weekdays_in_range arc_in_range body_arcs_in_range arcs_in_range true_arcs_in_range elements_in_range conditions_in_range check_of answer_over is_element has_arcs with_condition print_read with_print rank_of ranks_before first_refusal first_value second_value numbers_read arc_read width_to to_arc named_arc arc_in arc_words second_arc_in arcs_read arcs_in most_values element_of values_read refused_as condition_read words_read line_read first_fault with_line with_lines page_answer page_read line_text arc_text seconds_text width_text numbers_text days_text likely_degrees likely_end likely_year plain_remark end_remark arc_remark span_remark first_remark second_remark line_remarks lines_remarks asks some_asks nothing_asked last_remark remarks_of both_read alone_read with_keyword likely_years
worked = refl
