-- Worked lines: what their texts mean, and what is right. Both sides compute, so that `refl` proves them.
-- Assumes nothing.
use mathlib.Core.Path.{◌≡◌, refl}
use mathlib.Core.List.{[], ◌∷◌}
use Rattle.std.specs.Prelude.{Ok, Err}
use Rattle.days.specs.Days.{answer_over}
use Rattle.days.specs.declared.refusal.Refusal.TheVariants.{BadInput, OutOfRange, LastBeforeFirst}
use Rattle.panchanga.specs.TrueLongitudes.{is_edition}
use Rattle.query.specs.Conditions.{numbers_in_range, weekdays_in_range, arc_in_range, body_arcs_in_range, arcs_in_range, true_arcs_in_range, elements_in_range, conditions_in_range}
use Rattle.query.specs.Query.{check_of}
use Rattle.text.specs.Ascii.{ascii}
use Rattle.text.specs.Decimal.{is_digit, all_digits, with_digit, value_of, is_number, number_read}
use Rattle.values.specs.Values.{three_read, number_or, date_read, day_read}
use Rattle.words.specs.Words.{is_separator, run_length, up_to, after_first, trimmed, after_words, same_bytes, behind_mark, small_byte, small_from, place_in}
use Rattle.page.specs.Page.{is_element, has_arcs, with_condition, rank_of, ranks_before, first_refusal, first_value, second_value, both_read, numbers_read, most_values, values_read, alone_read, condition_read, words_read, line_read}
use Rattle.span_line.specs.SpanLine.{the_span, span_line, is_one_line, span_read}

pub worked :
    span_read (ascii "5 9\n")
    ∷ span_read (ascii "  0\t401599 # all days\r\n")
    ∷ span_read (ascii "7, 7,\n")
    ∷ span_read (ascii "5 9")
    ∷ span_read (ascii "5 9\n\n")
    ∷ span_read (ascii "5\n")
    ∷ span_read (ascii "5 9 9\n")
    ∷ span_read (ascii "5 # 9\n")
    ∷ span_read (ascii "\n")
    ∷ span_read (ascii "9 401600\n")
    ∷ span_read (ascii "401600 9\n")
    ∷ span_read (ascii "9 5\n")
    ∷ span_read (ascii "401600 1520-3\n")
    ∷ []
    ≡ Ok (the_span 5 9) ∷ Ok (the_span 0 401599) ∷ Ok (the_span 7 7) ∷ Err BadInput ∷ Err BadInput ∷ Err BadInput ∷ Err BadInput ∷ Err BadInput ∷ Err BadInput ∷ Err OutOfRange ∷ Err OutOfRange ∷ Err LastBeforeFirst ∷ Err BadInput ∷ []
unfolding is_separator run_length up_to after_first trimmed after_words same_bytes behind_mark small_byte small_from place_in is_digit all_digits with_digit value_of is_number number_read three_read number_or date_read day_read is_edition numbers_in_range weekdays_in_range arc_in_range body_arcs_in_range arcs_in_range true_arcs_in_range elements_in_range conditions_in_range check_of answer_over is_element has_arcs with_condition rank_of ranks_before first_refusal first_value second_value both_read numbers_read most_values values_read alone_read condition_read words_read line_read span_line is_one_line span_read
worked = refl
