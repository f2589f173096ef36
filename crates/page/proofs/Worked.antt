-- Worked pages: what their texts mean by the grammar, and what is right: first pages of numbers, then names, arcs by
-- signs and by their ends, a byte order mark, and how the days are printed. Both sides compute, so that `refl` proves
-- them.
-- Assumes nothing.
use mathlib.Core.Path.{◌≡◌, refl}
use mathlib.Core.Bool.{true}
use mathlib.Core.List.{List, [], ◌∷◌, ◌++◌}
use Prim.Native.Nat.{ℕ}
use lib.ListN.{replicate}
use Rattle.names.specs.declared.Print.{Print}
use Rattle.names.specs.declared.Print.TheVariants.{Numbers, Names, Csv}
use Rattle.names.specs.Names.{name_read}
use Rattle.names.specs.Utf8.{utf8}
use Rattle.panchanga.specs.TrueLongitudes.{first_edition, is_edition}
use Rattle.query.specs.declared.Arc.{Arc}
use Rattle.query.specs.declared.Asked.{Asked}
use Rattle.query.specs.declared.BodyArcs.{BodyArcs}
use Rattle.query.specs.declared.Query.{Query}
use Rattle.query.specs.declared.Weekdays.{Weekdays}
use Rattle.query.specs.Conditions.{has_number, with_number, numbers_in_range, weekdays_in_range, arc_in_range, body_arcs_in_range, arcs_in_range, true_arcs_in_range, elements_in_range, conditions_in_range, not_asked, no_weekdays, only_weekday, only_arc, no_arcs}
use Rattle.query.specs.Query.{check_of}
use Rattle.text.specs.Ascii.{ascii}
use Rattle.text.specs.Decimal.{is_digit, all_digits, with_digit, value_of, is_number, number_read}
use Rattle.days.specs.Days.{last_day, answer_over}
use Rattle.days.specs.Weekdays.{in_set}
use Rattle.values.specs.Values.{three_read, two_read, degrees_read, sexagesimal_read, number_or, angle_read, day_read, elapsed_in, half_read, half_named, name_value, value_read, with_weekday, in_numbers, with_number_read, with_value, set_read, set_of, none_read}
use Rattle.words.specs.Words.{is_separator, run_length, up_to, after_first, trimmed, after_words, in_front, pieces, same_bytes, behind_mark, small_byte, small_from, unmarked, place_in}
use Rattle.std.specs.Prelude.{Option, Some, None, Result, Ok, Err}
use Rattle.days.specs.declared.refusal.Refusal.{Refusal}
use Rattle.days.specs.declared.refusal.Refusal.TheVariants.{BadInput, LastBeforeFirst, BadCondition, BadEdition}
use Rattle.page.specs.declared.Fault.{Fault}
use Rattle.page.specs.declared.PageRead.{PageRead}
use Rattle.page.specs.declared.Reason.{Reason}
use Rattle.page.specs.declared.Reason.TheVariants.{UnknownWord, RepeatedWord, NotEnded, OtherValues}
use Rattle.page.specs.Page.{is_element, element_of, has_arcs, every_day, with_condition, rank_of, ranks_before, first_refusal, print_read, with_print, first_value, second_value, numbers_read, arc_read, width_to, to_arc, named_arc, arc_in, arc_words, second_arc_in, arcs_read, arcs_in, most_values, values_read, refused_as, condition_read, words_read, line_read, first_fault, with_line, with_lines, page_answer, page_read, both_read, alone_read, with_keyword}

abbrev accepts : Query → Result PageRead Fault
accepts q = Ok (record { query = q; print = Numbers })

-- refused r for a reason, at a line
abbrev refuses : Refusal → Option Reason → ℕ → Result PageRead Fault
refuses r why n = Err (record { refusal = r; reason = why; line = n })

-- every day, printed so
abbrev prints : Print → Result PageRead Fault
prints form = Ok (record { query = every_day; print = form })

-- a query: its first and last day, edition, weekdays, tithis, nakshatras, yogas and karanas, and the arcs of mean and
-- of true places
abbrev asks : ℕ → ℕ → ℕ → Weekdays → Asked → Asked → Asked → Asked → List BodyArcs → List BodyArcs → Query
asks first last edition weekdays tithi nakshatra yoga karana arcs places =
    record {
      first = first;
      last = last;
      edition = edition;
      weekdays = weekdays;
      tithi = tithi;
      nakshatra = nakshatra;
      yoga = yoga;
      karana = karana;
      arcs = arcs;
      true_arcs = places;
    }

abbrev numbers : ℕ → Asked
numbers set = record { given = true; set = set }

abbrev arc : ℕ → ℕ → Arc
arc start width = record { given = true; start = start; width = width }

-- the first degree or the third
abbrev either_degree : BodyArcs
either_degree = record { first = arc 0 3600; second = arc 7200 3600 }

-- days 5 to 9, Mondays, and the Sun in the first degree, in the second edition
abbrev four_days : Query
four_days =
    asks 5 9 2 (only_weekday 0) not_asked not_asked not_asked not_asked (only_arc (arc 0 3600) ∷ replicate 8 no_arcs) (replicate 7 no_arcs)

-- days 5 to 9, Mondays, Tuesdays and Sundays, and the Sun in the first degree or in the third, in the first edition
abbrev either_arc : Query
either_arc =
    asks 5 9 1 (record { given = true; set = 67 }) not_asked not_asked not_asked not_asked (either_degree ∷ replicate 8 no_arcs) (replicate 7 no_arcs)

-- every day with some of the elements: tithi 14 alone; any tithi; tithi 13 or 14, nakshatra 7 or 26, yoga 4 and karana
-- 1 or 11
abbrev with_elements : Asked → Asked → Asked → Asked → Query
with_elements tithi nakshatra yoga karana =
    asks 0 last_day first_edition no_weekdays tithi nakshatra yoga karana (replicate 9 no_arcs) (replicate 7 no_arcs)

abbrev full_moon : Query
full_moon = with_elements (numbers 16384) not_asked not_asked not_asked

abbrev any_tithi : Query
any_tithi = with_elements (numbers 1073741823) not_asked not_asked not_asked

abbrev element_sets : Query
element_sets = with_elements (numbers 24576) (numbers 67108992) (numbers 16) (numbers 2050)

-- every day with the true Sun in the first degree or in the third, and Saturn's true place anywhere
abbrev true_places : Query
true_places =
    asks 0 last_day first_edition no_weekdays not_asked not_asked not_asked not_asked (replicate 9 no_arcs) (either_degree ∷ replicate 5 no_arcs ++ only_arc (arc 5 1296000) ∷ [])

-- every day with the Sun in one of two arcs
abbrev with_sun : Arc → Arc → Query
with_sun a b =
    asks 0 last_day first_edition no_weekdays not_asked not_asked not_asked not_asked (record { first = a; second = b } ∷ replicate 8 no_arcs) (replicate 7 no_arcs)

pub worked :
    page_read (ascii "")
    ∷ page_read (ascii "span 5 9\nweekday monday # ?\n\nsun 0:0:0 3600\nedition 2\n")
    ∷ page_read (ascii "yoga 27\n")
    ∷ page_read (ascii "span 9 5\nYogas 1\n")
    ∷ page_read (ascii "yoga 27\nspan 9 5\n")
    ∷ page_read (ascii "yoga 1\nYOGA 1\n")
    ∷ page_read (ascii "yoga 1")
    ∷ page_read (ascii "edition 1\n")
    ∷ page_read (ascii "nothing\nedition 3\nspan 9 5\n")
    ∷ page_read (ascii "edition 2\nedition 3\n")
    ∷ page_read (ascii "Weekday 6 TUESDAY Monday\nspan 5 9\nSun 0 3600 2:0:0 3600\n")
    ∷ page_read (ascii "weekday 1 tuesday\n")
    ∷ page_read (ascii "weekday 7 1\n")
    ∷ page_read (ascii "weekday\n")
    ∷ page_read (ascii "weekday 0 1 2 3 4 5 6 7\n")
    ∷ page_read (ascii "sun 0 1 2\n")
    ∷ page_read (ascii "sun 0 1 2 3 4\n")
    ∷ page_read (ascii "sun 0 1 2 0\n")
    ∷ page_read (ascii "tithi 14\n")
    ∷ page_read (ascii "tithi 29 0 1 2 3 4 5 6 7 8 9 10 11 12 13 14 15 16 17 18 19 20 21 22 23 24 25 26 27 28\n")
    ∷ page_read (ascii "karana 11 1\ntithi 13 14 # torn\nnakshatra 26 7\nyoga 4\n")
    ∷ page_read (ascii "true_saturn 5 360:0:0\ntrue_sun 0 3600 2:0:0 3600\n")
    ∷ page_read (ascii "tithi 1 2 1\n")
    ∷ page_read (ascii "tithi 30 30\n")
    ∷ page_read (ascii "tithi 31 40\n")
    ∷ page_read (ascii "tithi 0 30\n")
    ∷ page_read (ascii "tithi\n")
    ∷ page_read (ascii "tithi 1 x\n")
    ∷ page_read (ascii "karana 1 0\n")
    ∷ page_read (ascii "karana 12\n")
    ∷ page_read (ascii "true_node 0 1\n")
    ∷ page_read (ascii "true_moon 0 0\n")
    ∷ page_read (ascii "yoga 0 1 2 3 4 5 6 7 8 9 10 11 12 13 14 15 16 17 18 19 20 21 22 23 24 25 26 27 28 29 30\n")
    ∷ page_read (239 ∷ 187 ∷ 191 ∷ ascii "TITHI Purnima\n")
    ∷ page_read (utf8 "tithi Śukla 15\n")
    ∷ page_read (ascii "karana kimstughna, bava\ntithi shukla 14, purnima\nnakshatra REVATI Pushya\nyoga shobhana\n")
    ∷ page_read (ascii "weekday Sun,tue,mon\nspan 5 9\nsun 0 to 1:0 2:0 1:0\n")
    ∷ page_read (ascii "sun mesha mina\n")
    ∷ page_read (ascii "sun 350:0 to 10:0 simha\n")
    ∷ page_read (ascii "sun 0 to 360:0 mesha\n")
    ∷ page_read (ascii "sun mesha MESHA\n")
    ∷ page_read (ascii "tithi shukla 5 KRISHNA 8, 29\n")
    ∷ page_read (ascii "tithi krishna 16\n")
    ∷ page_read (ascii "tithi shukla 0\n")
    ∷ page_read (ascii "tithi shukla\n")
    ∷ page_read (ascii "tithi purnima 14\n")
    ∷ page_read (ascii "nakshatra purnima\n")
    ∷ page_read (ascii "sun 34:0 to 34:0\n")
    ∷ page_read (ascii "sun 0 to 361:0\n")
    ∷ page_read (ascii "sun mesha mina kanya\n")
    ∷ page_read (ascii "sun 0 1 to 2\n")
    ∷ page_read (ascii "sun 0 1:60\n")
    ∷ page_read (ascii "print names\n")
    ∷ page_read (ascii "# ?\nPrint, CSV # all\n")
    ∷ page_read (ascii "print\n")
    ∷ page_read (ascii "print numbers\n")
    ∷ page_read (ascii "print names csv\n")
    ∷ page_read (ascii "print names\nprint csv\n")
    ∷ page_read (ascii "print csv\nyoga 27\n")
    ∷ []
    ≡ accepts every_day
    ∷ accepts four_days
    ∷ refuses BadCondition (Some (OtherValues 4)) 1
    ∷ refuses BadInput (Some UnknownWord) 2
    ∷ refuses LastBeforeFirst None 2
    ∷ refuses BadInput (Some RepeatedWord) 2
    ∷ refuses BadInput (Some NotEnded) 1
    ∷ accepts every_day
    ∷ refuses BadEdition None 2
    ∷ refuses BadEdition None 2
    ∷ accepts either_arc
    ∷ refuses BadInput (Some (OtherValues 1)) 1
    ∷ refuses BadCondition (Some (OtherValues 1)) 1
    ∷ refuses BadInput (Some (OtherValues 1)) 1
    ∷ refuses BadInput (Some (OtherValues 1)) 1
    ∷ refuses BadInput (Some (OtherValues 6)) 1
    ∷ refuses BadInput (Some (OtherValues 6)) 1
    ∷ refuses BadCondition (Some (OtherValues 6)) 1
    ∷ accepts full_moon
    ∷ accepts any_tithi
    ∷ accepts element_sets
    ∷ accepts true_places
    ∷ refuses BadInput (Some (OtherValues 2)) 1
    ∷ refuses BadInput (Some (OtherValues 2)) 1
    ∷ refuses BadCondition (Some (OtherValues 2)) 1
    ∷ refuses BadCondition (Some (OtherValues 2)) 1
    ∷ refuses BadInput (Some (OtherValues 2)) 1
    ∷ refuses BadInput (Some (OtherValues 2)) 1
    ∷ refuses BadCondition (Some (OtherValues 15)) 1
    ∷ refuses BadCondition (Some (OtherValues 15)) 1
    ∷ refuses BadInput (Some UnknownWord) 1
    ∷ refuses BadCondition (Some (OtherValues 17)) 1
    ∷ refuses BadInput (Some (OtherValues 4)) 1
    ∷ accepts full_moon
    ∷ accepts full_moon
    ∷ accepts element_sets
    ∷ accepts either_arc
    ∷ accepts (with_sun (arc 0 108000) (arc 1188000 108000))
    ∷ accepts (with_sun (arc 1260000 72000) (arc 432000 108000))
    ∷ accepts (with_sun (arc 0 1296000) (arc 0 108000))
    ∷ accepts (with_sun (arc 0 108000) (arc 0 108000))
    ∷ accepts (with_elements (numbers 541065232) not_asked not_asked not_asked)
    ∷ refuses BadCondition (Some (OtherValues 2)) 1
    ∷ refuses BadCondition (Some (OtherValues 2)) 1
    ∷ refuses BadInput (Some (OtherValues 2)) 1
    ∷ refuses BadInput (Some (OtherValues 2)) 1
    ∷ refuses BadInput (Some (OtherValues 3)) 1
    ∷ refuses BadCondition (Some (OtherValues 6)) 1
    ∷ refuses BadCondition (Some (OtherValues 6)) 1
    ∷ refuses BadInput (Some (OtherValues 6)) 1
    ∷ refuses BadInput (Some (OtherValues 6)) 1
    ∷ refuses BadInput (Some (OtherValues 6)) 1
    ∷ prints Names
    ∷ prints Csv
    ∷ refuses BadInput (Some (OtherValues 23)) 1
    ∷ refuses BadInput (Some (OtherValues 23)) 1
    ∷ refuses BadInput (Some (OtherValues 23)) 1
    ∷ refuses BadInput (Some RepeatedWord) 2
    ∷ refuses BadCondition (Some (OtherValues 4)) 2
    ∷ []
unfolding is_separator run_length up_to after_first trimmed after_words in_front pieces same_bytes behind_mark small_byte small_from unmarked place_in is_digit all_digits with_digit value_of is_number number_read three_read two_read degrees_read sexagesimal_read number_or angle_read day_read name_read elapsed_in half_read half_named name_value value_read in_set with_weekday has_number with_number in_numbers with_number_read with_value set_read set_of none_read is_edition numbers_in_range weekdays_in_range arc_in_range body_arcs_in_range arcs_in_range true_arcs_in_range elements_in_range conditions_in_range check_of answer_over is_element has_arcs with_condition rank_of ranks_before first_refusal print_read with_print first_value second_value numbers_read arc_read width_to to_arc named_arc arc_in arc_words second_arc_in arcs_read arcs_in most_values element_of values_read refused_as condition_read words_read line_read first_fault with_line with_lines page_answer page_read both_read alone_read with_keyword
worked = refl
