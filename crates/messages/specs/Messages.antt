-- What is said of a page on standard error.
-- Assumes nothing.
use Rattle.std.specs.Prelude.{cond, List, ◌++◌, ℕ, ◌-◌, eqb, leb, ltb}
use Rattle.days.specs.Refusals.{no_such_date, out_of_range, last_before_first, bad_edition}
use Rattle.page.specs.Page.{span_keyword, weekday_keyword, tithi_keyword, nakshatra_keyword, yoga_keyword, arc_keywords, karana_keyword, true_keywords, print_keyword, unknown_word, bad_value, repeated_word, not_ended, other_values}
use Rattle.text.specs.Ascii.{ascii}
use Rattle.text.specs.Decimal.{digits_of}
use Rattle.words.specs.Names.{body_names, true_names}
use Rattle.words.specs.Words.{name_at}

-- what a refusal says; 6 is left
unfoldable pub refusal_text : ℕ → List ℕ
refusal_text refusal =
    cond (eqb refusal no_such_date) (ascii "there is no such date\n")
    (cond (eqb refusal out_of_range) (ascii "a day outside 0 to 401599\n")
    (cond (eqb refusal last_before_first) (ascii "the last day is before the first\n")
    (cond (eqb refusal bad_edition) (ascii "an edition other than 1 and 2\n") (ascii "a value is out of range\n"))))

-- what the first keywords take; the edition's is left
unfoldable pub condition_takes : ℕ → List ℕ
condition_takes k =
    cond (eqb k span_keyword) (ascii "span takes two days, each a date as 1612-5-14 or a number\n")
    (cond (eqb k weekday_keyword) (ascii "weekday takes one to seven of monday to sunday or 0 to 6\n")
    (cond (eqb k tithi_keyword) (ascii "tithi takes one to thirty of shukla-pratipada to amavasya, of shukla or krishna with 1 to 15, or of 0 to 29\n")
    (cond (eqb k nakshatra_keyword) (ascii "nakshatra takes one or more of ashvini to revati or 0 to 26\n")
    (cond (eqb k yoga_keyword) (ascii "yoga takes one or more of vishkambha to vaidhriti or 0 to 26\n") (ascii "edition takes 1 or 2\n")))))

-- what the name of a body or of a true place takes
unfoldable pub arcs_take : List ℕ → List ℕ
arcs_take name = name ++ ascii " takes one or two arcs: a start and a width, a start `to` an end, or a sign of mesha to mina\n"

-- which word it is that has other values, and what it takes
unfoldable pub takes_text : ℕ → List ℕ
takes_text k =
    cond (ltb k arc_keywords) (condition_takes k)
    (cond (ltb k karana_keyword) (arcs_take (name_at body_names (k - arc_keywords)))
    (cond (eqb k karana_keyword) (ascii "karana takes one or more of bava to kimstughna or 1 to 11\n")
    (cond (ltb k print_keyword) (arcs_take (name_at true_names (k - true_keywords))) (ascii "print takes names or csv\n"))))

-- by the keyword that the reason tells, or else what the refusal says
unfoldable pub values_text : ℕ → ℕ → List ℕ
values_text refusal reason = cond (leb (other_values 0) reason) (takes_text (reason - other_values 0)) (refusal_text refusal)

-- why a line is refused
unfoldable pub fault_text : ℕ → ℕ → List ℕ
fault_text refusal reason =
    cond (eqb reason unknown_word) (ascii "no line begins with this word\n")
    (cond (eqb reason bad_value) (ascii "the day is a number, or a date as 1612-5-14\n")
    (cond (eqb reason repeated_word) (ascii "this word stands already\n")
    (cond (eqb reason not_ended) (ascii "the last line has no newline; end it with the Enter key\n") (values_text refusal reason))))

-- the line at fault, by its number, and why
unfoldable pub fault_line : ℕ → ℕ → ℕ → List ℕ
fault_line line refusal reason = ascii "line " ++ (digits_of line ++ (ascii ": " ++ fault_text refusal reason))

unfoldable pub unreadable_page : List ℕ
unreadable_page = ascii "the page is too long or cannot be read\n"
