-- The line that says why a day is not in a query's list, or that it fits. What stands behind `asked` is written as in a
-- page: an element by its numbers, or, where the page says so, by its names.
-- Assumes nothing.
use Rattle.std.specs.Prelude.{cond, List, [], ◌∷◌, ◌++◌, ℕ, zero, suc, ◌+◌, ◌-◌, eqb}
use Rattle.catalogue.specs.Catalogue.{edition_text}
use Rattle.dated.specs.Dated.{day_bytes, angle_bytes}
use Rattle.days.specs.Refusals.{accepted}
use Rattle.days.specs.Weekdays.{in_set}
use Rattle.names.specs.declared.Kind.{Kind}
use Rattle.names.specs.declared.Kind.TheVariants.{Tithi, Nakshatra, Yoga, Karana, Sign, Month, Fortnight, Weekday}
use Rattle.names.specs.declared.Print.{Print}
use Rattle.names.specs.declared.Print.TheVariants.{Numbers as ByNumbers, Names as ByNames, Csv}
use Rattle.names.specs.Names.{name_of}
use Rattle.query.specs.declared.Arc.{Arc}
use Rattle.query.specs.declared.BodyArcs.{BodyArcs}
use Rattle.query.specs.declared.Query.{Query}
use Rattle.query.specs.Conditions.{has_number}
use Rattle.reasons.specs.Conditions.{Wanted, nothing, bound, any_of, mean_arcs, true_arcs, Cause}
use Rattle.reasons.specs.Reasons.{Numbers, why_of}
use Rattle.text.specs.Ascii.{ascii}
use Rattle.text.specs.Decimal.{digits_of}
use Rattle.text.specs.Lines.{refusal_line}
use Rattle.words.specs.Names.{weekday_names, body_names, true_names}
use Rattle.words.specs.Words.{name_at}

-- a weekday's name behind a space, where a set has it
unfoldable pub name_in : ℕ → ℕ → List ℕ
name_in set weekday = cond (in_set set weekday) (ascii " " ++ name_at weekday_names weekday) []

-- the names of those of some weekdays that a set has
unfoldable pub names_in : ℕ → List ℕ → List ℕ
names_in set [] = []
names_in set (w ∷ ws) = name_in set w ++ names_in set ws

-- Monday to Sunday
abbrev pub seven_days : List ℕ
seven_days = 0 ∷ 1 ∷ 2 ∷ 3 ∷ 4 ∷ 5 ∷ 6 ∷ []

-- a number behind a space, where a set has it
unfoldable pub number_in : ℕ → ℕ → List ℕ
number_in set n = cond (has_number set n) (ascii " " ++ digits_of n) []

-- those of so many numbers from k on that a set has
unfoldable pub numbers_in : ℕ → ℕ → ℕ → List ℕ
numbers_in set k zero = []
numbers_in set k (suc n) = number_in set k ++ numbers_in set (k + 1) n

-- of 0 to 29, which have every element's numbers
abbrev pub set_bytes : ℕ → List ℕ
set_bytes set = numbers_in set 0 30

-- and so by name
unfoldable pub element_in : Kind → ℕ → ℕ → List ℕ
element_in kind set n = cond (has_number set n) (ascii " " ++ name_of kind n) []

unfoldable pub elements_in : Kind → ℕ → ℕ → ℕ → List ℕ
elements_in kind set k zero = []
elements_in kind set k (suc n) = element_in kind set k ++ elements_in kind set (k + 1) n

abbrev pub set_names : Kind → ℕ → List ℕ
set_names kind set = elements_in kind set 0 30

-- an arc that is given: its start and its width, each behind a space
unfoldable pub arc_bytes : Arc → List ℕ
arc_bytes a = cond a.given (ascii " " ++ (angle_bytes a.start ++ (ascii " " ++ angle_bytes a.width))) []

-- what was asked and what was found, behind the word of the condition
unfoldable pub weekdays_text : ℕ → ℕ → List ℕ
weekdays_text asked found = ascii "weekday asked" ++ (names_in asked seven_days ++ (ascii " found " ++ name_at weekday_names found))

unfoldable pub numbers_text : List ℕ → ℕ → ℕ → List ℕ
numbers_text name asked found = name ++ (ascii " asked" ++ (set_bytes asked ++ (ascii " found " ++ digits_of found)))

unfoldable pub arcs_text : List ℕ → BodyArcs → ℕ → List ℕ
arcs_text name asked found =
    name ++ (ascii " asked" ++ (arc_bytes asked.first ++ (arc_bytes asked.second ++ (ascii " found " ++ angle_bytes found))))

-- the element of a condition, by its number, and its word
abbrev pub element_kind : ℕ → Kind
element_kind k = cond (eqb k 4) Tithi (cond (eqb k 5) Nakshatra (cond (eqb k 6) Yoga Karana))

abbrev pub kind_word : Kind → List ℕ
kind_word Tithi = ascii "tithi"
kind_word Nakshatra = ascii "nakshatra"
kind_word Yoga = ascii "yoga"
kind_word Karana = ascii "karana"
kind_word Sign = ascii "sign"
kind_word Month = ascii "month"
kind_word Fortnight = ascii "fortnight"
kind_word Weekday = ascii "weekday"

abbrev pub element_name : ℕ → List ℕ
element_name k = kind_word (element_kind k)

unfoldable pub names_text : Kind → ℕ → ℕ → List ℕ
names_text kind asked found = kind_word kind ++ (ascii " asked" ++ (set_names kind asked ++ (ascii " found " ++ name_of kind found)))

-- an element in a form; a comma-separated table says nothing of how a line is written
unfoldable pub element_text : Print → ℕ → ℕ → ℕ → List ℕ
element_text ByNumbers k asked found = numbers_text (element_name k) asked found
element_text ByNames k asked found = names_text (element_kind k) asked found
element_text Csv k asked found = numbers_text (element_name k) asked found

abbrev pub unfit : List ℕ → List ℕ
unfit why = ascii " does not fit: " ++ why

-- by what was asked: that the day fits, or what shuts it out, by the number of the condition
unfoldable pub verdict_of : Print → Wanted → ℕ → ℕ → List ℕ
verdict_of form nothing k found = ascii " fits"
verdict_of form (bound day) k found =
    unfit (cond (eqb k 1) (ascii "before the span asked from " ++ day_bytes day) (ascii "after the span asked to " ++ day_bytes day))
verdict_of form (any_of set) k found = unfit (cond (eqb k 3) (weekdays_text set found) (element_text form k set found))
verdict_of form (mean_arcs arcs) k found = unfit (arcs_text (name_at body_names (k - 7)) arcs found)
verdict_of form (true_arcs arcs) k found = unfit (arcs_text (name_at true_names (k - 17)) arcs found)

abbrev pub verdict_text : Print → Cause → List ℕ
verdict_text form c = verdict_of form c.asked c.condition c.found

-- the line for an answer of day n; the edition is named as in a catalogue
unfoldable pub answer_line : Print → ℕ → Numbers → List ℕ
answer_line form n w =
    cond (eqb w.refusal accepted) (day_bytes n ++ (verdict_text form w.cause ++ (edition_text w.edition ++ ascii "\n"))) (refusal_line w.refusal)

-- WHAT IS PRINTED for a query and a day, in a form
abbrev pub explanation_of : Print → Query → ℕ → List ℕ
explanation_of form q n = answer_line form n (why_of q n)

-- it has at most so many bytes
abbrev pub explanation_room : ℕ
explanation_room = 1024
