-- The grammar of a page: what a line means, and what the lines mean together.
-- Assumes nothing.
use Rattle.std.specs.Prelude.{Bool, true, false, cond, not, ◌&&◌, ◌||◌, List, [], ◌∷◌, ℕ, suc, ◌+◌, ◌-◌, ◌*◌, eqb, leb, ltb, length, get_or, set, replicate, Option, Some, None, is_some, Result, Ok, Err, ⊤, ◌<◌}
use Rattle.days.specs.declared.refusal.Refusal.{Refusal}
use Rattle.days.specs.declared.refusal.Refusal.TheVariants.{BadInput}
use Rattle.days.specs.Days.{last_day}
use Rattle.days.specs.Refusals.{no_such_date, out_of_range, bad_input, last_before_first, bad_condition, bad_edition, refusal_number, and_then}
use Rattle.longitudes.specs.Longitudes.{circle}
use Rattle.names.specs.declared.Kind.{Kind}
use Rattle.names.specs.declared.Kind.TheVariants.{Tithi, Nakshatra, Yoga, Karana, Sign, Weekday}
use Rattle.names.specs.declared.Print.{Print}
use Rattle.names.specs.declared.Print.TheVariants.{Numbers, Names, Csv}
use Rattle.names.specs.Names.{name_read}
use Rattle.panchanga.specs.TrueLongitudes.{first_edition}
use Rattle.query.specs.declared.Arc.{Arc}
use Rattle.query.specs.declared.Asked.{Asked}
use Rattle.query.specs.declared.Query.{Query}
use Rattle.query.specs.Conditions.{not_asked, no_weekdays, no_arc, no_arcs}
use Rattle.query.specs.Query.{check_of}
use Rattle.text.specs.Ascii.{ascii}
use Rattle.text.specs.Decimal.{number_read}
use Rattle.text.specs.Lines.{newline}
use Rattle.page.specs.declared.Values.{Values}
use Rattle.page.specs.declared.LineRead.{LineRead}
use Rattle.page.specs.declared.LineRead.TheVariants.{Blank, Malformed, Condition}
use Rattle.page.specs.declared.Reason.{Reason}
use Rattle.page.specs.declared.Reason.TheVariants.{UnknownWord, BadValue, RepeatedWord, NotEnded, OtherValues}
use Rattle.page.specs.declared.Fault.{Fault}
use Rattle.page.specs.declared.Page.{Page}
use Rattle.page.specs.declared.PageRead.{PageRead}
use Rattle.words.specs.Words.{hash, up_to, first_word, after_word, after_words, pieces, unmarked, place_in}
use Rattle.page.specs.Names.{keywords, print_names}
use Rattle.values.specs.Values.{angle_read, day_read, most_weekdays, most_numbers, named_set_read, none_read}
use Rattle.zodiac.specs.Zodiac.{sign_seconds}

-- the keywords, by their places among `keywords`; from `arc_keywords` on those of the nine bodies' arcs, and from
-- `true_keywords` on those of the seven true places'
abbrev pub span_keyword : ℕ
span_keyword = 0

abbrev pub weekday_keyword : ℕ
weekday_keyword = 1

abbrev pub tithi_keyword : ℕ
tithi_keyword = 2

abbrev pub nakshatra_keyword : ℕ
nakshatra_keyword = 3

abbrev pub yoga_keyword : ℕ
yoga_keyword = 4

abbrev pub edition_keyword : ℕ
edition_keyword = 5

abbrev pub arc_keywords : ℕ
arc_keywords = 6

abbrev pub karana_keyword : ℕ
karana_keyword = 15

abbrev pub true_keywords : ℕ
true_keywords = 16

-- how the days are printed, which is no condition
abbrev pub print_keyword : ℕ
print_keyword = 23

-- how many keywords there are: the place of any other word
abbrev pub keyword_count : ℕ
keyword_count = 24

-- the keywords of the four elements, whose values are a set of numbers, and what they are names of
unfoldable pub is_element : ℕ → Bool
is_element k = eqb k karana_keyword || (leb tithi_keyword k && leb k yoga_keyword)

unfoldable pub element_of : ℕ → Kind
element_of k = cond (eqb k tithi_keyword) Tithi (cond (eqb k nakshatra_keyword) Nakshatra (cond (eqb k yoga_keyword) Yoga Karana))

-- the keywords of arcs: the bodies', and behind the karana's those of the true places
unfoldable pub has_arcs : ℕ → Bool
has_arcs k = leb arc_keywords k && (ltb k print_keyword && not (eqb k karana_keyword))

-- an edition and a span, without conditions
abbrev pub only_span : ℕ → ℕ → ℕ → Query
only_span edition first last =
    record {
      first = first;
      last = last;
      edition = edition;
      weekdays = no_weekdays;
      tithi = not_asked;
      nakshatra = not_asked;
      yoga = not_asked;
      karana = not_asked;
      arcs = replicate 9 no_arcs;
      true_arcs = replicate 7 no_arcs;
    }

-- every day there is, in the first edition
abbrev pub every_day : Query
every_day = only_span first_edition 0 last_day

-- the condition of a field, where k is the field's own keyword
abbrev pub own_asked : ℕ → ℕ → ℕ → Asked → Asked
own_asked own k a old = cond (eqb k own) (record { given = true; set = a }) old

-- the query with the condition of keyword k and its values
unfoldable pub with_condition : Query → ℕ → Values → Query
with_condition q k v =
    record {
      first = cond (eqb k span_keyword) v.first q.first;
      last = cond (eqb k span_keyword) v.second q.last;
      edition = cond (eqb k edition_keyword) v.first q.edition;
      weekdays = cond (eqb k weekday_keyword) (record { given = true; set = v.first }) q.weekdays;
      tithi = own_asked tithi_keyword k v.first q.tithi;
      nakshatra = own_asked nakshatra_keyword k v.first q.nakshatra;
      yoga = own_asked yoga_keyword k v.first q.yoga;
      karana = own_asked karana_keyword k v.first q.karana;
      arcs = cond (leb arc_keywords k && ltb k karana_keyword) (set q.arcs (k - arc_keywords) v.arcs) q.arcs;
      true_arcs = cond (leb true_keywords k && ltb k print_keyword) (set q.true_arcs (k - true_keywords) v.arcs) q.true_arcs;
    }

-- the order of refusals: the edition's, a malformed line, a date that does not exist, then as in the search; accepted
-- is last
unfoldable pub rank_of : ℕ → ℕ
rank_of r =
    cond (eqb r bad_edition) 0
    (cond (eqb r bad_input) 1
    (cond (eqb r no_such_date) 2
    (cond (eqb r out_of_range) 3 (cond (eqb r last_before_first) 4 (cond (eqb r bad_condition) 5 6)))))

unfoldable pub ranks_before : ℕ → ℕ → Bool
ranks_before r t = ltb (rank_of r) (rank_of t)

-- of two refusals the first in that order
unfoldable pub first_refusal : ℕ → ℕ → ℕ
first_refusal r t = cond (ranks_before t r) t r

-- how the days are printed: by names, or as a comma-separated table; and the place of the word that says so
abbrev pub print_of : ℕ → Print
print_of n = cond (eqb n 0) Names Csv

unfoldable pub print_read : List ℕ → Result ℕ Refusal
print_read w = cond (ltb (place_in print_names w) 2) (Ok (place_in print_names w)) (Err BadInput)

-- how a page's days are printed, with the values of keyword k
unfoldable pub with_print : Print → ℕ → Values → Print
with_print p k v = cond (eqb k print_keyword) (print_of v.first) p

-- a span has two days, `print` one word, and an edition one number
unfoldable pub first_value : ℕ → List ℕ → Result ℕ Refusal
first_value k w = cond (eqb k span_keyword) (day_read w) (cond (eqb k print_keyword) (print_read w) (number_read w))

unfoldable pub second_value : ℕ → List ℕ → Result ℕ Refusal
second_value k w = cond (eqb k span_keyword) (day_read w) (none_read w)

-- both values, or of their refusals the first in that order
unfoldable pub both_read : Result ℕ Refusal → Result ℕ Refusal → Result (ℕ × ℕ) Refusal
both_read (Ok a) (Ok b) = Ok (a, b)
both_read (Ok a) (Err t) = Err t
both_read (Err r) (Ok b) = Err r
both_read (Err r) (Err t) = Err (cond (eqb (first_refusal (refusal_number r) (refusal_number t)) (refusal_number t)) t r)

-- the values that are two numbers
abbrev pub number_values : ℕ × ℕ → Values
number_values n = record { first = n.0; second = n.1; arcs = no_arcs }

unfoldable pub numbers_read : Result ℕ Refusal → Result ℕ Refusal → Result Values Refusal
numbers_read a b = and_then (both_read a b) (λ n. Ok (number_values n))

-- an arc of two angles that are read, its start and what its width is by both
abbrev pub arc_of : (ℕ → ℕ → ℕ) → Result ℕ Refusal → Result ℕ Refusal → Option Arc
arc_of width (Ok a) (Ok b) = Some (record { given = true; start = a; width = width a b })
arc_of width (Ok a) (Err _) = None
arc_of width (Err _) b = None

unfoldable pub arc_read : List ℕ → List ℕ → Option Arc
arc_read start width = arc_of (λ a b. b) (angle_read start) (angle_read width)

-- the arc of a sign
abbrev pub sign_arc : ℕ → Arc
sign_arc n = record { given = true; start = sign_seconds * n; width = sign_seconds }

-- the width of an arc by its end, which is not in it; where the end is not above the start, it lies past 0. A start
-- from a circle on, or an end past it, has no such width, nor has an end at the start
unfoldable pub width_to : ℕ → ℕ → ℕ
width_to start end =
    cond (leb start end) (cond (leb end circle) (end - start) 0) (cond (ltb start circle) (end + circle - start) 0)

unfoldable pub to_arc : Result ℕ Refusal → Result ℕ Refusal → Option Arc
to_arc start end = arc_of width_to start end

abbrev pub is_to : List ℕ → Bool
is_to w = eqb (place_in (ascii "to" ∷ []) w) 0

-- an arc in other words at the front of a text: a sign, or a start, `to` and an end
unfoldable pub named_arc : List ℕ → Option Arc
named_arc t =
    elim (name_read Sign (first_word t)) [
      | Ok n ↦ Some (sign_arc n)
      | Err _ ↦ cond (is_to (first_word (after_word t))) (to_arc (angle_read (first_word t)) (angle_read (first_word (after_words 2 t)))) None
    ]

-- the former, or else the latter
abbrev pub or_else : Option Arc → Option Arc → Option Arc
or_else (Some a) b = Some a
or_else None b = b

-- the arc at the front of a text, and how many words it is
unfoldable pub arc_in : List ℕ → Option Arc
arc_in t = or_else (arc_read (first_word t) (first_word (after_word t))) (named_arc t)

unfoldable pub arc_words : List ℕ → ℕ
arc_words t =
    cond (is_some (arc_read (first_word t) (first_word (after_word t)))) 2
    (elim (name_read Sign (first_word t)) [ Ok _ ↦ 1 | Err _ ↦ 3 ])

-- a second arc may be missing
unfoldable pub second_arc_in : List ℕ → Option Arc
second_arc_in t = cond (eqb (length (first_word t)) 0) (Some no_arc) (arc_in t)

-- both arcs, behind which no word may follow
unfoldable pub arcs_read : Option Arc → Option Arc → List ℕ → Result Values Refusal
arcs_read (Some a) (Some b) left =
    cond (eqb (length left) 0) (Ok (record { first = 0; second = 0; arcs = record { first = a; second = b } })) (Err BadInput)
arcs_read (Some _) None left = Err BadInput
arcs_read None b left = Err BadInput

unfoldable pub arcs_in : List ℕ → Result Values Refusal
arcs_in t =
    let more : List ℕ = after_words (arc_words t) t in
    arcs_read (arc_in t) (second_arc_in more) (first_word (after_words (arc_words more) more))

-- the most words that a line may have behind its first: those of a set, whose tithis may be two words each, two arcs of
-- three, or two
unfoldable pub most_values : ℕ → ℕ
most_values k =
    cond (eqb k weekday_keyword) most_weekdays (cond (is_element k) (2 * most_numbers) (cond (has_arcs k) 6 2))

-- the values of keyword k in the text behind it: a set, arcs, or two numbers
unfoldable pub values_read : ℕ → List ℕ → Result Values Refusal
values_read k t =
    cond (eqb k weekday_keyword) (numbers_read (named_set_read Weekday t) (Ok 0))
    (cond (is_element k) (numbers_read (named_set_read (element_of k) t) (Ok 0))
    (cond (has_arcs k) (arcs_in t) (numbers_read (first_value k (first_word t)) (second_value k (first_word (after_word t))))))

-- why a line is refused, beside the refusal's number: no such keyword; a line that is to be a day, and is none; a
-- keyword of an earlier line; no newline at the end; values other than those that keyword k takes
abbrev pub unknown_word : ℕ
unknown_word = 1

abbrev pub bad_value : ℕ
bad_value = 3

abbrev pub repeated_word : ℕ
repeated_word = 4

abbrev pub not_ended : ℕ
not_ended = 5

abbrev pub other_values : ℕ → ℕ
other_values k = 6 + k

abbrev pub reason_number : Reason → ℕ
reason_number UnknownWord = unknown_word
reason_number BadValue = bad_value
reason_number RepeatedWord = repeated_word
reason_number NotEnded = not_ended
reason_number (OtherValues k) = other_values k

abbrev pub reason_or_zero : Option Reason → ℕ
reason_or_zero (Some why) = reason_number why
reason_or_zero None = 0

-- of a fault: the number of its reason, or 0
abbrev pub fault_reason : Fault → ℕ
fault_reason f = reason_or_zero f.reason

abbrev pub malformed_line : Reason → LineRead
malformed_line why = Malformed why

-- a line without a word
abbrev pub blank_line : LineRead
blank_line = Blank

-- the fault of the nth line, whose condition of keyword k is refused, with a reason where its values are out of range
unfoldable pub refused_as : ℕ → Refusal → ℕ → Fault
refused_as k r n =
    record { refusal = r; reason = cond (eqb (refusal_number r) bad_condition) (Some (OtherValues k)) None; line = n }

-- values, refused as the query with their condition alone
unfoldable pub alone_read : ℕ → Values → Result Values Refusal
alone_read k v = and_then (check_of (with_condition every_day k v)) (λ _. Ok v)

-- the condition of keyword k with its values: refused as its dates are, or as the query with this condition alone
unfoldable pub condition_read : ℕ → Result Values Refusal → LineRead
condition_read k (Ok v) = Condition k (alone_read k v)
condition_read k (Err r) = cond (eqb (refusal_number r) bad_input) (malformed_line (OtherValues k)) (Condition k (Err r))

-- a line's first word and the text behind it
unfoldable pub words_read : List ℕ → List ℕ → LineRead
words_read name behind =
    cond (eqb (length name) 0) blank_line
    (let k = place_in keywords name in
    cond (leb keyword_count k) (malformed_line UnknownWord)
    (cond (eqb (length (first_word (after_words (most_values k) behind))) 0) (condition_read k (values_read k behind)) (malformed_line (OtherValues k))))

-- WHAT A LINE MEANS; a `#` starts a comment
unfoldable pub line_read : List ℕ → LineRead
line_read l = words_read (first_word (up_to hash l)) (after_word (up_to hash l))

-- the two numbers of a line, which a line without a word has none of
abbrev pub line_numbers : LineRead → Result (ℕ × ℕ) Refusal
line_numbers Blank = Ok (0, 0)
line_numbers (Malformed _) = Err BadInput
line_numbers (Condition _ v) = and_then v (λ (w : Values). Ok (w.first, w.second))

-- of two faults the one whose refusal is first; of two with one refusal the former
unfoldable pub first_fault : Fault → Fault → Fault
first_fault f g = cond (ranks_before (refusal_number g.refusal) (refusal_number f.refusal)) g f

-- of a fault that there may be and one that there is
abbrev pub fault_with : Option Fault → Fault → Fault
fault_with (Some f) g = first_fault f g
fault_with None g = g

abbrev pub with_fault : Page → Fault → Page
with_fault p f = record { fault = Some (fault_with p.fault f); present = p.present; query = p.query; print = p.print }

-- the fault of a malformed nth line
abbrev pub malformed_at : Reason → ℕ → Fault
malformed_at why n = record { refusal = BadInput; reason = Some why; line = n }

-- the page with keyword k in its nth line, which had none before; and with a keyword that it had, which makes a line
-- malformed unless it has a refusal that comes first
abbrev pub with_new : Page → ℕ → ℕ → Result Values Refusal → Page
with_new p n k (Ok v) =
    record {
      fault = p.fault;
      present = set p.present k true;
      query = with_condition p.query k v;
      print = with_print p.print k v;
    }
with_new p n k (Err r) =
    with_fault (record { fault = p.fault; present = set p.present k true; query = p.query; print = p.print }) (refused_as k r n)

abbrev pub repeated_fault : ℕ → ℕ → Result Values Refusal → Fault
repeated_fault n k (Ok v) = malformed_at RepeatedWord n
repeated_fault n k (Err r) = first_fault (malformed_at RepeatedWord n) (refused_as k r n)

-- each keyword once
unfoldable pub with_keyword : Page → ℕ → ℕ → Result Values Refusal → Page
with_keyword p n k v =
    cond (get_or p.present k false) (with_fault p (repeated_fault n k v)) (with_new p n k v)

-- a line's keyword, if it has one, is among the keywords
abbrev pub HasKeyword : LineRead → Type 0
HasKeyword Blank = ⊤
HasKeyword (Malformed _) = ⊤
HasKeyword (Condition k _) = k < keyword_count

-- the page with one more line, the nth
unfoldable pub with_line : Page → ℕ → LineRead → Page
with_line p n Blank = p
with_line p n (Malformed why) = with_fault p (malformed_at why n)
with_line p n (Condition k v) = with_keyword p n k v

-- the page with the lines from the nth on; nothing may follow the last newline
unfoldable pub with_lines : Page → ℕ → List (List ℕ) → Page
with_lines p n [] = p
with_lines p n (l ∷ []) =
    cond (eqb (length l) 0) p (with_fault p (malformed_at NotEnded n))
with_lines p n (l ∷ m ∷ ms) = with_lines (with_line p n (line_read l)) (suc n) (m ∷ ms)

abbrev pub empty_page : Page
empty_page = record { fault = None; present = replicate keyword_count false; query = every_day; print = Numbers }

abbrev pub answer_unless : Option Fault → PageRead → Result PageRead Fault
answer_unless None read = Ok read
answer_unless (Some f) read = Err f

-- the query, and how its days are printed; or the first refusal in that order, its reason and the first line that has
-- it
unfoldable pub page_answer : Page → Result PageRead Fault
page_answer p = answer_unless p.fault (record { query = p.query; print = p.print })

-- the lines of a text, which may have a byte order mark in front
abbrev pub lines_of : List ℕ → List (List ℕ)
lines_of text = pieces newline (unmarked text)

-- WHAT A TEXT MEANS: the query, which is paper 01's reading, or a fault
unfoldable pub page_read : List ℕ → Result PageRead Fault
page_read text = page_answer (with_lines empty_page 1 (lines_of text))
