-- What is said of a page that was accepted, where it is likely to be meant otherwise: from the page's bytes to those of
-- standard error.
-- Assumes nothing.
use Rattle.std.specs.Prelude.{Bool, false, cond, not, ◌&&◌, ◌||◌, List, [], ◌∷◌, ◌++◌, ℕ, suc, ◌+◌, ◌*◌, ◌%◌, eqb, leb, ltb, Option, Some, None, Result, Ok, Err, is_ok}
use Rattle.civil.specs.Answers.{date_or_zeros}
use Rattle.dated.specs.Dated.{date_bytes, angle_bytes}
use Rattle.days.specs.declared.refusal.Refusal.{Refusal}
use Rattle.days.specs.Refusals.{and_then}
use Rattle.longitudes.specs.Longitudes.{circle}
use Rattle.page.specs.Names.{keywords}
use Rattle.page.specs.Page.{span_keyword, edition_keyword, print_keyword, has_arcs, width_to, is_to, arc_words, lines_of, page_read}
use Rattle.text.specs.Ascii.{ascii}
use Rattle.text.specs.Decimal.{digits_of, number_read}
use Rattle.values.specs.Values.{angle_read}
use Rattle.words.specs.Words.{hash, up_to, first_word, after_word, after_words, place_in}

-- which line is meant
unfoldable pub line_text : ℕ → List ℕ
line_text n = ascii "line " ++ (digits_of n ++ ascii ": ")

-- an arc of the name that the line begins with, as it was understood
unfoldable pub arc_text : ℕ → List ℕ → ℕ → ℕ → List ℕ
arc_text n name start width =
    line_text n ++ (name ++ (ascii " from " ++ (angle_bytes start ++ (ascii ", " ++ (angle_bytes width ++ ascii " wide")))))

-- bare numbers are seconds of arc
unfoldable pub seconds_text : ℕ → List ℕ → ℕ → ℕ → List ℕ
seconds_text n name start width =
    arc_text n name start width ++ (ascii "; degrees are written " ++ (angle_bytes (3600 * start) ++ ascii "\n"))

-- the second value is no end
unfoldable pub width_text : ℕ → List ℕ → ℕ → ℕ → List ℕ
width_text n name start width =
    arc_text n name start width ++ (ascii ", up to " ++ (angle_bytes ((start + width) % circle) ++ ascii "; the second value is the width\n"))

-- a span of days by their numbers
unfoldable pub numbers_text : ℕ → ℕ → ℕ → List ℕ
numbers_text n first last = line_text n ++ (ascii "days " ++ (digits_of first ++ (ascii " to " ++ digits_of last)))

-- bare numbers are days
unfoldable pub days_text : ℕ → ℕ → ℕ → List ℕ
days_text n first last =
    numbers_text n first last
    ++ (ascii ", "
    ++ (date_bytes (date_or_zeros first)
    ++ (ascii " to "
    ++ (date_bytes (date_or_zeros last) ++ (ascii "; years are written " ++ (digits_of first ++ ascii "-1-1\n"))))))

-- an arc narrower than a minute in bare numbers below 360: degrees may be meant
unfoldable pub likely_degrees : Result ℕ Refusal → Result ℕ Refusal → Option (ℕ × ℕ)
likely_degrees (Ok start) (Ok width) = cond (ltb start 360 && ltb width 60) (Some (start, width)) None
likely_degrees (Ok start) (Err _) = None
likely_degrees (Err _) width = None

-- an arc from 10° on whose width is more than its start by at most 10°: the width may be where it is to end
unfoldable pub likely_end : Result ℕ Refusal → Result ℕ Refusal → Option (ℕ × ℕ)
likely_end (Ok start) (Ok width) =
    cond (leb 36000 start && (ltb start circle && (ltb start width && leb width (start + 36000)))) (Some (start, width)) None
likely_end (Ok start) (Err _) = None
likely_end (Err _) width = None

-- two bare numbers from 1000 to 2619: years may be meant
unfoldable pub likely_year : ℕ → Bool
likely_year n = leb 1000 n && leb n 2619

unfoldable pub likely_years : Result ℕ Refusal → Result ℕ Refusal → Option (ℕ × ℕ)
likely_years (Ok first) (Ok last) = cond (likely_year first && likely_year last) (Some (first, last)) None
likely_years (Ok first) (Err _) = None
likely_years (Err _) last = None

-- what is said of two numbers, if there are any
abbrev pub said_of : Option (ℕ × ℕ) → (ℕ → ℕ → List ℕ) → List ℕ → List ℕ
said_of (Some d) said other = said d.0 d.1
said_of None said other = other

-- what is said of an arc by its start and width; nothing where it is likely to be meant so
unfoldable pub plain_remark : ℕ → List ℕ → List ℕ → List ℕ → List ℕ
plain_remark n name start width =
    said_of (likely_degrees (number_read start) (number_read width)) (seconds_text n name)
    (said_of (likely_end (angle_read start) (angle_read width)) (width_text n name) [])

-- the width of an arc by its end
abbrev pub width_up_to : Result ℕ Refusal → Result ℕ Refusal → Result ℕ Refusal
width_up_to start end = and_then start (λ s. and_then end (λ e. Ok (width_to s e)))

-- of an arc by its start and end, whose second value is the end: bare numbers alone may be meant otherwise
unfoldable pub end_remark : ℕ → List ℕ → List ℕ → List ℕ → List ℕ
end_remark n name start end =
    said_of (likely_degrees (number_read start) (width_up_to (number_read start) (number_read end))) (seconds_text n name) []

-- of the arc at the front of a text; a sign's first word is no angle, so that nothing is said of it
unfoldable pub arc_remark : ℕ → List ℕ → List ℕ → List ℕ
arc_remark n name t =
    cond (is_to (first_word (after_word t))) (end_remark n name (first_word t) (first_word (after_words 2 t))) (plain_remark n name (first_word t) (first_word (after_word t)))

-- of a span
unfoldable pub span_remark : ℕ → List ℕ → List ℕ → List ℕ
span_remark n first last = said_of (likely_years (number_read first) (number_read last)) (days_text n) []

-- of the nth line, by its first word and the text behind it: of its span or its first arc, and of its second
unfoldable pub first_remark : ℕ → List ℕ → List ℕ → List ℕ
first_remark n name values =
    let k : ℕ = place_in keywords name in
    cond (eqb k span_keyword) (span_remark n (first_word values) (first_word (after_word values)))
    (cond (has_arcs k) (arc_remark n name values) [])

unfoldable pub second_remark : ℕ → List ℕ → List ℕ → List ℕ
second_remark n name values =
    cond (has_arcs (place_in keywords name)) (arc_remark n name (after_words (arc_words values) values)) []

-- a `#` starts a comment
unfoldable pub line_remarks : ℕ → List ℕ → List ℕ
line_remarks n l =
    let name : List ℕ = first_word (up_to hash l) in
    let values : List ℕ = after_word (up_to hash l) in
    first_remark n name values ++ second_remark n name values

-- of some lines, the first of which is the nth
unfoldable pub lines_remarks : ℕ → List (List ℕ) → List ℕ
lines_remarks n [] = []
lines_remarks n (l ∷ ls) = line_remarks n l ++ lines_remarks (suc n) ls

-- a line asks for something: it has a keyword, and not that of the span, the edition or the last, `print`
unfoldable pub asks : List ℕ → Bool
asks l =
    let k : ℕ = place_in keywords (first_word (up_to hash l)) in
    ltb k print_keyword && (not (eqb k span_keyword) && not (eqb k edition_keyword))

unfoldable pub some_asks : List (List ℕ) → Bool
some_asks [] = false
some_asks (l ∷ ls) = asks l || some_asks ls

-- what is said last, where no line asks for anything
unfoldable pub nothing_asked : List ℕ
nothing_asked = ascii "nothing is asked: every day of the span is listed\n"

unfoldable pub last_remark : Bool → List ℕ
last_remark asked = cond asked [] nothing_asked

-- of a page's lines
abbrev pub page_remarks : ℕ → List (List ℕ) → List ℕ
page_remarks n ls = lines_remarks n ls ++ last_remark (some_asks ls)

-- ALL THAT IS SAID of a text whose first line is the nth: nothing where it is refused
unfoldable pub remarks_of : ℕ → List ℕ → List ℕ
remarks_of n text = cond (is_ok (page_read text)) (page_remarks n (lines_of text)) []

-- the bytes that there is room for
abbrev pub remarks_room : ℕ
remarks_room = 8192
