-- What the values of a line mean: each is a word, in one case two, read as a number, or the refusal of a bad line; and
-- the weekdays or the elements of a line, as a set.
-- Assumes nothing.
use Rattle.std.specs.Prelude.{Bool, true, false, cond, ◌&&◌, List, ℕ, zero, suc, ◌+◌, ◌*◌, ◌-◌, eqb, leb, ltb, length, Result, Ok, Err, is_ok}
use Rattle.std.specs.Result.{result_or}
use Rattle.civil.specs.Answers.{day_of_date}
use Rattle.days.specs.declared.refusal.Refusal.{Refusal}
use Rattle.days.specs.declared.refusal.Refusal.TheVariants.{BadInput}
use Rattle.days.specs.Weekdays.{bit_of, in_set}
use Rattle.names.specs.declared.Kind.{Kind}
use Rattle.names.specs.declared.Kind.TheVariants.{Tithi, Nakshatra, Yoga, Karana, Sign, Month, Fortnight, Weekday}
use Rattle.names.specs.Names.{name_read}
use Rattle.query.specs.Conditions.{has_number, with_number}
use Rattle.text.specs.Decimal.{number_read}
use Rattle.values.specs.declared.Three.{Three}
use Rattle.values.specs.declared.Value.{Value}
use Rattle.words.specs.Words.{dash, colon, up_to, after_first, first_word, after_word, after_words}

-- the word is a number
abbrev pub is_read : Result ℕ Refusal → Bool
is_read r = is_ok r

-- what is made of an answer, where it is no refusal
abbrev pub and_then : {A B : Type 0} → Result A Refusal → (A → Result B Refusal) → Result B Refusal
and_then (Ok a) f = f a
and_then (Err r) f = Err r

-- three numbers with a separator between them
abbrev pub three_numbers : Result ℕ Refusal → Result ℕ Refusal → Result ℕ Refusal → Result Three Refusal
three_numbers a b c =
    and_then a (λ x. and_then b (λ y. and_then c (λ z. Ok (record { first = x; second = y; third = z }))))

unfoldable pub three_read : ℕ → List ℕ → Result Three Refusal
three_read s w =
    three_numbers (number_read (up_to s w)) (number_read (up_to s (after_first s w))) (number_read (after_first s (after_first s w)))

-- two numbers with a separator between them, and 0 for a third
unfoldable pub two_read : ℕ → List ℕ → Result Three Refusal
two_read s w = three_numbers (number_read (up_to s w)) (number_read (after_first s w)) (Ok 0)

-- the degrees, minutes and seconds of `D:M:S`, or of `D:M`
unfoldable pub degrees_read : List ℕ → Result Three Refusal
degrees_read w = result_or (three_read colon w) (two_read colon w)

-- `D:M:S`, in seconds of arc: D below 1000, M and S below 60
unfoldable pub sexagesimal_read : Three → Result ℕ Refusal
sexagesimal_read t =
    cond (ltb t.first 1000 && (ltb t.second 60 && ltb t.third 60))
    (Ok (3600 * t.first + 60 * t.second + t.third))
    (Err BadInput)

-- a number, or what else the word may be
unfoldable pub number_or : List ℕ → Result ℕ Refusal → Result ℕ Refusal
number_or w other = result_or (number_read w) other

-- an angle: whole seconds of arc, `D:M:S` or `D:M`
unfoldable pub angle_read : List ℕ → Result ℕ Refusal
angle_read w = number_or w (and_then (degrees_read w) sexagesimal_read)

-- `YEAR-MONTH-DAY`: the day of that date
unfoldable pub date_read : Three → Result ℕ Refusal
date_read t = day_of_date (record { year = t.first; month = t.second; day = t.third })

-- a day of the span: its number, or its civil date
unfoldable pub day_read : List ℕ → Result ℕ Refusal
day_read w = number_or w (and_then (three_read dash w) date_read)

-- tithis elapsed while the nth tithi of a half of the month runs, 1 to 15; any other n has a number that is no tithi's
unfoldable pub elapsed_in : ℕ → ℕ → ℕ
elapsed_in half n = cond (leb 1 n && leb n 15) (15 * half + (n - 1)) 31

-- a tithi by the half of its month, 0 or 1, and its number in it
unfoldable pub half_read : ℕ → Result ℕ Refusal → Result ℕ Refusal
half_read half n = and_then n (λ k. Ok (elapsed_in half k))

-- a kind whose values may be two words, and the kind that has a set of its own
abbrev pub is_tithi : Kind → Bool
is_tithi Tithi = true
is_tithi Nakshatra = false
is_tithi Yoga = false
is_tithi Karana = false
is_tithi Sign = false
is_tithi Month = false
is_tithi Fortnight = false
is_tithi Weekday = false

abbrev pub is_weekday : Kind → Bool
is_weekday Tithi = false
is_weekday Nakshatra = false
is_weekday Yoga = false
is_weekday Karana = false
is_weekday Sign = false
is_weekday Month = false
is_weekday Fortnight = false
is_weekday Weekday = true

-- the half of the month that a word names, where a tithi is asked for
unfoldable pub half_named : Kind → List ℕ → Result ℕ Refusal
half_named k w = cond (is_tithi k) (name_read Fortnight w) (Err BadInput)

-- a value by name at the front of a text: one word; or of a tithi the name of a half of the month and a number,
-- `shukla 5`
unfoldable pub name_value : Kind → List ℕ → Value
name_value k t =
    elim (half_named k (first_word t)) [
      | Ok half ↦ record { words = 2; read = half_read half (number_read (first_word (after_word t))) }
      | Err _ ↦ record { words = 1; read = name_read k (first_word t) }
    ]

-- the value at the front of a text, an element or a weekday: its number, or else its name
unfoldable pub value_read : Kind → List ℕ → Value
value_read k t =
    cond (is_read (number_read (first_word t))) (record { words = 1; read = number_read (first_word t) }) (name_value k t)

-- a set with a weekday more; one that is in it already makes the line malformed
unfoldable pub with_weekday : ℕ → ℕ → Result ℕ Refusal
with_weekday set w = cond (in_set set w) (Err BadInput) (Ok (set + bit_of w))

-- a query's set has a number; from 31 on it does not tell one from another, and those are out of range in any case
unfoldable pub in_numbers : ℕ → ℕ → Bool
in_numbers set n = leb n 30 && has_number set n

-- a query's set with a number more; one that is in it already makes the line malformed
unfoldable pub with_number_read : ℕ → ℕ → Result ℕ Refusal
with_number_read set n =
    cond (in_numbers set n) (Err BadInput) (Ok (with_number (record { given = true; set = set }) n).set)

-- a set with a value more, a weekday or a number
unfoldable pub with_value : Kind → ℕ → ℕ → Result ℕ Refusal
with_value k set n = cond (is_weekday k) (with_weekday set n) (with_number_read set n)

-- a set; there is none without a word
unfoldable pub set_read : ℕ → Result ℕ Refusal
set_read set = cond (eqb set 0) (Err BadInput) (Ok set)

-- a set with a text's values, in any order: at most n, and each weekday or number once
unfoldable pub set_of : Kind → ℕ → ℕ → List ℕ → Result ℕ Refusal
set_of k zero set t = cond (eqb (length (first_word t)) 0) (set_read set) (Err BadInput)
set_of k (suc n) set t =
    cond (eqb (length (first_word t)) 0) (set_read set)
    (let v = value_read k t in
    and_then (and_then v.read (with_value k set)) (λ more. set_of k n more (after_words v.words t)))

-- the most weekdays of a line, and the most of its elements
abbrev pub most_weekdays : ℕ
most_weekdays = 7

abbrev pub most_numbers : ℕ
most_numbers = 30

abbrev pub most_of : Kind → ℕ
most_of k = cond (is_weekday k) most_weekdays most_numbers

-- THE SET of a line's weekdays or elements
abbrev pub named_set_read : Kind → List ℕ → Result ℕ Refusal
named_set_read k t = set_of k (most_of k) 0 t

-- no word at all
unfoldable pub none_read : List ℕ → Result ℕ Refusal
none_read w = cond (eqb (length w) 0) (Ok 0) (Err BadInput)
