-- The days 0 to 401,599 as pairs of paper 01's cycle C and day A within it: day = 4016 × C + A.
-- Assumes nothing.
use Rattle.std.specs.Prelude.{Bool, cond, ◌&&◌, List, [], ◌∷◌, ℕ, zero, suc, ◌+◌, ◌*◌, ◌/◌, ◌%◌, ltb, leb, Result, Ok, Err}
use Rattle.days.specs.Refusals.{accepted, out_of_range, last_before_first}
use Rattle.days.specs.declared.refusal.Refusal.{Refusal}
use Rattle.days.specs.declared.refusal.Refusal.TheVariants.{OutOfRange, LastBeforeFirst}
use Rattle.days.specs.declared.Day.{Day}

abbrev pub cycle_days : ℕ
cycle_days = 4016

abbrev pub cycles : ℕ
cycles = 100

abbrev pub last_day : ℕ
last_day = 401599

-- the Julian Day Number of day 0
abbrev pub epoch_julian_day : ℕ
epoch_julian_day = 2276316

-- the number of the pair
abbrev pub count : Day → ℕ
count d = cycle_days * d.cycle + d.within

-- 0 Monday to 6 Sunday
abbrev pub weekday_on : ℕ → ℕ
weekday_on n = n % 7

-- the m days from day n on
unfoldable pub days_from : ℕ → ℕ → List ℕ
days_from n zero = []
days_from n (suc m) = n ∷ days_from (suc n) m

-- a refusal's number where the span from one day to another, both counted, is refused, and else another number: an end
-- that is no day comes first
abbrev pub refused_span_or : ℕ → ℕ → ℕ → ℕ
refused_span_or first last else = cond (leb first last_day && leb last last_day) (cond (leb first last) else last_before_first) out_of_range

-- why a span is refused, or 0
unfoldable pub span_refusal : ℕ → ℕ → ℕ
span_refusal first last = refused_span_or first last accepted

-- an answer about a span of days: refused where the span is, an end that is no day before an order of the ends
unfoldable pub answer_over : {A : Type 0} → ℕ → ℕ → Result A Refusal → Result A Refusal
answer_over first last answer = cond (leb first last_day && leb last last_day) (cond (leb first last) answer (Err LastBeforeFirst)) (Err OutOfRange)

-- whether a span is refused, and why
abbrev pub check_span : ℕ → ℕ → Result (Unit {0}) Refusal
check_span first last = answer_over first last (Ok tt)

-- the pair of day n
abbrev pub pair_at : ℕ → Day
pair_at n = record { cycle = n / cycle_days; within = n % cycle_days }

unfoldable pub day_of : ℕ → Result Day Refusal
day_of n = cond (leb n last_day) (Ok (pair_at n)) (Err OutOfRange)

-- C from 0 to 99, A from 0 to 4015
unfoldable pub in_range : Day → Bool
in_range d = ltb d.cycle cycles && ltb d.within cycle_days

unfoldable pub pair_of : ℕ → ℕ → Result Day Refusal
pair_of C A = let d : Day = record { cycle = C; within = A } in cond (in_range d) (Ok d) (Err OutOfRange)

-- what is told of a day: given for a day in range, else refused
unfoldable pub answer_on : {A : Type 0} → (Day → A) → Day → Result A Refusal
answer_on f d = cond (in_range d) (Ok (f d)) (Err OutOfRange)

abbrev pub number_of : Day → Result ℕ Refusal
number_of d = answer_on count d

abbrev pub julian_day_of : Day → Result ℕ Refusal
julian_day_of d = answer_on (λ (e : Day). epoch_julian_day + count e) d

abbrev pub weekday_at : Day → ℕ
weekday_at d = weekday_on (count d)

abbrev pub weekday_of : Day → Result ℕ Refusal
weekday_of d = answer_on weekday_at d

-- paper 01's step: the day whose number is one more, which the last day has not
unfoldable pub next_of : Day → Result Day Refusal
next_of d = cond (in_range d) (day_of (count d + 1)) (Err OutOfRange)
