-- The day of a Saka lunar date: the day reckoned by mean months and tithis, the day before it or the day after,
-- whichever has the weekday.
-- Assumes nothing.
use Rattle.std.specs.Prelude.{Bool, cond, ◌&&◌, List, [], ◌∷◌, ℕ, ◌+◌, ◌-◌, ◌*◌, ◌/◌, ◌%◌, ltb, leb, eqb, ℤ, pos, negsuc, Result, Ok, Err}
use Rattle.std.proofs.Math.IntN.{pred_ℤ}
use Rattle.days.specs.Refusals.{and_then}
use Rattle.days.specs.declared.refusal.Refusal.{Refusal}
use Rattle.days.specs.declared.refusal.Refusal.TheVariants.{OutOfRange, BadInput, NoSuchWeekday, NoExtraMonth}
use Rattle.days.specs.Days.{cycle_days, last_day, weekday_on}
use Rattle.saka.specs.declared.LunarDate.{LunarDate}

abbrev pub first_year : ℕ
first_year = 1442

abbrev pub last_year : ℕ
last_year = 2541

-- months 0 to 11, tithis 0 to 29, weekday 0 to 6
unfoldable pub fields_in_range : LunarDate → Bool
fields_in_range d = ltb d.months 12 && (ltb d.tithis 30 && ltb d.weekday 7)

unfoldable pub year_in_range : ℕ → Bool
year_in_range y = leb first_year y && leb y last_year

-- paper 01's C = Y / 11 with Y = year − 1442: the cycles of eleven years
abbrev pub cycle_of : LunarDate → ℕ
cycle_of d = (d.year - first_year) / 11

-- M: the lunar months since the cycle's start, the extra ones left out
abbrev pub mean_months : LunarDate → ℕ
mean_months d = 12 * ((d.year - first_year) % 11) + d.months

-- the extra months (adhikamāsa) since the cycle's start: paper 01's quotient by 33
unfoldable pub extra_months : LunarDate → ℕ
extra_months d = (mean_months d + 2 * cycle_of d + 10) / 33

-- paper 02's mark: this year's extra month is still to come
abbrev pub leap_month_pending : LunarDate → Bool
leap_month_pending d = d.leap_month_pending

-- the extra months that have elapsed: with the mark the quotient is lessened by one, which 0 cannot be
unfoldable pub elapsed_extra_months : LunarDate → Result ℕ Refusal
elapsed_extra_months d =
    cond (leap_month_pending d)
    (cond (eqb (extra_months d) 0) (Err NoExtraMonth) (Ok (extra_months d - 1)))
    (Ok (extra_months d))

-- TM: the lunar months since the cycle's start, E extra ones among them
abbrev pub true_months : LunarDate → ℕ → ℕ
true_months d E = mean_months d + E

-- H: the tithis since the cycle's start
abbrev pub elapsed_tithis : LunarDate → ℕ → ℕ
elapsed_tithis d E = 30 * true_months d E + d.tithis + cycle_of d / 6

-- A: the civil days since the cycle's start, one fewer for every 64 tithis; they may pass 4015
abbrev pub civil_days : LunarDate → ℕ → ℕ
civil_days d E = elapsed_tithis d E - elapsed_tithis d E / 64

-- paper 01's reckoned day, with E extra months
unfoldable pub reckoned_day : LunarDate → ℕ → ℕ
reckoned_day d E = cycle_days * cycle_of d + civil_days d E

-- the weekday of an integer day; day −1 is a Sunday
abbrev pub integer_weekday : ℤ → ℕ
integer_weekday (pos n) = weekday_on n
integer_weekday (negsuc n) = 6 - n % 7

-- paper 01's three days: the day before day n, day n, and the day after
abbrev pub three_days : ℕ → List ℤ
three_days n = pred_ℤ (pos n) ∷ pos n ∷ pos (n + 1) ∷ []

-- those of the days that have weekday w
unfoldable pub having_weekday : ℕ → List ℤ → List ℤ
having_weekday w [] = []
having_weekday w (z ∷ zs) = cond (eqb (integer_weekday z) w) (z ∷ having_weekday w zs) (having_weekday w zs)

-- days run from 0 to 401,599
unfoldable pub integer_day : ℤ → Result ℕ Refusal
integer_day (pos n) = cond (leb n last_day) (Ok n) (Err OutOfRange)
integer_day (negsuc _) = Err OutOfRange

-- the answer from the days that have the weekday: none of the three, or just one (the law `at_most_one`)
unfoldable pub answer_from : List ℤ → Result ℕ Refusal
answer_from [] = Err NoSuchWeekday
answer_from (z ∷ _) = integer_day z

unfoldable pub day_on : ℕ → ℕ → Result ℕ Refusal
day_on w n = answer_from (having_weekday w (three_days n))

-- an answer that is given where the test holds, and else refused
abbrev pub provided : Bool → Refusal → Result ℕ Refusal → Result ℕ Refusal
provided test refusal answer = cond test answer (Err refusal)

-- paper 01's rule over the extra months. The refusals in their order: 3, the year's 2, that of the extra months (8), 4,
-- the day's 2
unfoldable pub lunar_day_with : Result ℕ Refusal → LunarDate → Result ℕ Refusal
lunar_day_with extra d =
    provided (fields_in_range d) BadInput
    (provided (year_in_range d.year) OutOfRange
    (and_then extra (λ E.
    day_on d.weekday (reckoned_day d E))))

-- a date's answer, with paper 02's mark and without
unfoldable pub lunar_day : LunarDate → Result ℕ Refusal
lunar_day d = lunar_day_with (elapsed_extra_months d) d
