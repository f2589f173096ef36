-- A day's record, and records filled together: paper 02's month at one go.
-- Assumes nothing.
use Rattle.std.specs.Prelude.{Bool, true, cond, ◌&&◌, List, [], ◌∷◌, map, ℕ, ◌+◌, leb, eqb, replicate, Result, Ok, Err}
use Rattle.days.specs.declared.Day.{Day}
use Rattle.days.specs.declared.refusal.Refusal.{Refusal}
use Rattle.days.specs.declared.refusal.Refusal.TheVariants.{OutOfRange, BadEdition}
use Rattle.days.specs.Refusals.{accepted, out_of_range, bad_edition}
use Rattle.days.specs.Days.{last_day, pair_at, weekday_on, days_from}
use Rattle.longitudes.specs.Longitudes.{longitudes_at}
use Rattle.panchanga.specs.TrueLongitudes.{is_edition}
use Rattle.panchanga.specs.OnDays.{true_sun_at, true_moon_at, tithi_at, nakshatra_at, yoga_at, karana_at}
use Rattle.records.specs.declared.DayRecord.{DayRecord}

-- the record of day n in the edition e
unfoldable pub record_on : ℕ → ℕ → DayRecord
record_on e n =
    let d : Day = pair_at n in
    record {
      day = n;
      weekday = weekday_on n;
      longitudes = longitudes_at d;
      sun = true_sun_at d;
      moon = true_moon_at e d;
      tithi = tithi_at e d;
      nakshatra = nakshatra_at e d;
      yoga = yoga_at e d;
      karana = karana_at e d;
    }

-- a record with its day alone
abbrev pub unfilled_on : ℕ → DayRecord
unfilled_on n = record { day = n; weekday = 0; longitudes = replicate 9 0; sun = 0; moon = 0; tithi = 0; nakshatra = 0; yoga = 0; karana = 0 }

abbrev pub no_record : DayRecord
no_record = unfilled_on 0

-- THE SINGLE CALL: the record of day n; refusal 14 for another edition, then 2
unfoldable pub record_of : ℕ → ℕ → Result DayRecord Refusal
record_of e n = cond (is_edition e) (cond (leb n last_day) (Ok (record_on e n)) (Err OutOfRange)) (Err BadEdition)

-- every record's day is one of 0 to 401,599
unfoldable pub all_days : List DayRecord → Bool
all_days [] = true
all_days (x ∷ xs) = leb x.day last_day && all_days xs

-- THE REFUSAL of records filled together: 14 for another edition, then 2 if any day is out of range
unfoldable pub fill_refusal : ℕ → List DayRecord → ℕ
fill_refusal e xs = cond (is_edition e) (cond (all_days xs) accepted out_of_range) bad_edition

-- THE RECORDS AFTERWARDS: each that of its day, or all as they were
unfoldable pub filled_after : ℕ → List DayRecord → List DayRecord
filled_after e xs = cond (eqb (fill_refusal e xs) accepted) (map (λ (x : DayRecord). record_on e x.day) xs) xs

-- THIRTY RECORDS from day n on; refusal 14 for another edition, then 2 where one of the days is out of range
unfoldable pub month_of : ℕ → ℕ → Result (List DayRecord) Refusal
month_of e n = cond (is_edition e) (cond (leb (n + 29) last_day) (Ok (map (record_on e) (days_from n 30))) (Err OutOfRange)) (Err BadEdition)
