-- An ISO date is the civil date 400 years later, less the 400 years: the months are the same, so one date comes after
-- another in both at once. Assumes nothing.
use mathlib.Core.Bool.{Bool, true, false, cond, not, ◌&&◌, and-eq-true_iff}
use mathlib.Core.Path.{◌≡◌, refl, sym, ap, ◌∙◌}
use Prim.Native.Nat.{ℕ, zero, suc, ◌+◌, ◌*◌, ◌-◌, ◌/◌, ◌%◌, ◌≤◌, ◌<◌}
use native.Mathlib.Omega.{arith}
use lib.Dec.{leb, ltb, eqb}
use borrow.Author.Tests.{ltb-true, eqb-true, eqb-false, lt-ltb, le-leb, ne_eqb}
use Rattle.civil.specs.declared.Date.{Date}
use Rattle.civil.specs.Calendar.{leap, month_days, lost, date_exists, same_date, next, date_on}
use Rattle.civil.specs.Serial.{march_year, since_march, before, year_day, year_start, serial_of, epoch_serial, gregorian_serial, last_julian_stamp, stamp}
use Rattle.civil.proofs.Years.{century, in_century, year_within, century-start, gregorian-year}
use Rattle.civil.proofs.Months.{month_at}
use Rattle.civil.proofs.Dates.{year_of, day_of, real_of}
use Rattle.civil.proofs.Next.{same-date, calendar}
use Rattle.civil.proofs.Read.{Read, is-date-on, read-day}
use Rattle.iso.specs.Calendar.{iso_month_days, iso_exists, iso_next, iso_epoch, iso_on}

-- the days of 400 Gregorian years
abbrev pub round_days : ℕ
round_days = 146097

abbrev pub later : Date → Date
later x = record { year = x.year + 400; month = x.month; day = x.day }

pub back : {x z : Date} → later x ≡ later z → x ≡ z
back {x} {z} e =
    let y : x.year + 400 ≡ z.year + 400 = ap (λ (d : Date). d.year) e in
    same-date (omega arith) (ap (λ (d : Date). d.month) e) (ap (λ (d : Date). d.day) e)

-- by the Gregorian rule leap years are those divisible by 4, without the centuries not divisible by 400
abbrev pub gregorian_leap : ℕ → Bool
gregorian_leap y = eqb (y % 4) 0 && not (eqb (y % 100) 0 && not (eqb (y % 400) 0))

-- from 1582 on, which is none, the civil calendar has this rule
pub leap-late : (y : ℕ) → 1582 ≤ y → leap y ≡ gregorian_leap y
unfolding leap
leap-late y h = go (eqb y 1582) refl
  where
    go : (t : Bool) → eqb y 1582 ≡ t → (eqb (y % 4) 0 && not (ltb 1582 y && eqb (y % 100) 0 && not (eqb (y % 400) 0))) ≡ gregorian_leap y
    go true e = rw (eqb-true y 1582 e)
    go false e = rw (lt-ltb 1582 y (omega (arith, eqb-false y 1582 e)))

-- the Gregorian years go round
pub leap-round : (y z : ℕ) → y % 400 ≡ z % 400 → gregorian_leap y ≡ gregorian_leap z
leap-round y z e = rw (four y, four z, hundred y, hundred z, e)
  where
    four : (n : ℕ) → n % 4 ≡ n % 400 % 4
    four n = omega arith

    hundred : (n : ℕ) → n % 100 ≡ n % 400 % 100
    hundred n = omega arith

pub month-round : (y z m : ℕ) → 1582 ≤ z → z % 400 ≡ y % 400 → month_days z m ≡ iso_month_days y m
unfolding month_days iso_month_days
month-round y z m h e =
    let same : leap z ≡ leap (y + 1600) = leap-late z h ∙ leap-round z (y + 1600) (omega arith) ∙ sym (leap-late (y + 1600) (omega arith)) in
    rw same

-- a date exists where the civil date of such a later year does
pub exists-round : (x : Date) (z : ℕ) → 1582 < z → z % 400 ≡ x.year % 400 → date_exists (record { year = z; month = x.month; day = x.day }) ≡ iso_exists x
unfolding date_exists iso_exists lost
exists-round x z h e = rw (ne_eqb z 1582 (λ i. omega arith), month-round x.year z x.month (omega arith) e) (kept _)
  where
    kept : (t : Bool) → t && true ≡ t
    kept true = refl
    kept false = refl

-- a civil date from 1582 on is an ISO date too
pub exists-kept : (x : Date) → 1582 ≤ x.year → date_exists x ≡ true → iso_exists x ≡ true
unfolding date_exists iso_exists
exists-kept x h e =
    rw (month-round x.year x.year x.month h refl) at
    ((and-eq-true_iff (leb 1 x.month && leb x.month 12 && leb 1 x.day && leb x.day (month_days x.year x.month)) (not (lost x))).0 e).0

pub exists-later : (x : Date) → 1182 < x.year → date_exists (later x) ≡ iso_exists x
exists-later x h = exists-round x (x.year + 400) (omega arith) (omega arith)

next-later : (x : Date) → 1520 ≤ x.year → next (later x) ≡ later (iso_next x)
unfolding next iso_next same_date
next-later x h =
    rw (ne_eqb (x.year + 400) 1582 (λ i. omega arith), month-round x.year (x.year + 400) x.month (omega arith) (omega arith))
    (go (ltb x.day (iso_month_days x.year x.month)) (ltb x.month 12))
  where
    on : x.year + 400 + 1 ≡ x.year + 1 + 400
    on = omega arith

    go : (s t : Bool) → cond s (record { year = x.year + 400; month = x.month; day = x.day + 1 }) (cond t (record { year = x.year + 400; month = x.month + 1; day = 1 }) (record { year = x.year + 400 + 1; month = 1; day = 1 })) ≡ later (cond s (record { year = x.year; month = x.month; day = x.day + 1 }) (cond t (record { year = x.year; month = x.month + 1; day = 1 }) (record { year = x.year + 1; month = 1; day = 1 })))
    go true t = refl
    go false true = refl
    go false false = same-date on refl refl

next-year : (x : Date) → x.year ≤ (iso_next x).year
unfolding iso_next
next-year x = go (ltb x.day (iso_month_days x.year x.month)) (ltb x.month 12)
  where
    go : (s t : Bool) → x.year ≤ (cond {A = Date} s (record { year = x.year; month = x.month; day = x.day + 1 }) (cond {A = Date} t (record { year = x.year; month = x.month + 1; day = 1 }) (record { year = x.year + 1; month = 1; day = 1 }))).year
    go true t = omega arith
    go false true = omega arith
    go false false = omega arith

pub on-next : (n : ℕ) → iso_on (suc n) ≡ iso_next (iso_on n)
unfolding iso_on
on-next n = refl

pub year-low : (n : ℕ) → 1520 ≤ (iso_on n).year
unfolding iso_on
year-low zero = omega arith
year-low (suc n) = omega (arith, year-low n, next-year (iso_on n))

-- day n's ISO date is the civil date of the day 146,097 later, less 400 years
pub on-later : (n : ℕ) → date_on (n + round_days) ≡ later (iso_on n)
on-later zero = sym (is-date-on round_days (later iso_epoch) (record { real = real_of (later iso_epoch) there; counted = count })) ∙ (unfold iso_on in refl)
  where
    there : date_exists (later iso_epoch) ≡ true
    there = unfold date_exists lost month_days leap in refl

    count : serial_of (later iso_epoch) ≡ round_days + epoch_serial
    count = unfold serial_of in refl
on-later (suc n) =
    let e : suc n + round_days ≡ suc (n + round_days) = omega arith in
    ap date_on e ∙ civil-next (n + round_days) ∙ ap next (on-later n) ∙ next-later (iso_on n) (year-low n) ∙ ap later (sym (on-next n))
  where
    civil-next : (m : ℕ) → date_on (suc m) ≡ next (date_on m)
    civil-next m = unfold date_on in refl

-- a Gregorian year begins 146,097 days after the one 400 years before
year-later : (u : ℕ) → year_start true (u + 400) ≡ year_start true u + round_days
year-later u = sum (u / 4) (u / 100) (u / 400) _ _ _ (omega arith) (omega arith) (omega arith) (omega arith)
  where
    sum : (a b c a' b' c' : ℕ) → a' ≡ a + 100 → b' ≡ b + 4 → c' ≡ c + 1 → b ≤ u → 365 * (u + 400) + a' - b' + c' + 5 ≡ 365 * u + a - b + c + 5 + round_days
    sum a b c a' b' c' ha hb hc h = omega arith

year-of-later : (x : Date) → year_of (later x) ≡ year_of x + 400
year-of-later x = omega arith

-- a date after 1582 is Gregorian
pub late-calendar : (x : Date) → 1582 < x.year → calendar x ≡ true
late-calendar x h = go (ltb x.month 3) refl
  where
    low : (k : ℕ) → 9 ≤ k → 275 ≤ before k
    low k i = omega arith

    go : (t : Bool) → ltb x.month 3 ≡ t → ltb last_julian_stamp (stamp (x.year + cond t 399 400) (day_of x)) ≡ true
    go true e =
        let b = low (since_march x.month) (omega (arith, ltb-true x.month 3 e)) in
        lt-ltb last_julian_stamp (stamp (x.year + 399) (day_of x)) (omega arith)
    go false e = lt-ltb last_julian_stamp (stamp (x.year + 400) (day_of x)) (omega arith)

-- the count of days by the Gregorian rule alone
abbrev pub gregorian_count : Date → ℕ
gregorian_count x = year_start true (march_year x.year x.month) + year_day x.month x.day

pub count-gregorian : (x : Date) → calendar x ≡ true → serial_of x ≡ gregorian_count x
unfolding serial_of
count-gregorian x e = rw e

pub count-later : (x : Date) → gregorian_count (later x) ≡ gregorian_count x + round_days
count-later x = let y = year-of-later x in omega (arith, ap (year_start true) y, year-later (year_of x))

-- a Gregorian date's serial number is 146,097 less than that of the date 400 years later
pub serial-later : (x : Date) → 1182 < x.year → serial_of (later x) ≡ gregorian_count x + round_days
serial-later x h = count-gregorian (later x) (late-calendar (later x) (omega arith)) ∙ count-later x

-- a date that exists and counts n is day n's
pub on-count : (n : ℕ) (x : Date) → 1182 < x.year → iso_exists x ≡ true → gregorian_count x ≡ n + epoch_serial → iso_on n ≡ x
on-count n x h e k =
    let r = real_of (later x) (exists-later x h ∙ e) in
    back (sym (is-date-on (n + round_days) (later x) (record { real = r; counted = serial-later x h ∙ omega arith }) ∙ on-later n))

-- day d's date as it is read from the day 146,097 later, which is Gregorian
module _ (d : ℕ) where
  -- its days from 1 March of the year counted as 0, and of them the year and the day in that year
  abbrev since : ℕ
  since = d + 847390

  abbrev pub later_year : ℕ
  later_year = 100 * century since + year_within since

  abbrev pub in_year : ℕ
  in_year = in_century since - (365 * year_within since + year_within since / 4)

  read-later : Read (later (iso_on d)) later_year in_year (month_at in_year)
  read-later =
      rw (on-later d) at
      (read-day (d + round_days) later_year in_year
      (rw (late, ← same) (gregorian-year since))
      (rw late (less _ _ _ _ _ (century-start (century since) (year_within since) (omega arith)) same)))
    where
      same : since + 5 ≡ d + round_days + epoch_serial
      same = omega arith

      late : leb gregorian_serial (d + round_days + epoch_serial) ≡ true
      late = le-leb gregorian_serial (d + round_days + epoch_serial) (omega arith)

      less : (a b s t y : ℕ) → y ≡ a + b + 5 → s + 5 ≡ t → s - a - b ≡ t - y
      less a b s t y e h = omega arith

  -- from March to December, and in January and February, of the year after
  pub spring-date : month_at in_year < 10 → record { year = later_year - 800; month = month_at in_year + 3; day = in_year - before (month_at in_year) + 1 } ≡ iso_on d
  spring-date h =
      let e = (read-later.spring h).1 in
      same-date (omega (arith, ap (λ (x : Date). x.year) e)) (sym (ap (λ (x : Date). x.month) e)) (sym (ap (λ (x : Date). x.day) e))

  pub winter-date : 10 ≤ month_at in_year → record { year = later_year - 800 + 1; month = month_at in_year - 9; day = in_year - before (month_at in_year) + 1 } ≡ iso_on d
  winter-date h =
      let e = (read-later.winter h).1 in
      same-date (omega (arith, ap (λ (x : Date). x.year) e, year-low d)) (sym (ap (λ (x : Date). x.month) e)) (sym (ap (λ (x : Date). x.day) e))
