-- The date after a date exists and has the next serial number, case by case as the calendar says; so day n's date has
-- day n's serial number.
-- Assumes nothing.
use mathlib.Core.Bool.{Bool, true, false, cond, ◌&&◌, and-eq-true_iff, false≢true}
use mathlib.Core.Logic.{⊎_elim}
use mathlib.Core.Path.{◌≡◌, refl, sym, ap, ◌∙◌, subst}
use Prim.Native.Nat.{ℕ, zero, suc, ◌+◌, ◌*◌, ◌-◌, ◌≤◌, ◌<◌}
use native.Mathlib.Omega.{arith}
use lib.Dec.{ltb, eqb, lit≤}
use borrow.Author.Tests.{ltb-true, ltb-false, eqb-true, lt-ltb, le-ltb, eq-eqb}
use Rattle.civil.specs.declared.Date.{Date}
use Rattle.civil.specs.Calendar.{leap, month_days, last_julian, first_gregorian, same_date, next, date_on}
use Rattle.civil.specs.Serial.{since_march, year_start, gregorian, serial_of, epoch_serial, last_julian_stamp}
use Rattle.civil.proofs.Years.{unit, Keeps, keeps-julian, keeps-gregorian}
use Rattle.civil.proofs.Months.{unit-small, february, month-long, next-month}
use Rattle.civil.proofs.Dates.{Fits, Real, year_of, day_of, stamp_of, months, year-long, october}

pub same-date : {x z : Date} → x.year ≡ z.year → x.month ≡ z.month → x.day ≡ z.day → x ≡ z
same-date a b c = λ i. record { year = a i; month = b i; day = c i }

pub same_true : (x z : Date) → same_date x z ≡ true → x ≡ z
unfolding same_date
same_true x z e =
    let a = (and-eq-true_iff (eqb x.year z.year && eqb x.month z.month) (eqb x.day z.day)).0 e in
    let b = (and-eq-true_iff (eqb x.year z.year) (eqb x.month z.month)).0 a.0 in
    same-date (eqb-true _ _ b.0) (eqb-true _ _ b.1) (eqb-true _ _ a.1)

pub same_self : (x : Date) → same_date x x ≡ true
unfolding same_date
same_self x = rw (eq-eqb x.year x.year refl, eq-eqb x.month x.month refl, eq-eqb x.day x.day refl)

-- the calendar of a date
abbrev pub calendar : Date → Bool
calendar x = gregorian (year_of x) (day_of x)

-- the calendar that a date's February keeps to
pub keeps : (x : Date) → Real x → Keeps (calendar x) x.year
keeps x r = go (calendar x) refl
  where
    m : 12 * year_of x + since_march x.month + 3 ≡ 12 * (x.year + 400) + x.month
    m = months x r.fits

    go : (g : Bool) → calendar x ≡ g → Keeps g x.year
    go true e = keeps-gregorian x.year (omega (arith, ltb-true last_julian_stamp (stamp_of x) e, m, year-long x r.fits, r.fits))
    go false e = keeps-julian x.year (omega (arith, ltb-false last_julian_stamp (stamp_of x) e, m, r.fits))

-- two stamps on one side of the gap
one_side : (s t : ℕ) → (last_julian_stamp < s → last_julian_stamp < t) → (s ≤ last_julian_stamp → t ≤ last_julian_stamp) → ltb last_julian_stamp t ≡ ltb last_julian_stamp s
one_side s t a b = go (ltb last_julian_stamp s) refl
  where
    go : (g : Bool) → ltb last_julian_stamp s ≡ g → ltb last_julian_stamp t ≡ g
    go true e = lt-ltb last_julian_stamp t (a (ltb-true last_julian_stamp s e))
    go false e = le-ltb last_julian_stamp t (b (ltb-false last_julian_stamp s e))

pub record Follows (x z : Date) : Type 0 where
  pub real : Real z
  pub counted : serial_of z ≡ serial_of x + 1

module _ (x : Date) (r : Real x) where
  abbrev f : Fits x
  f = r.fits

  long : 28 ≤ month_days x.year x.month
  long = month-long x.year x.month f.from_one f.to-twelve

  -- from 4 to 15 October 1582
  over-the-gap : x ≡ last_julian → Follows x first_gregorian
  unfolding serial_of month_days
  over-the-gap e =
      record {
        real = record { fits = record { from_one = lit≤ tt; to-twelve = lit≤ tt; first = lit≤ tt; final = lit≤ tt }; kept = λ k. lit≤ tt };
        counted = rw e;
      }

  -- the next day of the same year from March on
  same-year : (z : Date) → Fits z → year_of z ≡ year_of x → day_of z ≡ day_of x + 1 → (stamp_of x ≡ last_julian_stamp → ⊥) → Follows x z
  unfolding serial_of
  same-year z g y d n =
      let side = one_side (stamp_of x) (stamp_of x + 1) (λ a. omega arith) (λ a. omega arith) in
      let s : stamp_of z ≡ stamp_of x + 1 = omega arith in
      record {
        real = record { fits = g; kept = λ k. omega (arith, r.kept (omega arith)) };
        counted = rw (s, y, d, side) (omega arith);
      }

  -- the last day of a month is not the last Julian one
  not-the-gap : month_days x.year x.month ≤ x.day → stamp_of x ≡ last_julian_stamp → ⊥
  not-the-gap k e = let o = october x f (omega arith) (omega arith) in omega (arith, long)

  in-the-month : (stamp_of x ≡ last_julian_stamp → ⊥) → x.day < month_days x.year x.month → Follows x (record { year = x.year; month = x.month; day = x.day + 1 })
  in-the-month n k =
      let d = f.first in
      same-year _ (record { from_one = f.from_one; to-twelve = f.to-twelve; first = omega arith; final = omega arith }) refl (omega arith) n

  -- from February's last day to 1 March
  into-march : x.month ≡ 2 → month_days x.year x.month ≤ x.day → Follows x (record { year = x.year; month = 3; day = 1 })
  unfolding serial_of
  into-march e k =
      let u = unit-small (leap x.year) in
      let l : x.day ≡ 28 + unit (leap x.year) = omega (arith, rw (e, february x.year) at k, rw (e, february x.year) at f.final) in
      let y : year_of x ≡ x.year + 399 = rw e in
      let d : day_of x ≡ 337 + (x.day - 1) = rw e in
      let side = one_side (stamp_of x) (400 * (x.year + 400) + 0) (λ a. omega arith) (λ a. omega arith) in
      record {
        real = record { fits = record { from_one = lit≤ tt; to-twelve = lit≤ tt; first = lit≤ tt; final = omega (arith, month-long x.year 3 (lit≤ tt) (lit≤ tt)) }; kept = λ k. omega arith };
        counted = rw side (omega (arith, keeps x r, ap (year_start (calendar x)) y));
      }

  -- the first of the next month
  month-over : month_days x.year x.month ≤ x.day → x.month < 12 → Follows x (record { year = x.year; month = x.month + 1; day = 1 })
  month-over k m = ⊎_elim march (λ e. same-year _ g e.0 (omega (arith, e.1, f.first, f.final)) (not-the-gap k)) (next-month x.year x.month f.from_one m)
    where
      g : Fits (record { year = x.year; month = x.month + 1; day = 1 })
      g =
          let l = month-long x.year (x.month + 1) (omega arith) (omega arith) in
          record { from_one = omega arith; to-twelve = omega arith; first = lit≤ tt; final = omega arith }

      march : x.month ≡ 2 → Follows x (record { year = x.year; month = x.month + 1; day = 1 })
      march e = subst (λ (m : ℕ). Follows x (record { year = x.year; month = m + 1; day = 1 })) (sym e) (into-march e k)

  -- the first of the next year
  year-over : month_days x.year x.month ≤ x.day → 12 ≤ x.month → Follows x (record { year = x.year + 1; month = 1; day = 1 })
  unfolding month_days
  year-over k m =
      let e : x.month ≡ 12 = omega (arith, f.to-twelve) in
      let d : x.day ≡ 31 = omega (arith, rw e at k, rw e at f.final) in
      same-year _ (record { from_one = lit≤ tt; to-twelve = lit≤ tt; first = lit≤ tt; final = lit≤ tt }) (rw e (omega arith)) (rw (e, d)) (not-the-gap k)

-- the date after is a date, and has the next serial number
pub next-counts : (x : Date) → Real x → Follows x (next x)
unfolding next
next-counts x r = one (same_date x last_julian) refl
  where
    month-on : Date
    month-on = record { year = x.year; month = x.month + 1; day = 1 }

    year-on : Date
    year-on = record { year = x.year + 1; month = 1; day = 1 }

    three : (t : Bool) → ltb x.month 12 ≡ t → month_days x.year x.month ≤ x.day → Follows x (cond t month-on year-on)
    three true e k = month-over x r k (ltb-true x.month 12 e)
    three false e k = year-over x r k (ltb-false x.month 12 e)

    not_last : same_date x last_julian ≡ false → stamp_of x ≡ last_julian_stamp → ⊥
    not_last n s =
        let o = october x r.fits (omega arith) (omega arith) in
        let q : x ≡ last_julian = same-date o.0 o.1.0 (omega arith) in
        false≢true (sym n ∙ rw q (same_self last_julian))

    two : (t : Bool) → ltb x.day (month_days x.year x.month) ≡ t → same_date x last_julian ≡ false → Follows x (cond t (record { year = x.year; month = x.month; day = x.day + 1 }) (cond (ltb x.month 12) month-on year-on))
    two true e n = in-the-month x r (not_last n) (ltb-true x.day (month_days x.year x.month) e)
    two false e n = three (ltb x.month 12) refl (ltb-false x.day (month_days x.year x.month) e)

    one : (t : Bool) → same_date x last_julian ≡ t → Follows x (cond t first_gregorian (cond (ltb x.day (month_days x.year x.month)) (record { year = x.year; month = x.month; day = x.day + 1 }) (cond (ltb x.month 12) month-on year-on)))
    one true e = over-the-gap x r (same_true x last_julian e)
    one false e = two (ltb x.day (month_days x.year x.month)) refl e

pub record DayIs (n : ℕ) (x : Date) : Type 0 where
  pub real : Real x
  pub counted : serial_of x ≡ n + epoch_serial

-- day n's date is a date, and has day n's serial number
pub date-counts : (n : ℕ) → DayIs n (date_on n)
unfolding date_on serial_of month_days
date-counts zero =
    record {
      real = record { fits = record { from_one = lit≤ tt; to-twelve = lit≤ tt; first = lit≤ tt; final = lit≤ tt }; kept = λ k. absurd (omega arith) };
      counted = refl;
    }
date-counts (suc n) =
    let d = date-counts n in
    let f = next-counts (date_on n) d.real in
    record { real = f.real; counted = step (serial_of (date_on n)) (serial_of (next (date_on n))) n f.counted d.counted }
  where
    step : (a b n : ℕ) → b ≡ a + 1 → a ≡ n + epoch_serial → b ≡ suc n + epoch_serial
    step a b n e f = omega arith
