-- A serial number read back: it tells its calendar, its year and the day in that year, and these its date; so each
-- serial number has one date.
-- Assumes nothing.
use mathlib.Core.Bool.{Bool, true, false}
use mathlib.Core.Path.{◌≡◌, refl, sym, ap, ◌∙◌, subst}
use Prim.Native.Nat.{ℕ, ◌+◌, ◌*◌, ◌-◌, ◌≤◌, ◌<◌}
use native.Mathlib.Omega.{arith}
use lib.Dec.{leb, ltb, eqb}
use borrow.Author.Tests.{ltb-true, ltb-false, eqb-true, eqb-false, le-leb, lt-leb}
use Rattle.civil.specs.declared.Date.{Date}
use Rattle.civil.specs.Calendar.{date_on}
use Rattle.civil.specs.Serial.{since_march, year_start, InYear, before, serial_of, epoch_serial, gregorian_serial, last_julian_stamp, first_gregorian_stamp}
use Rattle.civil.proofs.Years.{later-year, one-year}
use Rattle.civil.proofs.Months.{month_at}
use Rattle.civil.proofs.Dates.{Fits, Real, year_of, day_of, stamp_of, placed, months, year-long}
use Rattle.civil.proofs.Next.{same-date, calendar, keeps, DayIs, date-counts}

serial-is : (x : Date) → serial_of x ≡ year_start (calendar x) (year_of x) + day_of x
unfolding serial_of
serial-is x = refl

module _ (x : Date) (r : Real x) where
  -- the serial number tells the calendar
  pub tells-calendar : calendar x ≡ leb gregorian_serial (serial_of x)
  unfolding serial_of
  tells-calendar = go (calendar x) refl
    where
      long : day_of x < 366
      long = year-long x r.fits

      early : (s u n : ℕ) → n < 366 → 400 * u + n ≤ last_julian_stamp → s + 364 * (1982 - u) ≤ 723925 → s + n < gregorian_serial
      early s u n l k h = omega arith

      late : (s u n : ℕ) → n < 366 → first_gregorian_stamp ≤ 400 * u + n → 723915 + 364 * (u - 1982) ≤ s → gregorian_serial ≤ s + n
      late s u n l k h = omega arith

      go : (g : Bool) → calendar x ≡ g → g ≡ leb gregorian_serial (year_start g (year_of x) + day_of x)
      go true e =
          let k : first_gregorian_stamp ≤ stamp_of x = r.kept (ltb-true last_julian_stamp (stamp_of x) e) in
          sym (le-leb gregorian_serial _ (late (year_start true (year_of x)) (year_of x) (day_of x) long k (later-year true 1982 (year_of x) (omega (arith, long)))))
      go false e =
          let k : stamp_of x ≤ last_julian_stamp = ltb-false last_julian_stamp (stamp_of x) e in
          sym (lt-leb gregorian_serial _ (early (year_start false (year_of x)) (year_of x) (day_of x) long k (later-year false (year_of x) 1982 (omega arith))))

  -- the date lies in its year
  in-year : InYear (calendar x) (serial_of x) (year_of x)
  unfolding serial_of
  in-year = record { from = omega arith; until = go (eqb x.month 2) refl }
    where
      go : (t : Bool) → eqb x.month 2 ≡ t → year_start (calendar x) (year_of x) + day_of x < year_start (calendar x) (year_of x + 1)
      go true e =
          let y : year_of x ≡ x.year + 399 = rw (eqb-true x.month 2 e) in
          let z : year_of x + 1 ≡ x.year + 400 = omega arith in
          omega (arith, keeps x r, (placed x r.fits).inside, ap (year_start (calendar x)) y, ap (year_start (calendar x)) z)
      go false e = omega (arith, (placed x r.fits).other (eqb-false x.month 2 e), later-year (calendar x) (year_of x) (year_of x + 1) (omega arith))

-- what the day n of the year u, in the month k, tells of its date; all counted from March
pub record Read (x : Date) (u n k : ℕ) : Type 0 where
  pub month-small : k < 12
  pub low : before k ≤ n
  pub spring : k < 10 → (400 ≤ u) × (x ≡ record { year = u - 400; month = k + 3; day = n - before k + 1 })
  pub winter : 10 ≤ k → (399 ≤ u) × (x ≡ record { year = u - 399; month = k - 9; day = n - before k + 1 })

read_back : (x : Date) → Fits x → Read x (year_of x) (day_of x) (month_at (day_of x))
read_back x f = subst (Read x (year_of x) (day_of x)) (sym (placed x f).found) parts
  where
    m : 12 * year_of x + since_march x.month + 3 ≡ 12 * (x.year + 400) + x.month
    m = months x f

    day : x.day ≡ day_of x - before (since_march x.month) + 1
    day = omega (arith, f.first)

    parts : Read x (year_of x) (day_of x) (since_march x.month)
    parts =
        record {
          month-small = omega arith;
          low = omega arith;
          spring = λ k. (omega (arith, m), same-date (omega (arith, m, f.from_one, f.to-twelve)) (omega (arith, f.from_one, f.to-twelve)) day);
          winter = λ k. (omega (arith, m), same-date (omega (arith, m, f.from_one, f.to-twelve)) (omega (arith, f.from_one, f.to-twelve)) day);
        }

-- a date's serial number, the year that it falls in and the day in that year give the date
pub read-serial : (x : Date) → Real x → (u n : ℕ) → InYear (leb gregorian_serial (serial_of x)) (serial_of x) u → n ≡ serial_of x - year_start (leb gregorian_serial (serial_of x)) u → Read x u n (month_at n)
read-serial x r u n i e =
    let g = tells-calendar x r in
    let y : u ≡ year_of x = one-year (calendar x) (serial_of x) u (year_of x) (subst (λ (b : Bool). InYear b (serial_of x) u) (sym g) i) (in-year x r) in
    let d : n ≡ day_of x = e ∙ ap (λ (b : Bool). serial_of x - year_start b u) (sym g) ∙ ap (λ (v : ℕ). serial_of x - year_start (calendar x) v) y ∙ less _ (day_of x) (serial_of x) is in
    rw (y, d) (read_back x r.fits)
  where
    is : serial_of x ≡ year_start (calendar x) (year_of x) + day_of x
    is = serial-is x

    less : (a b s : ℕ) → s ≡ a + b → s - a ≡ b
    less a b s e = omega arith

-- one date for a serial number
one-date : (x z : Date) → Real x → Real z → serial_of x ≡ serial_of z → x ≡ z
one-date x z r q e = go (ltb (month_at n) 10) refl
  where
    g : Bool
    g = leb gregorian_serial (serial_of x)

    n : ℕ
    n = serial_of x - year_start g (year_of x)

    i : InYear g (serial_of x) (year_of x)
    i = subst (λ (b : Bool). InYear b (serial_of x) (year_of x)) (tells-calendar x r) (in-year x r)

    a : Read x (year_of x) n (month_at n)
    a = read-serial x r (year_of x) n i refl

    b : Read z (year_of x) n (month_at n)
    b = read-serial z q (year_of x) n (subst (λ (s : ℕ). InYear (leb gregorian_serial s) s (year_of x)) e i) (ap (λ (s : ℕ). s - year_start (leb gregorian_serial s) (year_of x)) e)

    go : (t : Bool) → ltb (month_at n) 10 ≡ t → x ≡ z
    go true h = let k = ltb-true (month_at n) 10 h in (a.spring k).1 ∙ sym (b.spring k).1
    go false h = let k = ltb-false (month_at n) 10 h in (a.winter k).1 ∙ sym (b.winter k).1

-- a date that counts n is day n's date
pub is-date-on : (n : ℕ) (x : Date) → DayIs n x → x ≡ date_on n
is-date-on n x d = let o = date-counts n in one-date x (date_on n) d.real o.real (d.counted ∙ sym o.counted)

-- the same for day d
pub read-day : (d u n : ℕ) → InYear (leb gregorian_serial (d + epoch_serial)) (d + epoch_serial) u → n ≡ d + epoch_serial - year_start (leb gregorian_serial (d + epoch_serial)) u → Read (date_on d) u n (month_at n)
read-day d u n i e =
    let o = date-counts d in
    read-serial (date_on d) o.real u n
    (subst (λ (s : ℕ). InYear (leb gregorian_serial s) s u) (sym o.counted) i)
    (e ∙ ap (λ (s : ℕ). s - year_start (leb gregorian_serial s) u) (sym o.counted))
