-- The laws of ISO dates: day and date are each other's, refusals are given exactly where they are due, and beside the
-- civil date of a day stands its ISO
-- date, the same from 15 October 1582 on. By the count of days, which the Gregorian rule gives for each. Assumes
-- nothing.
use mathlib.Core.Bool.{Bool, true, false, cond, ◌&&◌, and-eq-true_iff}
use mathlib.Core.Path.{◌≡◌, refl, sym, ap, ◌∙◌}
use Prim.Native.Nat.{ℕ, suc, ◌+◌, ◌*◌, ◌-◌, ◌≤◌, ◌<◌}
use native.Mathlib.Omega.{arith}
use lib.Dec.{leb}
use borrow.Author.Tests.{leb-true, leb-false, le-leb, lt-leb, ltb-true}
use Rattle.std.specs.Prelude.{Result, Ok, Err}
use Rattle.days.specs.declared.refusal.Refusal.{Refusal}
use Rattle.days.specs.declared.refusal.Refusal.TheVariants.{NoSuchDate, OutOfRange}
use Rattle.days.specs.Days.{last_day, pair_at, julian_day_of}
use Rattle.civil.specs.declared.Date.{Date}
use Rattle.civil.specs.Calendar.{month_days, date_exists, date_on}
use Rattle.civil.specs.Answers.{day_of_date}
use Rattle.civil.specs.Serial.{serial_of, serial_start, epoch_serial, gregorian_serial, last_julian_stamp}
use Rattle.civil.proofs.Years.{later-year}
use Rattle.civil.proofs.Dates.{real_of, stamp_of, placed, months, year-long, year_of}
use Rattle.civil.proofs.Next.{calendar, date-counts}
use Rattle.civil.proofs.Read.{tells-calendar}
use Rattle.civil.proofs.Laws.{one-day, found, absent, counted, by_count, date-exists, julian-day}
use Rattle.iso.specs.Calendar.{iso_month_days, iso_exists, iso_next, iso_on, iso_day_of, iso_date_of}
use Rattle.iso.proofs.Later.{round_days, later, gregorian_leap, leap-late, leap-round, exists-round, exists-kept, exists-later, on-next, year-low, on-later, late-calendar, gregorian_count, count-gregorian, serial-later, on-count}

-- leap years are those divisible by 4, without the centuries not divisible by 400: in every year, 0 included
pub iso-february : (y : ℕ) → iso_month_days y 2 ≡ 28 + cond (gregorian_leap y) 1 0
unfolding iso_month_days month_days
iso-february y = rw (leap-late (y + 1600) (omega arith), leap-round (y + 1600) y (omega arith))

-- each day's date exists, and two days have two dates
pub iso-exists : (n : ℕ) → iso_exists (iso_on n) ≡ true
iso-exists n = sym (exists-later (iso_on n) (omega (arith, year-low n))) ∙ ap date_exists (sym (on-later n)) ∙ date-exists (n + round_days)

pub iso-one-day : (m n : ℕ) → iso_on m ≡ iso_on n → m ≡ n
iso-one-day m n e = omega (arith, one-day (m + round_days) (n + round_days) (on-later m ∙ ap later e ∙ sym (on-later n)))

-- by the Gregorian rule the date of day n counts n days from day 0's
pub iso-counts : (n : ℕ) → gregorian_count (iso_on n) ≡ n + epoch_serial
iso-counts n = omega (arith, serial-later (iso_on n) (omega (arith, year-low n)), ap serial_of (on-later n), (date-counts (n + round_days)).counted)

-- the two dates of a day are one Julian Day: the ISO date by the Gregorian rule, the civil date by its calendar's
pub same-julian-day : (n : ℕ) → gregorian_count (iso_on n) ≡ serial_of (date_on n)
same-julian-day n = iso-counts n ∙ sym (date-counts n).counted

pub iso-julian-day : (n : ℕ) → n ≤ last_day → julian_day_of (pair_at n) ≡ Ok (serial_start + gregorian_count (iso_on n))
iso-julian-day n h = julian-day n h ∙ ap (λ (s : ℕ). Ok (serial_start + s)) (sym (same-julian-day n))

-- the three answers
pub no-such-date : (x : Date) → iso_exists x ≡ false → iso_day_of x ≡ Err NoSuchDate
unfolding iso_day_of
no-such-date x e = rw e

the-day : (x : Date) (n : ℕ) → n ≤ last_day → iso_on n ≡ x → iso_day_of x ≡ Ok n
unfolding iso_day_of iso_on
the-day x n h e =
    let z : 0 + n ≡ n = omega arith in
    rw (← e, iso-exists n) (rw z at (found iso_next iso_on on-next iso-one-day (suc last_day) 0 n (omega arith)))

pub outside : (x : Date) → iso_exists x ≡ true → ((n : ℕ) → n ≤ last_day → iso_on n ≡ x → ⊥) → iso_day_of x ≡ Err OutOfRange
unfolding iso_day_of iso_on
outside x e h = rw e (absent iso_next iso_on on-next iso-one-day (suc last_day) 0 x (λ m l. h m (omega arith)))

-- no date is before that of day 0's year
pub too-early : (x : Date) → x.year < 1520 → iso_exists x ≡ true → iso_day_of x ≡ Err OutOfRange
too-early x h e = outside x e (λ n k i. omega (arith, year-low n, ap (λ (d : Date). d.year) i))

-- the day of a date by the count of days, which computes at once
abbrev pub iso_counted : Bool → ℕ → Result ℕ Refusal
iso_counted exists count =
    cond exists
    (cond (leb epoch_serial count && leb (count - epoch_serial) last_day) (Ok (count - epoch_serial)) (Err OutOfRange))
    (Err NoSuchDate)

pub iso-by-count : (x : Date) → 1182 < x.year → iso_day_of x ≡ iso_counted (iso_exists x) (gregorian_count x)
iso-by-count x y = one (iso_exists x) refl
  where
    three : iso_exists x ≡ true → epoch_serial ≤ gregorian_count x → (t : Bool) → leb (gregorian_count x - epoch_serial) last_day ≡ t → iso_day_of x ≡ cond t (Ok (gregorian_count x - epoch_serial)) (Err OutOfRange)
    three e h true l = the-day x (gregorian_count x - epoch_serial) (leb-true _ _ l) (on-count _ x y e (omega arith))
    three e h false l = outside x e (λ n k i. omega (arith, iso-counts n, ap gregorian_count i, leb-false (gregorian_count x - epoch_serial) last_day l))

    two : iso_exists x ≡ true → (t : Bool) → leb epoch_serial (gregorian_count x) ≡ t → iso_day_of x ≡ cond (t && leb (gregorian_count x - epoch_serial) last_day) (Ok (gregorian_count x - epoch_serial)) (Err OutOfRange)
    two e true l = three e (leb-true epoch_serial (gregorian_count x) l) (leb (gregorian_count x - epoch_serial) last_day) refl
    two e false l = outside x e (λ n k i. omega (arith, iso-counts n, ap gregorian_count i, leb-false epoch_serial (gregorian_count x) l))

    one : (t : Bool) → iso_exists x ≡ t → iso_day_of x ≡ iso_counted t (gregorian_count x)
    one true e = two e (leb epoch_serial (gregorian_count x)) refl
    one false e = no-such-date x e

-- after 1582 the day of an ISO date is the day of the civil date
pub late-day : (x : Date) → 1582 < x.year → iso_day_of x ≡ day_of_date x
unfolding counted
late-day x h =
    iso-by-count x (omega arith)
    ∙ rw (← exists-round x x.year h refl, ← count-gregorian x (late-calendar x h)) (sym (by_count x))

-- the day of the date of n is n
pub iso-day-of-date : (n : ℕ) → n ≤ last_day → iso_day_of (iso_on n) ≡ Ok n
iso-day-of-date n h = the-day (iso_on n) n h refl

-- the date of the day of a date is that date: so each day has one date, and the date comes back
pub iso-date-of-day : (x : Date) (n : ℕ) → iso_day_of x ≡ Ok n → iso_date_of n ≡ Ok x
unfolding iso_date_of
iso-date-of-day x n e = one (iso_exists x) refl
  where
    refused : (r : Refusal) → iso_day_of x ≡ Err r → cond (leb n last_day) (Ok (iso_on n)) (Err OutOfRange) ≡ Ok x
    refused r k = absurd (cc (sym k ∙ e))

    given : iso_exists x ≡ true → 1182 < x.year → (t : Bool) → (leb epoch_serial (gregorian_count x) && leb (gregorian_count x - epoch_serial) last_day) ≡ t → iso_day_of x ≡ cond t (Ok (gregorian_count x - epoch_serial)) (Err OutOfRange) → cond (leb n last_day) (Ok (iso_on n)) (Err OutOfRange) ≡ Ok x
    given i y false k a = refused OutOfRange a
    given i y true k a =
        let b = (and-eq-true_iff (leb epoch_serial (gregorian_count x)) (leb (gregorian_count x - epoch_serial) last_day)).0 k in
        let z : gregorian_count x - epoch_serial ≡ n = cc (sym a ∙ e) in
        let low = leb-true epoch_serial (gregorian_count x) b.0 in
        let high = leb-true (gregorian_count x - epoch_serial) last_day b.1 in
        rw (le-leb n last_day (omega arith)) (ap Ok (on-count n x y i (omega arith)))

    two : iso_exists x ≡ true → (t : Bool) → leb 1520 x.year ≡ t → cond (leb n last_day) (Ok (iso_on n)) (Err OutOfRange) ≡ Ok x
    two i true k =
        let y : 1182 < x.year = omega (arith, leb-true 1520 x.year k) in
        given i y _ refl (iso-by-count x y ∙ rw i)
    two i false k = refused OutOfRange (too-early x (leb-false 1520 x.year k) i)

    one : (t : Bool) → iso_exists x ≡ t → cond (leb n last_day) (Ok (iso_on n)) (Err OutOfRange) ≡ Ok x
    one true i = two i (leb 1520 x.year) refl
    one false i = refused NoSuchDate (no-such-date x i)

-- from 15 October 1582 on the ISO date is the civil date, number for number
pub from-gregorian : (n : ℕ) → 22845 ≤ n → iso_on n ≡ date_on n
from-gregorian n h =
    let d = date-counts n in
    let g : calendar (date_on n) ≡ true = tells-calendar (date_on n) d.real ∙ rw d.counted (le-leb gregorian_serial (n + epoch_serial) (omega arith)) in
    let y : 1582 ≤ (date_on n).year = late g in
    on-count n (date_on n) (omega arith) (exists-kept (date_on n) y (date-exists n)) (sym (count-gregorian (date_on n) g) ∙ d.counted)
  where
    late : calendar (date_on n) ≡ true → 1582 ≤ (date_on n).year
    late g =
        let f = (date-counts n).real.fits in
        omega (arith, ltb-true last_julian_stamp (stamp_of (date_on n)) g, months (date_on n) f, year-long (date_on n) f, f)

-- what the civil day of the date 400 years later says of a date of the years 1520 to 1582
module _ (x : Date) (low : 1520 ≤ x.year) (high : x.year ≤ 1582) where
  -- by the count of days it is in range
  counts : iso_exists x ≡ true → (epoch_serial ≤ gregorian_count x + round_days) × (gregorian_count x + round_days - epoch_serial ≤ last_day)
  counts i =
      let f = (real_of (later x) (exists-later x (omega arith) ∙ i)).fits in
      let m = months (later x) f in
      let l = year-long (later x) f in
      omega (arith, later-year true 1919 (year_of x) (omega (arith, f)), later-year true (year_of x) 1982 (omega (arith, f)))

  told : day_of_date (later x) ≡ cond (iso_exists x) (Ok (gregorian_count x + round_days - epoch_serial)) (Err NoSuchDate)
  unfolding counted
  told = by_count (later x) ∙ rw (exists-later x (omega arith), serial-later x (omega arith)) (go (iso_exists x) refl)
    where
      go : (t : Bool) → iso_exists x ≡ t → iso_counted t (gregorian_count x + round_days) ≡ cond t (Ok (gregorian_count x + round_days - epoch_serial)) (Err NoSuchDate)
      go false i = refl
      go true i = let b = counts i in rw (le-leb _ _ b.0, le-leb _ _ b.1)

  pub later-refused : {r : Refusal} → Err r ≡ day_of_date (later x) → Err r ≡ iso_day_of x
  later-refused {r} e = go (iso_exists x) refl (e ∙ told)
    where
      go : (t : Bool) → iso_exists x ≡ t → Err r ≡ cond t (Ok (gregorian_count x + round_days - epoch_serial)) (Err NoSuchDate) → Err r ≡ iso_day_of x
      go true i k = absurd cc
      go false i k = k ∙ sym (no-such-date x i)

  -- one that is no refusal has the number
  number : {n : ℕ} → Ok n ≡ day_of_date (later x) → (iso_exists x ≡ true) × (n ≡ gregorian_count x + round_days - epoch_serial)
  number {n} e = go (iso_exists x) refl (e ∙ told)
    where
      go : (t : Bool) → iso_exists x ≡ t → Ok n ≡ cond t (Ok (gregorian_count x + round_days - epoch_serial)) (Err NoSuchDate) → (iso_exists x ≡ true) × (n ≡ gregorian_count x + round_days - epoch_serial)
      go true i k = (i, cc)
      go false i k = absurd cc

  pub later-early : {n : ℕ} → Ok n ≡ day_of_date (later x) → n < round_days → Err OutOfRange ≡ iso_day_of x
  later-early e h =
      let n = number e in
      let b = counts n.0 in
      sym (iso-by-count x (omega arith) ∙ rw (n.0, lt-leb epoch_serial (gregorian_count x) (omega (arith, n.1))))

  pub later-day : {n : ℕ} → Ok n ≡ day_of_date (later x) → round_days ≤ n → Ok (n - round_days) ≡ iso_day_of x
  later-day {n} e h =
      let m = number e in
      let b = counts m.0 in
      let d : n - round_days ≡ gregorian_count x - epoch_serial = omega (arith, m.1) in
      rw d (sym (iso-by-count x (omega arith) ∙ rw (m.0, le-leb epoch_serial (gregorian_count x) (omega (arith, m.1)), le-leb (gregorian_count x - epoch_serial) last_day (omega arith))))

-- the numbers of a day's date are small
pub iso-small : (n : ℕ) → n ≤ last_day → ((iso_on n).year < 10000) × (((iso_on n).month < 100) × ((iso_on n).day < 100))
iso-small n h =
    let x = iso_on n in
    let f = (real_of (later x) (exists-later x (omega (arith, year-low n)) ∙ iso-exists n)).fits in
    let u : 364 * year_of x ≤ n + epoch_serial = omega (arith, later-year true 0 (year_of x) (omega arith), iso-counts n) in
    let y : year_of x + 400 ≡ year_of (later x) = omega arith in
    (omega (arith, months (later x) f, f.to-twelve), (omega (arith, f.to-twelve), omega (arith, (placed (later x) f).small)))

-- the day of a date is a day
pub iso-low : (x : Date) {n : ℕ} → Ok n ≡ iso_day_of x → n ≤ last_day
iso-low x {n} e = go (leb n last_day) refl (iso-date-of-day x n (sym e))
  where
    go : (t : Bool) → leb n last_day ≡ t → iso_date_of n ≡ Ok x → n ≤ last_day
    go true h r = leb-true _ _ h
    go false h r =
        let none : iso_date_of n ≡ Err OutOfRange = unfold iso_date_of in rw h in
        absurd (cc (sym none ∙ r))
