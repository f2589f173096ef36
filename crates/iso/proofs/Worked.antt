-- The worked cases of L11: the ends of the days, what the two calendars make of 1582, and dates that are none or no
-- day's. By the count of days. Assumes nothing.
use mathlib.Core.Path.{◌≡◌, refl, ◌∙◌}
use Prim.Native.Nat.{ℕ}
use native.Mathlib.Omega.{arith}
use Rattle.std.specs.Prelude.{Ok, Err}
use Rattle.days.specs.declared.refusal.Refusal.TheVariants.{NoSuchDate, OutOfRange}
use Rattle.civil.specs.declared.Date.{Date}
use Rattle.civil.specs.Calendar.{leap, month_days}
use Rattle.iso.specs.Calendar.{iso_month_days, iso_exists, iso_on, iso_day_of}
use Rattle.iso.proofs.Later.{on-count}
use Rattle.iso.proofs.Laws.{too-early, no-such-date, iso-by-count}

abbrev date : ℕ → ℕ → ℕ → Date
date y m d = record { year = y; month = m; day = d }

-- the last day, and the day before the civil calendar is Gregorian
pub last-day : iso_on 401599 ≡ date 2619 10 13
unfolding iso_exists iso_month_days month_days leap
last-day = on-count 401599 (date 2619 10 13) (omega arith) refl refl

pub last-julian-day : iso_on 22844 ≡ date 1582 10 14
unfolding iso_exists iso_month_days month_days leap
last-julian-day = on-count 22844 (date 1582 10 14) (omega arith) refl refl

-- dates by their days, and the days of the years 1 and 9999 that there are
pub day-0 : iso_day_of (date 1520 3 29) ≡ Ok 0
unfolding iso_exists iso_month_days month_days leap
day-0 = iso-by-count (date 1520 3 29) (omega arith) ∙ refl

pub before-day-0 : iso_day_of (date 1520 3 28) ≡ Err OutOfRange
unfolding iso_exists iso_month_days month_days leap
before-day-0 = iso-by-count (date 1520 3 28) (omega arith) ∙ refl

pub lost-for-civil : iso_day_of (date 1582 10 10) ≡ Ok 22840
unfolding iso_exists iso_month_days month_days leap
lost-for-civil = iso-by-count (date 1582 10 10) (omega arith) ∙ refl

pub after_last : iso_day_of (date 2619 10 14) ≡ Err OutOfRange
unfolding iso_exists iso_month_days month_days leap
after_last = iso-by-count (date 2619 10 14) (omega arith) ∙ refl

pub last-of-9999 : iso_day_of (date 9999 12 31) ≡ Err OutOfRange
unfolding iso_exists iso_month_days month_days leap
last-of-9999 = iso-by-count (date 9999 12 31) (omega arith) ∙ refl

pub first-of-1 : iso_day_of (date 1 1 1) ≡ Err OutOfRange
unfolding iso_exists iso_month_days month_days leap
first-of-1 = too-early (date 1 1 1) (omega arith) refl

-- the year 0 is a leap year, and 1 is none
pub leap-day-of-0 : iso_day_of (date 0 2 29) ≡ Err OutOfRange
unfolding iso_exists iso_month_days month_days leap
leap-day-of-0 = too-early (date 0 2 29) (omega arith) refl

pub no-leap-day-of-1 : iso_day_of (date 1 2 29) ≡ Err NoSuchDate
unfolding iso_exists iso_month_days month_days leap
no-leap-day-of-1 = no-such-date (date 1 2 29) refl

pub no-leap-day-of-1500 : iso_day_of (date 1500 2 29) ≡ Err NoSuchDate
unfolding iso_exists iso_month_days month_days leap
no-leap-day-of-1500 = no-such-date (date 1500 2 29) refl
