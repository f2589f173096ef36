-- What a line names a day by, for a number that is a day's; and that it is short: the numbers of a date have few
-- digits, since a year grows by at most one from date to date, and a month and a day within it are bounded by the
-- calendar. Assumes nothing.
use mathlib.Core.Path.{◌≡◌, refl, ap, ◌∙◌}
use mathlib.Core.Bool.{Bool, true, false, cond, ◌&&◌, and-eq-true_iff}
use mathlib.Core.List.{List, [], ◌∷◌, ◌++◌, append_assoc}
use Prim.Native.Nat.{ℕ, zero, suc, ◌+◌, ◌-◌, ◌/◌, ◌%◌, ◌^◌, ◌≤◌, ◌<◌}
use native.Mathlib.Nat.{add-suc}
use native.Mathlib.Omega.{arith}
use lib.Dec.{ltb, leb, eqb}
use lib.ListN.{length, length-append, get_or}
use borrow.Author.Tests.{ltb-true, leb-true, le-leb}
use Rattle.civil.specs.declared.Date.{Date}
use Rattle.civil.specs.Calendar.{lengths, leap, month_days, same_date, last_julian, first_gregorian, next, date_on}
use Rattle.civil.specs.Answers.{date_of_day, date_or_zeros}
use Rattle.std.specs.Result.{result_unwrap_or}
use Rattle.days.specs.Days.{last_day, weekday_on, weekday_at, weekday_of, pair_at}
use Rattle.days.proofs.Laws.{pair-in-range, given, count-pair}
use Rattle.text.specs.Ascii.{ascii}
use Rattle.names.specs.Columns.{blanks, aligned}
use Rattle.text.specs.Decimal.{digit_byte, digits_of}
use Rattle.text.specs.declared.Line.{Line}
use Rattle.text.specs.Lines.{space, empty_line, with_byte, with_bytes}
use Rattle.text.proofs.Holding.{holds, holds-length}
use Rattle.text.proofs.Lines.{with-byte-is, with-bytes-append}
use Rattle.text.proofs.Printing.{digits-length, digits-some}
use Rattle.words.specs.Names.{weekday_names}
use Rattle.words.specs.Words.{dash, name_at}
use Rattle.words.proofs.Names.{no_longer, name-length}
use Rattle.dated.specs.Dated.{two_digits, four_digits, date_bytes, full_date_bytes, day_bytes, named_day_bytes, angle_bytes}

-- ---- what is named
pub day-bytes : (n : ℕ) → n ≤ last_day → day_bytes n ≡ digits_of n ++ (ascii " " ++ date_bytes (date_on n))
unfolding day_bytes date_of_day
day-bytes n h = rw (le-leb n last_day h)

pub named-day-bytes :
    (n : ℕ) → n ≤ last_day → named_day_bytes n ≡ digits_of n ++ (ascii " " ++ (date_bytes (date_on n) ++ (ascii " " ++ name_at weekday_names (weekday_on n))))
unfolding named_day_bytes
named-day-bytes n h = rw (day-bytes n h, given weekday_at (pair_at n) (pair-in-range n h), count-pair n) (simp append_assoc)

pub named-made :
    (l : Line) (n weekday : ℕ) (name : List ℕ) →
    weekday ≡ result_unwrap_or (weekday_of (pair_at n)) 0 →
    name ≡ name_at weekday_names weekday →
    with_bytes (with_byte (with_bytes l (day_bytes n)) space) name ≡ with_bytes l (named_day_bytes n)
unfolding named_day_bytes
named-made l n weekday name ew en = rw (en, ew) (put-together (day_bytes n) (name_at weekday_names (result_unwrap_or (weekday_of (pair_at n)) 0)))
  where
    put-together : (day name : List ℕ) → with_bytes (with_byte (with_bytes l day) space) name ≡ with_bytes l (day ++ (space ∷ name))
    put-together day name = simp (with-byte-is, with-bytes-append, append_assoc)

-- ---- what a table has: a year is put as two times two digits
year-digits : (n : ℕ) → two_digits (n / 100) ++ two_digits n ≡ four_digits n
year-digits n =
    let thousands : n / 100 / 10 % 10 ≡ n / 1000 % 10 = omega arith in
    ap (λ (d : ℕ). digit_byte d ∷ digit_byte (n / 100 % 10) ∷ two_digits n) thousands

pub full-date-made :
    (l : Line) (x : Date) →
    with_bytes (with_byte (with_bytes (with_byte (with_bytes (with_bytes l (two_digits (x.year / 100))) (two_digits x.year)) dash) (two_digits x.month)) dash) (two_digits x.day)
    ≡ with_bytes l (full_date_bytes x)
unfolding full_date_bytes
full-date-made l x =
    put-together (two_digits (x.year / 100)) (two_digits x.year) (two_digits x.month) (two_digits x.day)
    ∙ ap (λ (y : List ℕ). with_bytes l (y ++ (dash ∷ two_digits x.month ++ (dash ∷ two_digits x.day)))) (year-digits x.year)
  where
    put-together : (a b c d : List ℕ) → with_bytes (with_byte (with_bytes (with_byte (with_bytes (with_bytes l a) b) dash) c) dash) d ≡ with_bytes l ((a ++ b) ++ (dash ∷ c ++ (dash ∷ d)))
    put-together a b c d = simp (with-byte-is, with-bytes-append, append_assoc)

-- a number is as long as it is on a line of its own
pub aligned-made :
    (l m e : Line) (n width : ℕ) →
    n < 4294967296 →
    e ≡ empty_line →
    m ≡ with_bytes e (digits_of n) →
    with_bytes (with_bytes l (blanks m.len width)) (digits_of n) ≡ with_bytes l (aligned width (digits_of n))
unfolding aligned
aligned-made l m e n width h en em =
    let held = holds m (digits_of n) (omega (arith, digits-length 9 n (omega arith))) (rw (← en) em) in
    rw (holds-length held) (with-bytes-append l (blanks (length (digits_of n)) width) (digits_of n))

-- ---- how long it is
pub full-date-length : (x : Date) → length (full_date_bytes x) ≡ 10
unfolding full_date_bytes
full-date-length x = refl

month-short : (y m : ℕ) → month_days y m ≤ 32
unfolding month_days
month-short y m = go (eqb m 2 && leap y) (entry lengths refl (m - 1))
  where
    no_more : List ℕ → Bool
    no_more [] = true
    no_more (n ∷ ns) = leb n 31 && no_more ns

    entry : (ns : List ℕ) → no_more ns ≡ true → (k : ℕ) → get_or ns k 0 ≤ 31
    entry [] e k = omega arith
    entry (n ∷ ns) e zero = leb-true n 31 ((and-eq-true_iff (leb n 31) (no_more ns)).0 e).0
    entry (n ∷ ns) e (suc k) = entry ns ((and-eq-true_iff (leb n 31) (no_more ns)).0 e).1 k

    go : (b : Bool) → get_or lengths (m - 1) 0 ≤ 31 → get_or lengths (m - 1) 0 + cond b 1 0 ≤ 32
    go true h = omega arith
    go false h = omega arith

record Small (most : ℕ) (x : Date) : Type 0 where
  year : x.year ≤ most
  month : x.month ≤ 12
  day : x.day ≤ 32

next_small : (most : ℕ) (x : Date) → 1582 ≤ most → Small most x → Small (suc most) (next x)
unfolding next
next_small most x h s = go (same_date x last_julian) (ltb x.day (month_days x.year x.month)) (ltb x.month 12) refl refl
  where
    go :
        (a b c : Bool) →
        ltb x.day (month_days x.year x.month) ≡ b →
        ltb x.month 12 ≡ c →
        Small (suc most)
        (cond a first_gregorian
        (cond b (record { year = x.year; month = x.month; day = x.day + 1 })
        (cond c (record { year = x.year; month = x.month + 1; day = 1 }) (record { year = x.year + 1; month = 1; day = 1 }))))
    go true b c e f = omega arith
    go false true c e f = omega (arith, s.year, s.month, ltb-true x.day (month_days x.year x.month) e, month-short x.year x.month)
    go false false true e f = omega (arith, s.year, ltb-true x.month 12 f)
    go false false false e f = omega (arith, s.year)

date-small : (n : ℕ) → Small (1582 + n) (date_on n)
unfolding date_on
date-small zero = omega arith
date-small (suc n) = rw (add-suc 1582 n) (next_small (1582 + n) (date_on n) (omega arith) (date-small n))

pub date-short : (n : ℕ) → n ≤ last_day → length (date_bytes (date_or_zeros n)) ≤ 12
unfolding date_bytes date_of_day
date-short n h =
    let s = date-small n in
    let year = digits-length 5 (date_on n).year (omega (arith, s.year)) in
    let month = digits-length 1 (date_on n).month (omega (arith, s.month)) in
    let day = digits-length 1 (date_on n).day (omega (arith, s.day)) in
    rw (le-leb n last_day h) (simp length-append (omega arith))

pub day-short : (n : ℕ) → n ≤ last_day → length (day_bytes n) ≤ 19
unfolding day_bytes
day-short n h = simp length-append (omega (arith, digits-length 5 n (omega arith), date-short n h))

name-short : (w : ℕ) → length (name_at weekday_names w) ≤ 9
unfolding no_longer
name-short w = name-length 9 weekday_names refl w

pub named-day-short : (n : ℕ) → n ≤ last_day → length (named_day_bytes n) ≤ 29
unfolding named_day_bytes
named-day-short n h = simp length-append (omega (arith, day-short n h, name-short (result_unwrap_or (weekday_of (pair_at n)) 0)))

pub named-day-some : (n : ℕ) → 1 ≤ length (named_day_bytes n)
unfolding named_day_bytes day_bytes
named-day-some n = simp length-append (omega (arith, digits-some n))

-- an angle of at most so many digits in its degrees
pub angle-digits : (k seconds : ℕ) → seconds / 3600 < 10 ^ suc k → length (angle_bytes seconds) ≤ suc k + 6
unfolding angle_bytes
angle-digits k seconds h =
    let degrees = digits-length k (seconds / 3600) h in
    let minutes = digits-length 1 (seconds / 60 % 60) (omega arith) in
    let rest = digits-length 1 (seconds % 60) (omega arith) in
    simp length-append (omega arith)

-- and one of at most a circle
pub angle-short : (seconds : ℕ) → seconds ≤ 1296000 → length (angle_bytes seconds) ≤ 9
angle-short seconds h = angle-digits 2 seconds (omega arith)
