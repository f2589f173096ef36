-- The laws of the answers: day and date are each other's, refusals are given exactly where they are due, and the search
-- from date to date is the count of days.
-- Assumes nothing.
use mathlib.Core.Bool.{Bool, true, false, cond, ◌&&◌}
use mathlib.Core.Path.{◌≡◌, refl, sym, ap, ◌∙◌, subst}
use Prim.Native.Nat.{ℕ, zero, suc, ◌+◌, ◌-◌, ◌≤◌, ◌<◌}
use native.Mathlib.Numerals.{add-one}
use native.Mathlib.Omega.{arith}
use lib.Dec.{leb}
use borrow.Author.Tests.{leb-true, leb-false, le-leb}
use Rattle.std.specs.Prelude.{Result, Ok, Err}
use Rattle.days.specs.declared.refusal.Refusal.{Refusal}
use Rattle.days.specs.declared.refusal.Refusal.TheVariants.{NoSuchDate, OutOfRange}
use Rattle.days.specs.Days.{last_day, pair_at, julian_day_of}
use Rattle.days.proofs.Laws.{given, pair-in-range, count-pair}
use Rattle.civil.specs.declared.Date.{Date}
use Rattle.civil.specs.Calendar.{last_julian, first_gregorian, date_exists, same_date, next, date_on}
use Rattle.civil.specs.Answers.{day_from, day_of_date, date_of_day}
use Rattle.civil.specs.Serial.{serial_of, serial_start, epoch_serial}
use Rattle.civil.proofs.Dates.{real_of, is_real}
use Rattle.civil.proofs.Next.{same_true, same_self, date-counts}
use Rattle.civil.proofs.Read.{is-date-on}

-- after day n's date comes the next day's
pub date-after : (n : ℕ) → date_on (n + 1) ≡ next (date_on n)
unfolding date_on
date-after n = rw (add-one n)

pub after-last-julian : next last_julian ≡ first_gregorian
unfolding next same_date
after-last-julian = refl

-- each day's date exists
pub date-exists : (n : ℕ) → date_exists (date_on n) ≡ true
date-exists n = is_real (date_on n) (date-counts n).real

-- a date's serial number is the Julian Day Number of its day, counted from serial number 0
pub julian-day : (n : ℕ) → n ≤ last_day → julian_day_of (pair_at n) ≡ Ok (serial_start + serial_of (date_on n))
julian-day n h = given _ (pair_at n) (pair-in-range n h) ∙ ap Ok (omega (arith, (date-counts n).counted, count-pair n))

-- two days have two dates
pub one-day : (m n : ℕ) → date_on m ≡ date_on n → m ≡ n
one-day m n e = omega (arith, (date-counts m).counted, (date-counts n).counted, ap serial_of e)

-- the search from date to date, in any calendar that gives two days two dates: it finds the day that has the date, and
-- else none
module _
    (follow : Date → Date)
    (on : ℕ → Date)
    (step : (n : ℕ) → on (suc n) ≡ follow (on n))
    (one : (m n : ℕ) → on m ≡ on n → m ≡ n)
  where
    pub found : (k n j : ℕ) → j < k → day_from follow k n (on n) (on (n + j)) ≡ Ok (n + j)
    unfolding day_from
    found zero n j h = absurd (omega arith)
    found (suc k) n zero h =
        let e : n + 0 ≡ n = omega arith in
        rw (e, same_self (on n))
    found (suc k) n (suc j) h = go (same_date (on n) (on (n + suc j))) refl (rw (e, step n) at (found k (suc n) j (omega arith)))
      where
        e : suc n + j ≡ n + suc j
        e = omega arith

        go : (t : Bool) → same_date (on n) (on (n + suc j)) ≡ t → day_from follow k (suc n) (follow (on n)) (on (n + suc j)) ≡ Ok (n + suc j) → cond t (Ok n) (day_from follow k (suc n) (follow (on n)) (on (n + suc j))) ≡ Ok (n + suc j)
        go true s r = absurd (omega (arith, one n (n + suc j) (same_true (on n) (on (n + suc j)) s)))
        go false s r = r

    pub absent : (k n : ℕ) (x : Date) → ((m : ℕ) → m < n + k → on m ≡ x → ⊥) → day_from follow k n (on n) x ≡ Err OutOfRange
    unfolding day_from
    absent zero n x h = refl
    absent (suc k) n x h = go (same_date (on n) x) refl (rw (step n) at (absent k (suc n) x (λ m l. h m (omega arith))))
      where
        go : (t : Bool) → same_date (on n) x ≡ t → day_from follow k (suc n) (follow (on n)) x ≡ Err OutOfRange → cond t (Ok n) (day_from follow k (suc n) (follow (on n)) x) ≡ Err OutOfRange
        go true s r = absurd (h n (omega arith) (same_true (on n) x s))
        go false s r = r

next-date : (n : ℕ) → date_on (suc n) ≡ next (date_on n)
unfolding date_on
next-date n = refl

-- what the day of a date is: each answer exactly where it is due
pub data Answered (x : Date) : Result ℕ Refusal → Type 0 where
  no_such : date_exists x ≡ false → Answered x (Err NoSuchDate)
  day : (n : ℕ) → n ≤ last_day → date_on n ≡ x → Answered x (Ok n)
  outside : date_exists x ≡ true → ((n : ℕ) → n ≤ last_day → date_on n ≡ x → ⊥) → Answered x (Err OutOfRange)

-- the same by the count of days, which computes at once
unfoldable pub counted : Date → Result ℕ Refusal
counted x =
    cond (date_exists x)
    (cond (leb epoch_serial (serial_of x) && leb (serial_of x - epoch_serial) last_day) (Ok (serial_of x - epoch_serial)) (Err OutOfRange))
    (Err NoSuchDate)

-- no other answer is
answer : (x : Date) (a : Result ℕ Refusal) → Answered x a → day_of_date x ≡ a
unfolding day_of_date date_on
answer x _ (no_such e) = rw e
answer x _ (day n h e) =
    let z : 0 + n ≡ n = omega arith in
    let f = rw z at (found next date_on next-date one-day (suc last_day) 0 n (omega arith)) in
    rw (← e, date-exists n) f
answer x _ (outside e h) = rw e (absent next date_on next-date one-day (suc last_day) 0 x (λ m l. h m (omega arith)))

answered-count : (x : Date) → Answered x (counted x)
unfolding counted
answered-count x = one (date_exists x) refl
  where
    three : date_exists x ≡ true → epoch_serial ≤ serial_of x → (t : Bool) → leb (serial_of x - epoch_serial) last_day ≡ t → Answered x (cond t (Ok (serial_of x - epoch_serial)) (Err OutOfRange))
    three e h true l = day (serial_of x - epoch_serial) (leb-true _ _ l) (sym (is-date-on (serial_of x - epoch_serial) x (record { real = real_of x e; counted = omega arith })))
    three e h false l = outside e (λ n k d. let c = (date-counts n).counted in omega (arith, ap serial_of d, leb-false (serial_of x - epoch_serial) last_day l))

    two : date_exists x ≡ true → (t : Bool) → leb epoch_serial (serial_of x) ≡ t → Answered x (cond (t && leb (serial_of x - epoch_serial) last_day) (Ok (serial_of x - epoch_serial)) (Err OutOfRange))
    two e true l = three e (leb-true epoch_serial (serial_of x) l) (leb (serial_of x - epoch_serial) last_day) refl
    two e false l = outside e (λ n k d. let c = (date-counts n).counted in omega (arith, ap serial_of d, leb-false epoch_serial (serial_of x) l))

    one : (t : Bool) → date_exists x ≡ t → Answered x (cond t (cond (leb epoch_serial (serial_of x) && leb (serial_of x - epoch_serial) last_day) (Ok (serial_of x - epoch_serial)) (Err OutOfRange)) (Err NoSuchDate))
    one true e = two e (leb epoch_serial (serial_of x)) refl
    one false e = no_such e

pub by_count : (x : Date) → day_of_date x ≡ counted x
by_count x = answer x (counted x) (answered-count x)

pub answered : (x : Date) → Answered x (day_of_date x)
answered x = subst (Answered x) (sym (by_count x)) (answered-count x)

-- the day of the date of n is n
pub day-of-date : (n : ℕ) → n ≤ last_day → day_of_date (date_on n) ≡ Ok n
day-of-date n h = answer (date_on n) (Ok n) (day n h refl)

-- the date of the day of a date is that date
pub date-of-day : (x : Date) (n : ℕ) → day_of_date x ≡ Ok n → date_of_day n ≡ Ok x
unfolding date_of_day
date-of-day x n e = go (day_of_date x) (answered x) e
  where
    go : (a : Result ℕ Refusal) → Answered x a → a ≡ Ok n → cond (leb n last_day) (Ok (date_on n)) (Err OutOfRange) ≡ Ok x
    go _ (no_such k) e = absurd cc
    go _ (day m h k) e =
        let z : m ≡ n = cc in
        rw (← z, le-leb m last_day h) (ap Ok k)
    go _ (outside k h) e = absurd cc
