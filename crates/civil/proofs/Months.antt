-- The months counted from March: the days before them step by the months' lengths, and all that is said of months is
-- linear.
-- Assumes nothing.
use mathlib.Core.Bool.{Bool, true, false, cond, ◌&&◌, and-eq-true_iff}
use mathlib.Core.Logic.{◌⊎◌, inl, inr}
use mathlib.Core.Path.{◌≡◌, refl, ap, ◌∙◌}
use Prim.Native.Nat.{ℕ, zero, suc, ◌+◌, ◌*◌, ◌-◌, ◌/◌, ◌%◌, ◌≤◌, ◌<◌}
use native.Mathlib.Omega.{arith}
use lib.Dec.{eqb, ltb}
use lib.ListN.{get_or}
use borrow.Author.Tests.{ltb-true, ltb-false, eqb-true, eqb-false, ne_eqb, lt-ltb, le-ltb}
use Rattle.civil.specs.Calendar.{lengths, leap, month_days}
use Rattle.civil.specs.Serial.{since_march, march_year, before, year_day}
use Rattle.civil.proofs.Years.{unit}

-- a test passes at each number below n
abbrev every : ℕ → (ℕ → Bool) → Bool
every zero f = true
every (suc n) f = every n f && f n

pub below : (n : ℕ) (f : ℕ → Bool) → every n f ≡ true → (k : ℕ) → k < n → f k ≡ true
below zero f e k h = absurd (omega arith)
below (suc n) f e k h = go (eqb k n) refl (below n f both.0 k)
  where
    both : (every n f ≡ true) × (f n ≡ true)
    both = (and-eq-true_iff (every n f) (f n)).0 e

    go : (t : Bool) → eqb k n ≡ t → (k < n → f k ≡ true) → f k ≡ true
    go true i r = ap f (eqb-true k n i) ∙ both.1
    go false i r = r (omega (arith, eqb-false k n i))

-- the steps of the days before the months are the months' lengths, from March to January: by one test over the eleven
-- steps
pub month-steps : (k : ℕ) → k < 11 → before (suc k) ≡ before k + get_or lengths ((k + 2) % 12) 0
month-steps k h = eqb-true _ _ (below 11 (λ (n : ℕ). eqb (before (suc n)) (before n + get_or lengths ((n + 2) % 12) 0)) refl k h)

pub february : (y : ℕ) → month_days y 2 ≡ 28 + unit (leap y)
unfolding month_days
february y = refl

pub unit-small : (t : Bool) → unit t ≤ 1
unit-small true = omega arith
unit-small false = omega arith

-- any other month ends where the next begins
pub month-length : (y m : ℕ) → 1 ≤ m → m ≤ 12 → (m ≡ 2 → ⊥) → before (suc (since_march m)) ≡ before (since_march m) + month_days y m
unfolding month_days
month-length y m h k n =
    let e : (since_march m + 2) % 12 ≡ m - 1 = omega arith in
    rw (ne_eqb m 2 n) (omega (arith, rw e at (month-steps (since_march m) (omega arith))))

-- the month, counted from March as 0, that has the day n of the year from March on
abbrev pub month_at : ℕ → ℕ
month_at n = (5 * n + 2) / 153

-- how the days of a month lie in that year
pub record InMonth (y m d : ℕ) : Type 0 where
  pub small : d ≤ 31
  pub inside : year_day m d ≤ 336 + 28 + unit (leap y)
  pub other : (m ≡ 2 → ⊥) → year_day m d < 337
  pub found : month_at (year_day m d) ≡ since_march m

pub in-month : (y m d : ℕ) → 1 ≤ m → m ≤ 12 → 1 ≤ d → d ≤ month_days y m → InMonth y m d
in-month y m d h k i j = go (eqb m 2) refl
  where
    go : (t : Bool) → eqb m 2 ≡ t → InMonth y m d
    go true e =
        let two : m ≡ 2 = eqb-true m 2 e in
        let l : d ≤ 28 + unit (leap y) = rw (two, february y) at j in
        let u = unit-small (leap y) in
        record { small = omega arith; inside = omega arith; other = λ n. absurd (n two); found = omega arith }
    go false e =
        let n : m ≡ 2 → ⊥ = eqb-false m 2 e in
        let p : since_march m < 11 = omega arith in
        let f = by-month (since_march m) (month_days y m) p (month-length y m h k n) j in
        record { small = f.0; inside = omega arith; other = λ n. f.1.0; found = f.1.1 }
      where
        by-month : (a l : ℕ) → a < 11 → before (suc a) ≡ before a + l → d ≤ l → (d ≤ 31) × ((before a + (d - 1) < 337) × (month_at (before a + (d - 1)) ≡ a))
        by-month a l p r j = omega arith

pub month-long : (y m : ℕ) → 1 ≤ m → m ≤ 12 → 28 ≤ month_days y m
month-long y m h k = go (eqb m 2) refl
  where
    go : (t : Bool) → eqb m 2 ≡ t → 28 ≤ month_days y m
    go true e = rw (eqb-true m 2 e, february y) (omega arith)
    go false e = omega (arith, month-length y m h k (eqb-false m 2 e))

-- the next month begins where this one ends, after February with another year
pub next-month : (y m : ℕ) → 1 ≤ m → m < 12 → (m ≡ 2) ⊎ ((march_year y (m + 1) ≡ march_year y m) × (before (since_march (m + 1)) ≡ before (since_march m) + month_days y m))
next-month y m h k = go (eqb m 2) refl
  where
    year : (t : Bool) → ltb m 3 ≡ t → (m ≡ 2 → ⊥) → march_year y (m + 1) ≡ y + cond t 399 400
    year true e n = rw (lt-ltb (m + 1) 3 (omega (arith, ltb-true m 3 e)))
    year false e n = rw (le-ltb (m + 1) 3 (omega (arith, ltb-false m 3 e)))

    go : (t : Bool) → eqb m 2 ≡ t → (m ≡ 2) ⊎ ((march_year y (m + 1) ≡ march_year y m) × (before (since_march (m + 1)) ≡ before (since_march m) + month_days y m))
    go true e = inl (eqb-true m 2 e)
    go false e =
        let n : m ≡ 2 → ⊥ = eqb-false m 2 e in
        let p : since_march (m + 1) ≡ suc (since_march m) = omega arith in
        inr (year (ltb m 3) refl n, ap before p ∙ month-length y m h (omega arith) n)
