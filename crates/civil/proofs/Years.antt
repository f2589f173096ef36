-- The years from March to March: each is as long as its February says, and a serial number falls in one year only; by
-- single steps of the quotients by 4, 100 and 400.
-- Assumes nothing.
use mathlib.Core.Bool.{Bool, true, false, cond, not, ◌&&◌}
use mathlib.Core.Path.{◌≡◌, refl, ap}
use Prim.Native.Nat.{ℕ, zero, suc, ◌+◌, ◌*◌, ◌-◌, ◌/◌, ◌%◌, ◌≤◌, ◌<◌}
use native.Mathlib.Nat.{add-zero}
use native.Mathlib.Omega.{arith}
use lib.Dec.{leb, ltb, eqb}
use borrow.Author.Tests.{ltb-true, ltb-false, leb-true, leb-false, eqb-true, eqb-false, lt-ltb, le-ltb}
use Rattle.civil.specs.Calendar.{leap}
use Rattle.civil.specs.Serial.{year_start, InYear}

-- 1 where the test holds
abbrev pub unit : Bool → ℕ
unit t = cond t 1 0

-- what a quotient gains in one step
gain : (n a b : ℕ) → (n ≡ 0 → b ≡ a + 1) → ((n ≡ 0 → ⊥) → b ≡ a) → b ≡ a + unit (eqb n 0)
gain n a b h k = go (eqb n 0) refl
  where
    go : (t : Bool) → eqb n 0 ≡ t → b ≡ a + unit t
    go true e = h (eqb-true n 0 e)
    go false e = let s : b ≡ a = k (eqb-false n 0 e) in omega arith

fours : (y : ℕ) → (y + 400) / 4 ≡ (y + 399) / 4 + unit (eqb (y % 4) 0)
fours y = gain (y % 4) ((y + 399) / 4) ((y + 400) / 4) (λ e. omega arith) (λ e. omega arith)

centuries : (y : ℕ) → (y + 400) / 100 ≡ (y + 399) / 100 + unit (eqb (y % 100) 0)
centuries y = gain (y % 100) ((y + 399) / 100) ((y + 400) / 100) (λ e. omega arith) (λ e. omega arith)

fourth-centuries : (y : ℕ) → (y + 400) / 400 ≡ (y + 399) / 400 + unit (eqb (y % 400) 0)
fourth-centuries y = gain (y % 400) ((y + 399) / 400) ((y + 400) / 400) (λ e. omega arith) (λ e. omega arith)

-- the Gregorian leap year, by what the three quotients gain
balance : (y : ℕ) → 1582 < y → unit (eqb (y % 4) 0) + unit (eqb (y % 400) 0) ≡ unit (eqb (y % 100) 0) + unit (leap y)
unfolding leap
balance y h = rw (lt-ltb 1582 y h) (go (eqb (y % 4) 0) (eqb (y % 100) 0) (eqb (y % 400) 0) refl refl refl)
  where
    go : (a b c : Bool) → eqb (y % 4) 0 ≡ a → eqb (y % 100) 0 ≡ b → eqb (y % 400) 0 ≡ c → unit a + unit c ≡ unit b + unit (a && not (b && not c))
    go true true true i j k = refl
    go true true false i j k = refl
    go true false false i j k = refl
    go false false false i j k = refl
    go false true c i j k = absurd (eqb-false (y % 4) 0 i (omega (arith, eqb-true (y % 100) 0 j)))
    go a false true i j k = absurd (eqb-false (y % 100) 0 j (omega (arith, eqb-true (y % 400) 0 k)))

-- the year up to the March of year y has 365 days, or 366 if y is a leap year
abbrev pub Keeps : Bool → ℕ → Type 0
Keeps g y = year_start g (y + 400) ≡ year_start g (y + 399) + 365 + unit (leap y)

pub keeps-julian : (y : ℕ) → y ≤ 1582 → Keeps false y
unfolding leap
keeps-julian y h = rw (le-ltb 1582 y h) (go (eqb (y % 4) 0) (fours y))
  where
    go : (t : Bool) → (y + 400) / 4 ≡ (y + 399) / 4 + unit t → year_start false (y + 400) ≡ year_start false (y + 399) + 365 + unit (t && true)
    go true e = omega arith
    go false e = omega arith

keeps-after : (y : ℕ) → 1582 < y → Keeps true y
keeps-after y h = sum _ _ _ _ _ _ _ _ _ _ (fours y) (centuries y) (fourth-centuries y) (balance y h) (omega arith)
  where
    sum : (a b c a' b' c' i j k l : ℕ) → a' ≡ a + i → b' ≡ b + j → c' ≡ c + k → i + k ≡ j + l → b' ≤ y + 400 → 365 * (y + 400) + a' - b' + c' + 5 ≡ 365 * (y + 399) + a - b + c + 5 + 365 + l
    sum a b c a' b' c' i j k l ea eb ec e hb = omega arith

pub keeps-gregorian : (y : ℕ) → 1582 ≤ y → Keeps true y
unfolding leap
keeps-gregorian y h = go (eqb y 1582) refl
  where
    go : (t : Bool) → eqb y 1582 ≡ t → Keeps true y
    go true e = rw (eqb-true y 1582 e)
    go false e = keeps-after y (omega (arith, eqb-false y 1582 e))

-- a year is longer than 363 days, by either rule
year-wide : (g : Bool) (u : ℕ) → year_start g u + 364 ≤ year_start g (u + 1)
year-wide false u = omega arith
year-wide true u = sum _ _ _ _ _ _ (omega arith) (omega arith) (omega arith) (omega arith)
  where
    sum : (a b c a' b' c' : ℕ) → a ≤ a' → b' ≤ b + 1 → c ≤ c' → b ≤ u → 365 * u + a - b + c + 5 + 364 ≤ 365 * (u + 1) + a' - b' + c' + 5
    sum a b c a' b' c' ha hb hc h = omega arith

years-wide : (g : Bool) (u k : ℕ) → year_start g u + 364 * k ≤ year_start g (u + k)
years-wide g u zero = omega (arith, ap (year_start g) (add-zero u))
years-wide g u (suc k) =
    let e : u + suc k ≡ u + k + 1 = omega arith in
    omega (arith, years-wide g u k, year-wide g (u + k), ap (year_start g) e)

-- a later year begins later
pub later-year : (g : Bool) (u v : ℕ) → u ≤ v → year_start g u + 364 * (v - u) ≤ year_start g v
later-year g u v h =
    let e : u + (v - u) ≡ v = omega arith in
    omega (arith, years-wide g u (v - u), ap (year_start g) e)

not-later : (g : Bool) (s u v : ℕ) → InYear g s u → InYear g s v → v ≤ u
not-later g s u v a b = go (leb v u) refl
  where
    go : (t : Bool) → leb v u ≡ t → v ≤ u
    go true e = leb-true v u e
    go false e = let l : u < v = leb-false v u e in absurd (omega (arith, a.until, b.from, later-year g (u + 1) v (omega arith)))

pub one-year : (g : Bool) (s u v : ℕ) → InYear g s u → InYear g s v → u ≡ v
one-year g s u v a b =
    let h = not-later g s u v a b in
    let k = not-later g s v u b a in
    omega arith

-- the year of a serial number s, by the Julian rule
pub julian-year : (s : ℕ) → InYear false s ((4 * s + 3) / 1461)
julian-year s = record { from = omega arith; until = omega arith }

-- the same by the Gregorian rule: the century, the days within it, and the year within it
module _ (s : ℕ) where
  abbrev pub century : ℕ
  century = (4 * s + 3) / 146097

  abbrev pub in_century : ℕ
  in_century = s - (36524 * century + century / 4)

  abbrev pub year_within : ℕ
  year_within = (4 * in_century + 3) / 1461

pub century-start : (c v : ℕ) → v < 100 → year_start true (100 * c + v) ≡ 36524 * c + c / 4 + (365 * v + v / 4) + 5
century-start c v h = sum _ _ _ _ _ (omega arith) (omega arith) (omega arith) (omega arith)
  where
    sum : (a b d e f : ℕ) → a ≡ 25 * c + e → b ≡ c → d ≡ f → e ≡ v / 4 → 365 * (100 * c + v) + a - b + d + 5 ≡ 36524 * c + f + (365 * v + e) + 5
    sum a b d e f ha hb hd he = omega arith

pub gregorian-year : (s : ℕ) → InYear true (s + 5) (100 * century s + year_within s)
gregorian-year s = go (century s) (year_within s) (omega arith) (omega arith) (omega arith) (omega arith)
  where
    go : (c v : ℕ) → v < 100 → 36524 * c + c / 4 + (365 * v + v / 4) ≤ s → s < 36524 * (c + 1) + (c + 1) / 4 → s < 36524 * c + c / 4 + (365 * (v + 1) + (v + 1) / 4) → InYear true (s + 5) (100 * c + v)
    go c v h a b d = record { from = omega (arith, century-start c v h); until = next (ltb v 99) refl }
      where
        next : (t : Bool) → ltb v 99 ≡ t → s + 5 < year_start true (100 * c + v + 1)
        next true e =
            let l : v + 1 < 100 = omega (arith, ltb-true v 99 e) in
            let k : 100 * c + (v + 1) ≡ 100 * c + v + 1 = omega arith in
            omega (arith, century-start c (v + 1) l, ap (year_start true) k)
        next false e =
            let k : 100 * (c + 1) + 0 ≡ 100 * c + v + 1 = omega (arith, ltb-false v 99 e) in
            omega (arith, century-start (c + 1) 0 (omega arith), ap (year_start true) k)
