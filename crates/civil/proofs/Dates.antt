-- Which dates exist, as facts of their numbers; the ten lost days as a gap between two stamps.
-- Assumes nothing.
use mathlib.Core.Bool.{Bool, true, false, cond, not, ◌&&◌, and-eq-true_iff, false≢true}
use mathlib.Core.Path.{◌≡◌, refl, sym, ◌∙◌}
use Prim.Native.Nat.{ℕ, ◌+◌, ◌*◌, ◌≤◌, ◌<◌}
use native.Mathlib.Omega.{arith}
use lib.Dec.{leb, ltb, eqb}
use borrow.Author.Tests.{ltb-true, ltb-false, leb-true, leb-false, eqb-true, not-true, lt-ltb, le-leb, eq-eqb}
use Rattle.civil.specs.declared.Date.{Date}
use Rattle.civil.specs.Calendar.{leap, month_days, lost, date_exists}
use Rattle.civil.specs.Serial.{since_march, march_year, before, year_day, stamp, last_julian_stamp, first_gregorian_stamp}
use Rattle.civil.proofs.Months.{unit-small, InMonth, in-month}

-- a month and a day that its year has
pub record Fits (x : Date) : Type 0 where
  pub from_one : 1 ≤ x.month
  pub to-twelve : x.month ≤ 12
  pub first : 1 ≤ x.day
  pub final : x.day ≤ month_days x.year x.month

abbrev pub year_of : Date → ℕ
year_of x = march_year x.year x.month

abbrev pub day_of : Date → ℕ
day_of x = year_day x.month x.day

abbrev pub stamp_of : Date → ℕ
stamp_of x = stamp (year_of x) (day_of x)

october-month : (m : ℕ) → 1 ≤ m → m ≤ 12 → since_march m ≡ 7 → m ≡ 10
october-month m h k e = omega arith

module _ (x : Date) (f : Fits x) where
  pub placed : InMonth x.year x.month x.day
  placed = in-month x.year x.month x.day f.from_one f.to-twelve f.first f.final

  -- the year from March on and the month in it, as one number of months
  pub months : 12 * year_of x + since_march x.month + 3 ≡ 12 * (x.year + 400) + x.month
  months = go (ltb x.month 3) refl
    where
      go : (t : Bool) → ltb x.month 3 ≡ t → 12 * (x.year + cond t 399 400) + since_march x.month + 3 ≡ 12 * (x.year + 400) + x.month
      go true e = omega (arith, ltb-true x.month 3 e, f.from_one)
      go false e = omega (arith, ltb-false x.month 3 e, f.to-twelve)

  pub year-long : day_of x < 366
  year-long = omega (arith, placed.inside, unit-small (leap x.year))

  -- the days of October 1582, by their stamps
  pub october : 793014 ≤ stamp_of x → stamp_of x < 793045 → (x.year ≡ 1582) × ((x.month ≡ 10) × (x.day + 793013 ≡ stamp_of x))
  october h k =
      let l = year-long in
      let y : year_of x ≡ 1982 = omega arith in
      let p : since_march x.month ≡ 7 = omega (arith, placed.found) in
      let m : x.month ≡ 10 = october-month x.month f.from_one f.to-twelve p in
      let b : before (since_march x.month) ≡ 214 = rw m in
      (omega (arith, months), (m, omega (arith, f.first)))

-- a date that exists
pub record Real (x : Date) : Type 0 where
  pub fits : Fits x
  pub kept : last_julian_stamp < stamp_of x → first_gregorian_stamp ≤ stamp_of x

not-lost : (x : Date) → Fits x → lost x ≡ false → last_julian_stamp < stamp_of x → first_gregorian_stamp ≤ stamp_of x
unfolding lost
not-lost x f e h = go (leb first_gregorian_stamp (stamp_of x)) refl
  where
    go : (t : Bool) → leb first_gregorian_stamp (stamp_of x) ≡ t → first_gregorian_stamp ≤ stamp_of x
    go true l = leb-true first_gregorian_stamp (stamp_of x) l
    go false l =
        let k : stamp_of x < first_gregorian_stamp = leb-false first_gregorian_stamp (stamp_of x) l in
        let o = october x f (omega arith) (omega arith) in
        absurd (false≢true (sym e ∙ rw (eq-eqb _ _ o.0, eq-eqb _ _ o.1.0, lt-ltb 4 x.day (omega arith), lt-ltb x.day 15 (omega arith)) refl))

lost-gap : (x : Date) → lost x ≡ true → (last_julian_stamp < stamp_of x) × (stamp_of x < first_gregorian_stamp)
unfolding lost
lost-gap x e =
    let a = (and-eq-true_iff (eqb x.year 1582 && eqb x.month 10 && ltb 4 x.day) (ltb x.day 15)).0 e in
    let b = (and-eq-true_iff (eqb x.year 1582 && eqb x.month 10) (ltb 4 x.day)).0 a.0 in
    let c = (and-eq-true_iff (eqb x.year 1582) (eqb x.month 10)).0 b.0 in
    rw (eqb-true x.year 1582 c.0, eqb-true x.month 10 c.1) (omega (arith, ltb-true 4 x.day b.1, ltb-true x.day 15 a.1))

pub real_of : (x : Date) → date_exists x ≡ true → Real x
unfolding date_exists
real_of x e =
    let month : Bool = leb 1 x.month && leb x.month 12 in
    let final : Bool = leb x.day (month_days x.year x.month) in
    let a = (and-eq-true_iff (month && leb 1 x.day && final) (not (lost x))).0 e in
    let b = (and-eq-true_iff (month && leb 1 x.day) final).0 a.0 in
    let c = (and-eq-true_iff month (leb 1 x.day)).0 b.0 in
    let d = (and-eq-true_iff (leb 1 x.month) (leb x.month 12)).0 c.0 in
    let f : Fits x = record { from_one = leb-true _ _ d.0; to-twelve = leb-true _ _ d.1; first = leb-true _ _ c.1; final = leb-true _ _ b.1 } in
    record { fits = f; kept = not-lost x f (not-true (lost x) a.1) }

pub is_real : (x : Date) → Real x → date_exists x ≡ true
unfolding date_exists
is_real x r =
    let f = r.fits in
    rw (le-leb _ _ f.from_one, le-leb _ _ f.to-twelve, le-leb _ _ f.first, le-leb _ _ f.final) (go (lost x) refl)
  where
    go : (t : Bool) → lost x ≡ t → not t ≡ true
    go false e = refl
    go true e = let g = lost-gap x e in absurd (omega (arith, r.kept g.0))
