-- What a date in range keeps to, and how far its reckoning goes: from the tests, by arithmetic.
-- Assumes nothing.
use mathlib.Core.Bool.{true, ◌&&◌, and-eq-true_iff}
use mathlib.Core.Path.{◌≡◌}
use Prim.Native.Nat.{ℕ, ◌≤◌, ◌<◌}
use native.Mathlib.Omega.{arith}
use lib.Dec.{ltb, leb}
use borrow.Author.Tests.{ltb-true, leb-true}
use Rattle.saka.specs.declared.LunarDate.{LunarDate}
use Rattle.saka.specs.LunarDays.{first_year, last_year, fields_in_range, year_in_range, cycle_of, mean_months, extra_months, reckoned_day}

pub year-bounds : (y : ℕ) → year_in_range y ≡ true → (first_year ≤ y) × (y ≤ last_year)
unfolding year_in_range
year-bounds y e =
    let a = (and-eq-true_iff (leb first_year y) (leb y last_year)).0 e in
    (leb-true first_year y a.0, leb-true y last_year a.1)

pub record InRange (d : LunarDate) : Type 0 where
  pub months : mean_months d < 132
  pub tithis : d.tithis < 30
  pub weekday : d.weekday < 7
  pub cycles : cycle_of d < 100
  pub extra : extra_months d < 11

pub in-range : (d : LunarDate) → fields_in_range d ≡ true → year_in_range d.year ≡ true → InRange d
unfolding fields_in_range extra_months
in-range d e f =
    let a = (and-eq-true_iff (ltb d.months 12) (ltb d.tithis 30 && ltb d.weekday 7)).0 e in
    let b = (and-eq-true_iff (ltb d.tithis 30) (ltb d.weekday 7)).0 a.1 in
    let m = ltb-true d.months 12 a.0 in
    let y = year-bounds d.year f in
    record {
      months = omega arith;
      tithis = ltb-true d.tithis 30 b.0;
      weekday = ltb-true d.weekday 7 b.1;
      cycles = omega arith;
      extra = omega arith;
    }

pub reckoned : (d : LunarDate) (extra : ℕ) → InRange d → extra < 11 → reckoned_day d extra < 1000000
unfolding reckoned_day
reckoned d extra r h = omega arith
