-- The code's table is the paper's, with each motion forwards, and what is reckoned from its rows fits.
-- Assumes nothing.
use mathlib.Core.Path.{◌≡◌, refl, sym}
use mathlib.Core.Bool.{true}
use mathlib.Core.List.{List, map}
use Prim.Native.Nat.{ℕ, ◌+◌, ◌*◌, ◌-◌, ◌/◌, ◌%◌, ◌≤◌, ◌<◌}
use native.Mathlib.Omega.{arith}
use native.Mathlib.Nat.{mul-le-mul, div-le_self}
use lib.ListN.{get_or}
use Rattle.days.specs.declared.Day.{Day}
use Rattle.days.specs.Days.{in_range}
use Rattle.days.proofs.Laws.{in-range}
use Rattle.longitudes.specs.declared.Motion.{Motion}
use Rattle.longitudes.specs.Longitudes.{circle, Row, no_row, table, mean_longitude, remainder_of, longitude_at, remainder_at, divisor_at}
use Rattle.longitudes.proofs.Mean.{RowInRange, forwards, in-naturals}
use Rattle.longitudes.proofs.Table.{row-in-range, at_map}

abbrev motion_of : Row → Motion
motion_of row = record { k = row.K; d = row.D; p = forwards row.p row.q; q = row.q }

abbrev pub none : Motion
none = record { k = 0; d = 0; p = 0; q = 0 }

abbrev pub motions : List Motion
motions = map motion_of table

-- what the code reckons of a row m, on the day d
pub record Reckoned (m : Motion) (d : Day) (longitude rest q : ℕ) : Type 0 where
  pub amount : m.d ≤ circle
  pub divisor : 0 < m.q
  pub turned : m.k + d.cycle * (circle - m.d) < 100 * circle
  pub product : d.within * m.p < 4016 * 100000000
  pub moved : d.within * m.p / m.q < 4016 * 100000000
  pub whole : (m.k + d.cycle * (circle - m.d) + d.within * m.p / m.q) % circle ≡ longitude
  pub left : d.within * m.p % m.q ≡ rest
  pub over : m.q ≡ q

of_row : (row : Row) (d : Day) → RowInRange row → in_range d ≡ true → Reckoned (motion_of row) d (mean_longitude row d.cycle d.within) (remainder_of row d.cycle d.within) row.q
of_row row d f e =
    let r = in-range d e in
    let m = motion_of row in
    let n = in-naturals row d.cycle d.within f in
    let t : d.cycle * (circle - m.d) ≤ 99 * circle = mul-le-mul {n₁ = d.cycle} {m₁ = circle - m.d} {n₂ = 99} {m₂ = circle} (omega arith) (omega arith) in
    let p : d.within * m.p ≤ 4015 * 100000000 = mul-le-mul {n₁ = d.within} {m₁ = m.p} {n₂ = 4015} {m₂ = 100000000} (omega arith) (omega arith) in
    record {
      amount = f.amount;
      divisor = f.divisor;
      turned = omega arith;
      product = omega arith;
      moved = omega (arith, div-le_self (d.within * m.p) m.q);
      whole = sym n.seconds;
      left = sym n.left;
      over = refl;
    }

pub reckoned : (b : ℕ) (d : Day) → b < 9 → in_range d ≡ true → Reckoned (get_or motions b none) d (longitude_at b d) (remainder_at b d) (divisor_at b)
unfolding longitude_at remainder_at divisor_at table
reckoned b d h e = rw (at_map motion_of table b none no_row h) (of_row (get_or table b no_row) d (row-in-range b h) e)
