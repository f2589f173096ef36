-- How long the parts of a line are: the names of a set's weekdays with that of a day that is not among them, the
-- numbers of a set, an arc; and how large a longitude is. By the digits of each number.
-- Assumes nothing.
use Prim.Native.Nat.{ℕ, zero, suc, ◌+◌, ◌-◌, ◌*◌, ◌≤◌, ◌<◌}
use mathlib.Core.Path.{◌≡◌, refl}
use mathlib.Core.Bool.{Bool, true, false, cond, ◌&&◌, false≢true}
use mathlib.Core.List.{[], ◌++◌}
use native.Mathlib.Omega.{arith}
use lib.Dec.{ltb, leb, eqb}
use lib.ListN.{length, length-append}
use borrow.Author.Tests.{ltb-true, leb-true}
use Rattle.dated.specs.Dated.{angle_bytes}
use Rattle.dated.proofs.Laws.{angle-short}
use Rattle.days.specs.declared.Day.{Day}
use Rattle.days.specs.Weekdays.{in_set}
use Rattle.longitudes.specs.Longitudes.{circle}
use Rattle.panchanga.specs.OnDays.{true_sun_at, true_moon_at}
use Rattle.panchanga.proofs.Bounds.{sun-small, moon-small}
use Rattle.planets.specs.OnDays.{true_planet_at}
use Rattle.planets.proofs.Bounds.{planet-small}
use Rattle.query.specs.declared.Arc.{Arc}
use Rattle.query.specs.Conditions.{has_number, true_longitude_at, arc_in_range}
use Rattle.text.specs.Ascii.{ascii}
use Rattle.text.specs.Decimal.{digits_of}
use Rattle.text.proofs.Printing.{digits-length}
use Rattle.words.specs.Names.{weekday_names}
use Rattle.words.specs.Words.{name_at}
use Rattle.explanation.specs.Explanations.{name_in, names_in, seven_days, number_in, numbers_in, arc_bytes}

module _ (set : ℕ) where
  size : (w : ℕ) → length (name_in set w) ≤ suc (length (name_at weekday_names w))
  unfolding name_in
  size w = go (in_set set w)
    where
      go : (b : Bool) → length (cond b (ascii " " ++ name_at weekday_names w) []) ≤ suc (length (name_at weekday_names w))
      go true = omega arith
      go false = omega arith

  none : (w : ℕ) → in_set set w ≡ false → length (name_in set w) ≡ 0
  unfolding name_in
  none w e = rw e

  -- the names of a set, and the name of a weekday that is not in it
  pub names-short : (w : ℕ) → w < 7 → in_set set w ≡ false → length (names_in set seven_days) + length (name_at weekday_names w) ≤ 56
  unfolding names_in name_at
  names-short zero l e = simp length-append (omega (arith, none 0 e, size 1, size 2, size 3, size 4, size 5, size 6))
  names-short (suc zero) l e = simp length-append (omega (arith, size 0, none 1 e, size 2, size 3, size 4, size 5, size 6))
  names-short (suc (suc zero)) l e = simp length-append (omega (arith, size 0, size 1, none 2 e, size 3, size 4, size 5, size 6))
  names-short (suc (suc (suc zero))) l e = simp length-append (omega (arith, size 0, size 1, size 2, none 3 e, size 4, size 5, size 6))
  names-short (suc (suc (suc (suc zero)))) l e = simp length-append (omega (arith, size 0, size 1, size 2, size 3, none 4 e, size 5, size 6))
  names-short (suc (suc (suc (suc (suc zero))))) l e = simp length-append (omega (arith, size 0, size 1, size 2, size 3, size 4, none 5 e, size 6))
  names-short (suc (suc (suc (suc (suc (suc zero)))))) l e = simp length-append (omega (arith, size 0, size 1, size 2, size 3, size 4, size 5, none 6 e))
  names-short (suc (suc (suc (suc (suc (suc (suc w))))))) l e = absurd (omega arith)

-- a set of an element's numbers, none of which has more than two digits
one-short : (set n : ℕ) → n < 100 → length (number_in set n) ≤ 3
unfolding number_in
one-short set n h = go (has_number set n)
  where
    go : (b : Bool) → length (cond b (ascii " " ++ digits_of n) []) ≤ 3
    go true = omega (arith, digits-length 1 n (omega arith))
    go false = omega arith

pub numbers-short : (set k n : ℕ) → k + n ≤ 100 → length (numbers_in set k n) ≤ 3 * n
unfolding numbers_in
numbers-short set k zero h = omega arith
numbers-short set k (suc n) h = simp length-append (omega (arith, one-short set k (omega arith), numbers-short set (k + 1) n (omega arith)))

-- an arc in range
pub arc-short : (a : Arc) → arc_in_range a ≡ true → length (arc_bytes a) ≤ 20
unfolding arc_bytes arc_in_range
arc-short a h = go a.given (ltb a.start 1296000) (leb 1 a.width) (leb a.width 1296000) refl refl h
  where
    go :
        (g s m w : Bool) →
        ltb a.start 1296000 ≡ s →
        leb a.width 1296000 ≡ w →
        cond g (s && (m && w)) true ≡ true →
        length (cond g (ascii " " ++ (angle_bytes a.start ++ (ascii " " ++ angle_bytes a.width))) []) ≤ 20
    go true true true true e f k =
        simp length-append (omega (arith, angle-short a.start (omega (arith, ltb-true a.start 1296000 e)), angle-short a.width (leb-true _ _ f)))
    go true true true false e f k = absurd (false≢true k)
    go true true false w e f k = absurd (false≢true k)
    go true false m w e f k = absurd (false≢true k)
    go false s m w e f k = omega arith

-- a true longitude is below a circle, as those of Sun, Moon and planets are
pub true-small : (edition place : ℕ) (d : Day) → true_longitude_at edition place d < circle
unfolding true_longitude_at
true-small edition place d = go (eqb place 0) (eqb place 1)
  where
    go : (s m : Bool) → cond s (true_sun_at d) (cond m (true_moon_at edition d) (true_planet_at (place - 2) d)) < circle
    go true m = sun-small d
    go false true = moon-small edition d
    go false false = planet-small (place - 2) d
