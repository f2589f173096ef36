-- True longitudes are below a circle, and each element in its range: what is reduced is below what reduced it.
-- Assumes nothing.
use mathlib.Core.Bool.{Bool, true, false, cond}
use Prim.Native.Nat.{ℕ, ◌+◌, ◌-◌, ◌/◌, ◌%◌, ◌≤◌, ◌<◌}
use native.Mathlib.Omega.{arith}
use lib.Dec.{eqb, leb}
use Rattle.days.specs.declared.Day.{Day}
use Rattle.integers.proofs.Reduced.{reduced-small}
use Rattle.longitudes.specs.Longitudes.{circle, difference_of}
use Rattle.longitudes.proofs.Subtraction.{difference-small}
use Rattle.panchanga.specs.TrueLongitudes.{corrected, true_longitude, second_edition, moon_alone, true_moon}
use Rattle.panchanga.specs.Elements.{karana_after}
use Rattle.panchanga.specs.OnDays.{true_sun_at, true_moon_at, tithi_at, nakshatra_at, yoga_at, karana_at}

true-small : (scale divisor apogee mean : ℕ) → true_longitude scale divisor apogee mean < circle
unfolding true_longitude corrected
true-small scale divisor apogee mean = reduced-small _ circle (omega arith)

pub sun-small : (d : Day) → true_sun_at d < circle
unfolding true_sun_at
sun-small d = true-small _ _ _ _

pub moon-alone-small : (apogee mean : ℕ) → moon_alone apogee mean < circle
moon-alone-small apogee mean = true-small _ _ _ _

corrected-small : (mean x size : ℕ) → corrected mean x size < circle
unfolding corrected
corrected-small mean x size = reduced-small _ circle (omega arith)

pub moon-small : (e : ℕ) (d : Day) → true_moon_at e d < circle
unfolding true_moon_at true_moon
moon-small e d = either (eqb e second_edition) (corrected-small _ _ _) (true-small _ _ _ _)
  where
    either : {a b : ℕ} (t : Bool) → a < circle → b < circle → cond t a b < circle
    either true h k = h
    either false h k = k

pub tithi-small : (e : ℕ) (d : Day) → tithi_at e d < 30
unfolding tithi_at
tithi-small e d = omega (arith, difference-small (true_moon_at e d) (true_sun_at d))

pub nakshatra-small : (e : ℕ) (d : Day) → nakshatra_at e d < 27
unfolding nakshatra_at
nakshatra-small e d = omega (arith, moon-small e d)

pub yoga-small : (e : ℕ) (d : Day) → yoga_at e d < 27
unfolding yoga_at
yoga-small e d = omega arith

after-range : (h : ℕ) → (1 ≤ karana_after h) × (karana_after h ≤ 11)
unfolding karana_after
after-range h = go (eqb h 0) (leb h 56) (eqb h 57) (eqb h 58)
  where
    go : (t u v w : Bool) → (1 ≤ cond t 11 (cond u ((h - 1) % 7 + 1) (cond v 8 (cond w 9 10)))) × (cond t 11 (cond u ((h - 1) % 7 + 1) (cond v 8 (cond w 9 10))) ≤ 11)
    go true u v w = omega arith
    go false true v w = omega arith
    go false false true w = omega arith
    go false false false true = omega arith
    go false false false false = omega arith

pub karana-range : (e : ℕ) (d : Day) → (1 ≤ karana_at e d) × (karana_at e d ≤ 11)
unfolding karana_at
karana-range e d = after-range (difference_of (true_moon_at e d) (true_sun_at d) / 21600)
