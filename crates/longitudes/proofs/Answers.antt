-- The laws of a body's answer: for a day in range its longitude, for any other the refusal, by the one test of its
-- definition; and its thirds.
-- Assumes nothing.
use mathlib.Core.Bool.{Bool, true, false}
use mathlib.Core.Path.{◌≡◌, refl, sym, ap, ◌∙◌}
use Rattle.std.specs.Prelude.{Ok, Err}
use Rattle.std.specs.Result.{result_map_both}
use Prim.Native.Nat.{ℕ, ◌+◌, ◌*◌, ◌/◌, ◌<◌}
use native.Mathlib.Omega.{arith}
use lib.ListN.{get_or}
use Rattle.days.specs.declared.Day.{Day}
use Rattle.days.specs.declared.refusal.Refusal.{Refusal}
use Rattle.days.specs.declared.refusal.Refusal.TheVariants.{OutOfRange}
use Rattle.days.specs.Days.{in_range, answer_on}
use Rattle.days.proofs.Laws.{given, refused, Told, told, refused-too}
use Rattle.integers.specs.Integers.{reduced}
use Rattle.longitudes.specs.declared.Body.{Body}
use Rattle.longitudes.specs.declared.Body.TheVariants.{Sun, Moon, MoonApogee, MoonNode, Mars, MercuryAnomaly, Jupiter, VenusAnomaly, Saturn}
use Rattle.longitudes.specs.declared.MeanLongitude.{MeanLongitude}
use Rattle.longitudes.specs.declared.MeanLongitudes.{MeanLongitudes}
use Rattle.longitudes.specs.Longitudes.{circle, no_row, table, exact_times_q, longitude_at, remainder_at, divisor_at, thirds_at}
use Rattle.longitudes.specs.Answers.{body_number, the_longitude, the_nine, longitude_of, thirds_of, longitudes_of}
use Rattle.longitudes.proofs.Mean.{remainder-below, exact-whole}
use Rattle.longitudes.proofs.Table.{row-in-range, remainder-at, thirds-are, nine-at, thirds-nine-at}

pub longitude-given : (b : Body) (d : Day) → in_range d ≡ true → longitude_of b d ≡ Ok (the_longitude (body_number b) d)
unfolding longitude_of
longitude-given b d e = given (the_longitude (body_number b)) d e

pub longitude-refused : (b : Body) (d : Day) → in_range d ≡ false → longitude_of b d ≡ Err OutOfRange
unfolding longitude_of
longitude-refused b d e = refused (the_longitude (body_number b)) d e

pub longitude-told : (b : Body) (d : Day) {a : MeanLongitude} → Ok a ≡ longitude_of b d → Told (the_longitude (body_number b)) d a
unfolding longitude_of
longitude-told b d e = told (the_longitude (body_number b)) d e

pub given-seconds : (b : Body) (d : Day) {a : MeanLongitude} → Ok a ≡ longitude_of b d → a.seconds ≡ longitude_at (body_number b) d
given-seconds b d e = ap (λ (a : MeanLongitude). a.seconds) (longitude-told b d e).value

-- the seconds that are handed back are those of a number of the day
pub seconds-on-day : (b : Body) (d : Day) → result_map_both (λ (a : MeanLongitude). a.seconds) (λ (r : Refusal). r) (longitude_of b d) ≡ answer_on (longitude_at (body_number b)) d
seconds-on-day b d = go (in_range d) refl
  where
    go : (t : Bool) → in_range d ≡ t → result_map_both (λ (a : MeanLongitude). a.seconds) (λ (r : Refusal). r) (longitude_of b d) ≡ answer_on (longitude_at (body_number b)) d
    go true e = rw (longitude-given b d e, given (longitude_at (body_number b)) d e)
    go false e = rw (longitude-refused b d e, refused (longitude_at (body_number b)) d e)

body-small : (b : Body) → body_number b < 9
body-small Sun = omega arith
body-small Moon = omega arith
body-small MoonApogee = omega arith
body-small MoonNode = omega arith
body-small Mars = omega arith
body-small MercuryAnomaly = omega arith
body-small Jupiter = omega arith
body-small VenusAnomaly = omega arith
body-small Saturn = omega arith

-- WHAT IS LEFT OVER, of the answer itself: it is below its divisor, and with the seconds it is the exact longitude,
-- reduced by whole circles, both sides times the divisor
pub record Whole (b : Body) (d : Day) (a : MeanLongitude) : Type 0 where
  pub below : a.remainder < a.divisor
  pub exact : a.seconds * a.divisor + a.remainder ≡ reduced (exact_times_q (get_or table (body_number b) no_row) d.cycle d.within) (circle * a.divisor)

-- a day in range has such an answer
pub answer-whole : (b : Body) (d : Day) → in_range d ≡ true → (a : MeanLongitude) × (longitude_of b d ≡ Ok a) × Whole b d a
unfolding longitude_at remainder_at divisor_at
answer-whole b d e = (
  the_longitude (body_number b) d,
  longitude-given b d e,
  record {
    below = remainder-below _ _ _ positive;
    exact = exact-whole (get_or table (body_number b) no_row) d.cycle d.within positive;
  },
)
  where
    positive : 0 < (get_or table (body_number b) no_row).q
    positive = (row-in-range (body_number b) (body-small b)).divisor

-- each body's of the nine
pub nine-given : (d : Day) {a : MeanLongitudes} → Ok a ≡ longitudes_of d → (b : ℕ) → b < 9 → (get_or a.longitudes b 0 ≡ longitude_at b d) × (get_or a.thirds b 0 ≡ thirds_at b d)
unfolding longitudes_of
nine-given d e b h = rw (told the_nine d e).value (nine-at b d h, thirds-nine-at b d h)

-- what is left over is below a divisor so small that 60 times it fits
pub thirds-fit : (b : ℕ) (d : Day) {a : MeanLongitude} → a ≡ the_longitude b d → b < 9 → (a.remainder < a.divisor) × (a.divisor < 2000)
thirds-fit b d e h = let r = remainder-at b d h in rw e (r.below, r.small)

pub thirds-found : (b : ℕ) (d : Day) {a : MeanLongitude} → a ≡ the_longitude b d → a.remainder * 60 / a.divisor ≡ thirds_at b d
thirds-found b d e = rw e (sym (thirds-are b d))

-- the thirds of a body's answer
pub answer-fits : (b : Body) (d : Day) {a : MeanLongitude} → Ok a ≡ longitude_of b d → (a.remainder < a.divisor) × (a.divisor < 2000)
answer-fits b d e = thirds-fit (body_number b) d (longitude-told b d e).value (body-small b)

pub thirds-given : (b : Body) (d : Day) {a : MeanLongitude} → Ok a ≡ longitude_of b d → Ok (a.remainder * 60 / a.divisor) ≡ thirds_of b d
thirds-given b d e = let t = longitude-told b d e in ap Ok (thirds-found (body_number b) d t.value) ∙ sym (given (thirds_at (body_number b)) d t.range)

pub thirds-refused : (b : Body) (d : Day) {r : Refusal} → Err r ≡ longitude_of b d → Err r ≡ thirds_of b d
unfolding longitude_of
thirds-refused b d e = refused-too (the_longitude (body_number b)) (thirds_at (body_number b)) d e
