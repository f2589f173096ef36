-- The true Sun and Moon of the mean ones: the mean longitude with its equation, and the Moon's by two editions. The
-- true longitudes are paper 01's true places.
-- Assumes nothing.
use Rattle.std.specs.Prelude.{Bool, cond, ◌||◌, ℕ, ◌*◌, ◌-◌, ◌/◌, leb, eqb, ℤ, pos, neg_ℤ, ◌+ℤ◌}
use Rattle.integers.specs.Integers.{reduced}
use Rattle.longitudes.specs.Longitudes.{circle, difference_of}

-- paper 01's s, an anomaly reduced to 0 to 324000: the bhuja
unfoldable pub bhuja : ℕ → ℕ
bhuja x =
    cond (leb x 324000) x (cond (leb x 648000) (648000 - x) (cond (leb x 972000) (x - 648000) (1296000 - x)))

-- paper 01's Q = s × (648000 − s)
abbrev pub bhuja_product : ℕ → ℕ
bhuja_product s = s * (648000 - s)

-- the size of the equation at the anomaly x, rounded down
unfoldable pub equation : ℕ → ℕ → ℕ → ℕ
equation scale divisor x = scale * bhuja_product (bhuja x) / (divisor - bhuja_product (bhuja x))

-- added for an anomaly up to 648000, and subtracted beyond
unfoldable pub signed : ℕ → ℕ → ℤ
signed x size = cond (leb x 648000) (pos size) (neg_ℤ (pos size))

unfoldable pub corrected : ℕ → ℕ → ℕ → ℕ
corrected mean x size = reduced (pos mean +ℤ signed x size) circle

-- by the anomaly, the apogee less the mean longitude
unfoldable pub true_longitude : ℕ → ℕ → ℕ → ℕ → ℕ
true_longitude scale divisor apogee mean = let x : ℕ = difference_of apogee mean in corrected mean x (equation scale divisor x)

-- the numbers of the Sun's equation, and its apogee, which is fixed
abbrev pub sun_scale : ℕ
sun_scale = 32400

abbrev pub sun_divisor : ℕ
sun_divisor = 538526880000

abbrev pub sun_apogee : ℕ
sun_apogee = 280800

abbrev pub true_sun : ℕ → ℕ
true_sun mean = true_longitude sun_scale sun_divisor sun_apogee mean

-- the Sun's anomaly and its equation
abbrev pub sun_anomaly : ℕ → ℕ
sun_anomaly mean = difference_of sun_apogee mean

abbrev pub sun_equation : ℕ → ℕ
sun_equation mean = equation sun_scale sun_divisor (sun_anomaly mean)

-- the largest that it has, in seconds of arc (the law `shown-near`)
abbrev pub largest_sun_equation : ℕ
largest_sun_equation = 7845

-- the editions: paper 01's rule, and paper 02's second one
abbrev pub first_edition : ℕ
first_edition = 1

abbrev pub second_edition : ℕ
second_edition = 2

unfoldable pub is_edition : ℕ → Bool
is_edition e = eqb e first_edition || eqb e second_edition

-- the numbers of the Moon's equation
abbrev pub moon_scale : ℕ
moon_scale = 72000

abbrev pub moon_divisor : ℕ
moon_divisor = 522547200000

-- the Moon with its own equation
abbrev pub moon_alone : ℕ → ℕ → ℕ
moon_alone apogee mean = true_longitude moon_scale moon_divisor apogee mean

-- and in the second edition after it a twenty-seventh of the Sun's equation, rounded down, with the Sun's sign
unfoldable pub true_moon : ℕ → ℕ → ℕ → ℕ → ℕ
true_moon edition sun apogee mean =
    cond (eqb edition second_edition)
    (corrected (moon_alone apogee mean) (sun_anomaly sun) (sun_equation sun / 27))
    (moon_alone apogee mean)
