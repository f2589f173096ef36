-- A planet's true longitude: paper 02's steps in their order, a definition a step. The planet is what the tables have
-- of it.
-- Assumes nothing.
use Rattle.std.specs.Prelude.{cond, ℕ, ◌-◌, ◌/◌, leb, pos, ◌-ℤ◌}
use Rattle.integers.specs.Integers.{reduced}
use Rattle.longitudes.specs.Longitudes.{circle, difference_of}
use Rattle.panchanga.specs.TrueLongitudes.{bhuja, signed, corrected}
use Rattle.planets.specs.Tables.{PlanetRow, straight_line}

-- an anomaly up to 180°, beyond that 360° less it
unfoldable pub within_half : ℕ → ℕ
within_half x = cond (leb x 648000) x (circle - x)

-- the size of the śīghra correction at an anomaly
unfoldable pub sighra_size : PlanetRow → ℕ → ℕ
sighra_size p x = straight_line p.sighra (within_half x)

-- the size of the manda correction, whose anomaly comes to 0 to 90° as the Sun's does
unfoldable pub manda_size : PlanetRow → ℕ → ℕ
manda_size p x = straight_line p.manda (bhuja x)

module _ (p : PlanetRow) (mean first : ℕ) where
  -- half the śīghra size, rounded down, to the mean planet
  unfoldable pub half_corrected : ℕ
  half_corrected = corrected mean first (sighra_size p first / 2)

  -- the apogee less that place
  unfoldable pub manda_anomaly : ℕ
  manda_anomaly = difference_of p.apogee half_corrected

  -- its correction applied to the mean planet
  unfoldable pub manda_corrected : ℕ
  manda_corrected = corrected mean manda_anomaly (manda_size p manda_anomaly)

  -- the first anomaly less the signed manda correction
  unfoldable pub second_anomaly : ℕ
  second_anomaly = reduced (pos first -ℤ signed manda_anomaly (manda_size p manda_anomaly)) circle

  -- its whole śīghra correction applied to the place so corrected
  unfoldable pub true_planet : ℕ
  true_planet = corrected manda_corrected second_anomaly (sighra_size p second_anomaly)
