-- What only contracts of private functions speak of: a row of the code, and a correction with its sign as a number of
-- seconds forwards.
-- Assumes nothing.
use Rattle.std.specs.Prelude.{◌≡◌, ℕ, ◌+◌, ◌≤◌, ◌%◌, pos, ◌-ℤ◌}
use Rattle.integers.specs.Integers.{reduced}
use Rattle.longitudes.specs.Longitudes.{circle, difference_of}
use Rattle.panchanga.specs.TrueLongitudes.{signed, corrected}
use Rattle.planets.specs.declared.Row.{Row}
use Rattle.planets.specs.Tables.{PlanetRow}

abbrev pub planet_row : Row → PlanetRow
planet_row r = record { sighra = r.sighra; manda = r.manda; apogee = r.apogee }

-- adding c forwards is the correction, and going back c is an anomaly less it
pub record SignedBy (x size c : ℕ) : Type 0 where
  pub small : c ≤ circle
  pub added : (mean : ℕ) → corrected mean x size ≡ (mean + c) % circle
  pub lessened : (first : ℕ) → reduced (pos first -ℤ signed x size) circle ≡ difference_of first c
