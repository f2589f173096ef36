-- The panchanga elements of the true Sun and Moon: paper 01's limbs, as whole quotients after reduction.
-- Assumes nothing.
use Rattle.std.specs.Prelude.{cond, ℕ, ◌+◌, ◌-◌, ◌/◌, ◌%◌, leb, eqb}
use Rattle.longitudes.specs.Longitudes.{circle, difference_of}

-- the tithis elapsed
abbrev pub tithi : ℕ → ℕ → ℕ
tithi sun moon = difference_of moon sun / 43200

abbrev pub nakshatra : ℕ → ℕ
nakshatra moon = moon / 48000

abbrev pub yoga : ℕ → ℕ → ℕ
yoga sun moon = (sun + moon) % circle / 48000

-- after h half tithis, which are below 60: 11 for 0, the seven in turn up to 56, and 8, 9, 10 for 57, 58, 59
unfoldable pub karana_after : ℕ → ℕ
karana_after h = cond (eqb h 0) 11 (cond (leb h 56) ((h - 1) % 7 + 1) (cond (eqb h 57) 8 (cond (eqb h 58) 9 10)))

abbrev pub karana : ℕ → ℕ → ℕ
karana sun moon = karana_after (difference_of moon sun / 21600)
